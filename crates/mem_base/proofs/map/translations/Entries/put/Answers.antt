use Rattle.std.proofs.Common.{◌≡◌, ◌+◌, sym, subst, ap, None, Err, ◌∙◌}
use Rattle.mem_base.specs.lists.Sorting.{place_of, put_by}
use Rattle.mem_base.specs.map.Entries.{iova_cmp, AreEntries, least_met, entry_order}
use Rattle.mem_base.proofs.EntryLaws.{entry_gap, entry-inserted, entries-added}
use Rattle.mem_base.proofs.map.translations.Entries.put.Goals as goal
use Rattle.mem_base.proofs.map.translations.Entries.put.Goals.{in-Ok, in-Ok-2}

-- the entry goes where it would stand
placed : (c : goal.In_ok-insert) → c.insert.new.self.items ≡ put_by entry_order c.args.entry c.self.inside.items.items
placed c =
    let entry = c.args.entry in
    let items = c.self.inside.items.items in
    let free : least_met entry.iova (entry.mask + 1) items ≡ None = ap (least_met entry.iova (entry.mask + 1)) c.self.view_is ∙ c.requires.apart in
    let is = c.place_of.ensures.place ∙ ap (place_of (iova_cmp entry.iova)) c.as_slice.ensures.value in
    let gap : place_of (iova_cmp entry.iova) items ≡ Err c.match-place_of.place = elim c.match-place_of.branch [
      | in-Ok w ↦ entry_gap entry items c.place_of.result w.in-Ok.place c.match-place_of.place free is w.in-Ok.is w.place-is
      | in-Ok-2 w ↦ entry_gap entry items c.place_of.result w.in-Ok.place c.match-place_of.place free is w.in-Ok.is w.place-is
    ] in
    c.in_ok-insert.ensures.items ∙ entry-inserted entry items c.match-place_of.place gap

pub invariant_of-self-2 : goal.invariant_of-self-2
invariant_of-self-2 c =
    let entry = c.args.entry in
    let items = c.self.inside.items.items in
    let free : least_met entry.iova (entry.mask + 1) items ≡ None = ap (least_met entry.iova (entry.mask + 1)) c.self.view_is ∙ c.requires.apart in
    subst AreEntries (sym (placed c)) (entries-added entry items c.requires.within free c.self.invariant)

pub returns-clause-ok : goal.returns-clause-ok
returns-clause-ok c = placed c ∙ ap (put_by entry_order c.args.entry) c.self.view_is
