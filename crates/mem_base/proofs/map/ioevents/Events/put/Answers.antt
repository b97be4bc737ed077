use Rattle.std.proofs.Common.{◌≡◌, sym, subst, ap, false, Err, ◌∙◌}
use Rattle.std.specs.List.{list_any}
use Rattle.mem_base.specs.lists.Sorting.{place_of, put_by}
use Rattle.mem_base.specs.map.Events.{AreEvents, event_order}
use Rattle.mem_base.proofs.EventLaws.{stands_to, is_same, event_gap, event-inserted, events-put}
use Rattle.mem_base.proofs.map.ioevents.Events.put.Goals as goal
use Rattle.mem_base.proofs.map.ioevents.Events.put.Goals.{in-Ok, in-Ok-2}

-- the ioeventfd goes where it would stand
placed : (c : goal.In_ok-insert) → c.insert.new.self.items ≡ put_by event_order c.args.event c.self.inside.items.items
placed c =
    let event = c.args.event in
    let items = c.self.inside.items.items in
    let free : list_any (is_same event) items ≡ false = ap (list_any (is_same event)) c.self.view_is ∙ c.requires in
    let is = c.place_of.ensures.place ∙ ap (place_of (stands_to event)) c.as_slice.ensures.value in
    let gap : place_of (stands_to event) items ≡ Err c.match-place_of.place = elim c.match-place_of.branch [
      | in-Ok w ↦ event_gap event items c.place_of.result w.in-Ok.place c.match-place_of.place free is w.in-Ok.is w.place-is
      | in-Ok-2 w ↦ event_gap event items c.place_of.result w.in-Ok.place c.match-place_of.place free is w.in-Ok.is w.place-is
    ] in
    c.in_ok-insert.ensures.items ∙ event-inserted event items c.match-place_of.place gap

pub invariant_of-self-2 : goal.invariant_of-self-2
invariant_of-self-2 c =
    let event = c.args.event in
    let items = c.self.inside.items.items in
    let free : list_any (is_same event) items ≡ false = ap (list_any (is_same event)) c.self.view_is ∙ c.requires in
    subst AreEvents (sym (placed c)) (events-put event items free c.self.invariant)

pub returns-clause-ok : goal.returns-clause-ok
returns-clause-ok c = placed c ∙ ap (put_by event_order c.args.event) c.self.view_is
