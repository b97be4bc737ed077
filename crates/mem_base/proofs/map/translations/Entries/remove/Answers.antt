use Rattle.std.proofs.Common.{◌≡◌, sym, subst, ap, not, filter, Ok, Err, ◌∙◌}
use Rattle.mem_base.specs.declared.map.translations.Entry.{Entry}
use Rattle.mem_base.specs.lists.Sorting.{place_of}
use Rattle.mem_base.specs.map.Entries.{iova_cmp, AreEntries, has_iova}
use Rattle.mem_base.proofs.PlaceLaws.{remove-place_of, filter-absent}
use Rattle.mem_base.proofs.EntryLaws.{rises_entries, has_iova-is, entries-filter}
use Rattle.mem_base.proofs.map.translations.Entries.remove.Goals as goal

pub invariant_of-self : goal.invariant_of-self
invariant_of-self c =
    let iova = c.args.iova in
    let items = c.self.inside.items.items in
    let place : place_of (iova_cmp iova) items ≡ Ok c.in-Ok.place = sym (c.in-Ok.ensures.place ∙ ap (place_of (iova_cmp iova)) c.as_slice.ensures.value) in
    let left = c.remove.ensures.items ∙ remove-place_of (iova_cmp iova) (has_iova iova) (has_iova-is iova) items c.in-Ok.place
    (rises_entries iova items c.self.invariant) place in
    subst AreEntries (sym left) (entries-filter (λ e. not (has_iova iova e)) items c.self.invariant)

pub returns-in-Ok : goal.returns-in-Ok
returns-in-Ok c =
    let iova = c.args.iova in
    let items = c.self.inside.items.items in
    let place : place_of (iova_cmp iova) items ≡ Ok c.in-Ok.place = sym (c.in-Ok.ensures.place ∙ ap (place_of (iova_cmp iova)) c.as_slice.ensures.value) in
    c.remove.ensures.items
    ∙ remove-place_of (iova_cmp iova) (has_iova iova) (has_iova-is iova) items c.in-Ok.place (rises_entries iova items c.self.invariant) place
    ∙ ap (filter (λ (e : Entry). not (has_iova iova e))) c.self.view_is

pub returns-in_default : goal.returns-in_default
returns-in_default c =
    let iova = c.args.iova in
    let items = c.self.inside.items.items in
    let place : place_of (iova_cmp iova) items ≡ Err c.in_default.field-0 =
    sym (c.in_default.ensures.place ∙ ap (place_of (iova_cmp iova)) c.as_slice.ensures.value) in
    sym (ap (filter (λ (e : Entry). not (has_iova iova e))) (sym c.self.view_is)
    ∙ filter-absent (iova_cmp iova) (has_iova iova) (has_iova-is iova) items c.in_default.field-0 (rises_entries iova items c.self.invariant) place
    ∙ c.self.view_is)
