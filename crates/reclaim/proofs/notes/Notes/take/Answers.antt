use Rattle.std.proofs.Common.{◌≡◌, sym, subst, ap, ◌∙◌, Ok, Err, Some}
use Rattle.std.specs.Prelude.{find}
use Rattle.mem_base.specs.lists.Sorting.{place_of}
use Rattle.mem_base.proofs.PlaceLaws.{remove-place_of, filter-absent}
use Rattle.reclaim.specs.declared.notes.Note.{Note}
use Rattle.reclaim.specs.Notes.{NoteList, AreNotes, by_region, is_of, others}
use Rattle.reclaim.proofs.NoteLaws.{is_of-is, rises_notes, found_at, not_found, notes-others}
use Rattle.reclaim.proofs.notes.Notes.take.Goals as goal

place : (c : goal.After-remove) → place_of (by_region c.args.region) c.self.inside.items.items ≡ Ok c.in-Ok.at
place c = sym (c.in-Ok.ensures.place ∙ ap (place_of (by_region c.args.region)) c.as_slice.ensures.value)

-- what is left
left : (c : goal.After-remove) → c.remove.new.self.items ≡ others c.args.region c.self.inside.items.items
left c =
    let region = c.args.region in
    let items = c.self.inside.items.items in
    c.remove.ensures.items
    ∙ remove-place_of (by_region region) (is_of region) (is_of-is region) items c.in-Ok.at (rises_notes region items c.self.invariant) (place c)

pub invariant_of-self : goal.invariant_of-self
invariant_of-self c = subst AreNotes (sym (left c)) (notes-others c.args.region c.self.inside.items.items c.self.invariant)

pub returns-in-Ok-clause-note : goal.returns-in-Ok-clause-note
returns-in-Ok-clause-note c =
    ap (λ (n : Note). Some n) c.remove.ensures.value
    ∙ sym (found_at c.args.region c.self.inside.items.items c.in-Ok.at c.remove.result (place c))
    ∙ ap (λ (v : NoteList). find (is_of c.args.region) v.notes) c.self.view_is

pub returns-in-Ok-clause-notes : goal.returns-in-Ok-clause-notes
returns-in-Ok-clause-notes c = left c ∙ ap (λ (v : NoteList). others c.args.region v.notes) c.self.view_is

no_place : (c : goal.In-Err) → place_of (by_region c.args.region) c.self.inside.items.items ≡ Err c.in-Err.field-0
no_place c = sym (c.in-Err.ensures.place ∙ ap (place_of (by_region c.args.region)) c.as_slice.ensures.value)

pub returns-in-Err-clause-note : goal.returns-in-Err-clause-note
returns-in-Err-clause-note c =
    sym (not_found c.args.region c.self.inside.items.items c.in-Err.field-0 c.self.invariant (no_place c))
    ∙ ap (λ (v : NoteList). find (is_of c.args.region) v.notes) c.self.view_is

pub returns-in-Err-clause-notes : goal.returns-in-Err-clause-notes
returns-in-Err-clause-notes c =
    let region = c.args.region in
    let items = c.self.inside.items.items in
    sym (ap (λ (v : NoteList). others region v.notes) (sym c.self.view_is)
    ∙ filter-absent (by_region region) (is_of region) (is_of-is region) items c.in-Err.field-0 (rises_notes region items c.self.invariant) (no_place c)
    ∙ ap (λ (v : NoteList). v.notes) c.self.view_is)
