use Rattle.std.proofs.Common.{◌≡◌, sym, subst, ap, ◌∙◌, true, false, Ok, Err}
use Rattle.mem_base.specs.lists.Sorting.{place_of, put_by}
use Rattle.mem_base.proofs.PlaceLaws.{any-present}
use Rattle.reclaim.specs.Notes.{NoteList, AreNotes, by_region, note_order, is_of, is_noted}
use Rattle.reclaim.proofs.NoteLaws.{is_of-is, put_in, notes-put}
use Rattle.reclaim.proofs.notes.Notes.put.Goals as goal

pub unreachable-requires : goal.unreachable-requires
unreachable-requires c =
    let region = c.args.note.region in
    let items = c.self.inside.items.items in
    let place : place_of (by_region region) items ≡ Ok c.in_default.field-0 =
    sym (c.in_default.ensures.place ∙ ap (place_of (by_region region)) c.as_slice.ensures.value) in
    let yes : is_noted region items ≡ true = any-present (by_region region) (is_of region) (is_of-is region) items c.in_default.field-0 place in
    let no : is_noted region items ≡ false = ap (λ (v : NoteList). is_noted region v.notes) c.self.view_is ∙ c.requires.free in
    cc

-- the note goes where it would stand
placed : (c : goal.In-Ok) → c.insert.new.self.items ≡ put_by note_order c.args.note c.self.inside.items.items
placed c =
    let region = c.args.note.region in
    let items = c.self.inside.items.items in
    let place : place_of (by_region region) items ≡ Err c.in-Err.at =
    sym (c.in-Err.ensures.place ∙ ap (place_of (by_region region)) c.as_slice.ensures.value) in
    c.in-Ok.ensures.items ∙ put_in c.args.note items c.in-Err.at place

pub invariant_of-self : goal.invariant_of-self
invariant_of-self c =
    let items = c.self.inside.items.items in
    let free : is_noted c.args.note.region items ≡ false = ap (λ (v : NoteList). is_noted c.args.note.region v.notes) c.self.view_is ∙ c.requires.free in
    subst AreNotes (sym (placed c)) (notes-put c.args.note items free c.self.invariant)

pub returns-clause-notes : goal.returns-clause-notes
returns-clause-notes c = placed c ∙ ap (λ (v : NoteList). put_by note_order c.args.note v.notes) c.self.view_is
