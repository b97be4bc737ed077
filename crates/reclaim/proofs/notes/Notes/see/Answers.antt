use Rattle.std.proofs.Common.{◌≡◌, List, ◌++◌, sym, subst, ap, ◌∙◌, length, map, take, drop}
use Rattle.std.proofs.lemmas.List.{length-map}
use Rattle.reclaim.specs.declared.notes.Note.{Note}
use Rattle.reclaim.specs.Notes.{AreNotes, seen_in, NoteList}
use Rattle.reclaim.proofs.NoteLaws.{written, notes-seen}
use Rattle.reclaim.proofs.notes.Notes.see.Goals as goal

-- the notes as they are afterwards
seen : (c : goal.After-self-1) → take c.self.inside.items.len (c.see.new.notes ++ drop (length c.see.new.notes) c.self.inside.items.items)
    ≡ map (seen_in c.args.g.now) c.self.inside.items.items
seen c =
    let items = c.self.inside.items.items in
    let f = seen_in c.args.g.now in
    let is : c.see.new.notes ≡ map f items = c.see.ensures ∙ ap (map f) c.as_mut_slice.ensures.value in
    let same : length c.see.new.notes ≡ length items = ap (λ (l : List Note). length l) is ∙ length-map items f in
    let all : c.self.inside.items.len ≡ length items = sym c.as_mut_slice.ensures.len ∙ ap (λ (l : List Note). length l) c.as_mut_slice.ensures.value in
    written c.self.inside.items.len c.see.new.notes items same all ∙ is

pub invariant_of-self : goal.invariant_of-self
invariant_of-self c = subst AreNotes (sym (seen c)) (notes-seen c.args.g.now c.self.inside.items.items c.self.invariant)

pub returns-clause-notes : goal.returns-clause-notes
returns-clause-notes c = seen c ∙ ap (λ (v : NoteList). map (seen_in c.args.g.now) v.notes) c.self.view_is
