use Rattle.std.proofs.Common.{◌≡◌, ◌∙◌, sym, ap, length, Some, None, set, arith}
use Rattle.std.proofs.lemmas.List.{set-get_or}
use Rattle.reclaim.specs.declared.notes.Note.{Note}
use Rattle.reclaim.specs.Notes.{note, seen_in}
use Rattle.reclaim.proofs.NoteLaws.{changed_before, at_place, seen_next, kept_next, all_changed}
use Rattle.reclaim.proofs.notes.see.Goals.{then-names, else-names}
use Rattle.reclaim.proofs.notes.see.Goals as goal

abbrev no_note : Note
no_note = note (record { 0 = 0 }) None

pub loop-note-preserved : goal.loop-note-preserved
loop-note-preserved c =
    let g = c.args.g.now in
    let ns = c.args.notes.now in
    let xs = c.loop-note.notes in
    let i = c.loop-note.note-index in
    elim c.if-names.branch [
      | then-names w ↦
          w.notes-is
          ∙ ap (λ k. set xs i (note (at_place g xs ns i no_note c.loop-note.invariant c.loop-note-test.true).region (Some k))) w.number.ensures.value
          ∙ seen_next g xs ns i no_note c.loop-note.invariant c.loop-note-test.true (sym c.names.ensures ∙ w.if-names.true)
      | else-names w ↦
          w.notes-is
          ∙ set-get_or xs i no_note
          ∙ kept_next g xs ns i no_note c.loop-note.invariant c.loop-note-test.true (sym c.names.ensures ∙ w.if-names.false)
    ]

pub returns : goal.returns
returns c =
    let ns = c.args.notes.now in
    let f = seen_in c.args.g.now in
    let whole : c.loop-note.note-index ≡ length ns = let past = c.loop-note-test.false in let within = c.loop-note.auto.note-index-end in omega arith in
    c.loop-note.invariant ∙ ap (λ k. changed_before f k ns) whole ∙ all_changed f ns
