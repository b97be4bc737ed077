use Rattle.std.proofs.Common.{◌≡◌}
use Rattle.reclaim.specs.Notes.{seen_in}
use Rattle.reclaim.proofs.NoteLaws.{changed_before}
use Rattle.reclaim.proofs.notes.see.Given as goal

-- the notes so far are changed
abbrev pub invariant-loop-note : goal.invariant-loop-note
invariant-loop-note l = l.notes ≡ changed_before (seen_in l.g) l.note-index l.initial.notes
