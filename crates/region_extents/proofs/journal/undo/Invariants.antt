use Rattle.std.proofs.Common.{◌≡◌, ◌≤◌, length, take}
use Rattle.region_extents.specs.Kept.{undone}
use Rattle.region_extents.proofs.journal.undo.Given as goal

-- what is left of the journal gives what all of it gave
abbrev pub invariant-loop-left : goal.invariant-loop-left
invariant-loop-left l = record {
  within : l.left ≤ length l.journal;
  undone : undone (take l.left l.journal) l.known ≡ undone l.journal l.initial.known;
}

abbrev pub decreases-loop-left : goal.decreases-loop-left
decreases-loop-left l = l.left
