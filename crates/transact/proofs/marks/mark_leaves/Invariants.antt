use Rattle.std.proofs.Common.{◌≡◌, ◌||◌, ℕ, drop, length}
use Rattle.transact.specs.Marks.{has_mark, is_leaf_number}
use Rattle.transact.proofs.marks.mark_leaves.Given as goal

-- what is marked, and the leaves of the ranges that are left
abbrev pub invariant-loop-range : goal.invariant-loop-range
invariant-loop-range l = record {
  marks : (n : ℕ) → (has_mark l.marks n || is_leaf_number (drop l.range-index l.ranges) n) ≡ (has_mark l.fn.marks n || is_leaf_number l.ranges n);
  length : length l.marks ≡ length l.fn.marks;
}
