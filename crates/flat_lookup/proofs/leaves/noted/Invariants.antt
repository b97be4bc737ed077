use Rattle.std.proofs.Common.{◌≡◌, ◌||◌, ℕ, drop, length}
use Rattle.flat_lookup.specs.Leaves.{has_number, leaf_numbers, is_noted}
use Rattle.flat_lookup.proofs.leaves.noted.Given as goal

-- what is noted, and the leaves of the ranges that are left
abbrev pub invariant-loop-range : goal.invariant-loop-range
invariant-loop-range l = record {
  noted : (n : ℕ) → (is_noted l.marks l.others.items n || has_number n (leaf_numbers (drop l.range-index l.ranges))) ≡ has_number n (leaf_numbers l.ranges);
  length : length l.marks ≡ length l.fn.marks;
}
