use Rattle.std.proofs.Common.{◌≡◌, ◌<◌, ◌||◌, ℕ, drop, length}
use Rattle.std.specs.List.{list_any}
use Rattle.std.specs.Arc.{arc_value}
use Rattle.transact.specs.Marks.{has_mark, is_leaf_number}
use Rattle.transact.proofs.marks.leaf_marks.Given as goal

-- what is marked, and the leaves of the views that are left
abbrev pub invariant-loop-atlas : goal.invariant-loop-atlas
invariant-loop-atlas l = record {
  marks : (n : ℕ) → n < length l.marks.items →
      (has_mark l.marks.items n || list_any (λ p. is_leaf_number (arc_value p.1) n) (drop l.atlas-index l.atlases))
      ≡ list_any (λ p. is_leaf_number (arc_value p.1) n) l.atlases;
}
