use Rattle.std.proofs.Common.{◌≡◌, drop}
use Rattle.std.specs.List.{list_any}
use Rattle.std.specs.Arc.{arc_value}
use Rattle.mem_base.specs.views.Naming.{has_leaf}
use Rattle.generation.proofs.atlases.is_leaf_among.Given as goal

-- the leaf is in the views that are left, if it is in any
abbrev pub invariant-loop-atlas : goal.invariant-loop-atlas
invariant-loop-atlas l = list_any (λ p. has_leaf l.region (arc_value p.1)) (drop l.atlas-index l.atlases)
    ≡ list_any (λ p. has_leaf l.region (arc_value p.1)) l.atlases
