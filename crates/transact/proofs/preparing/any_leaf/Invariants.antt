use Rattle.std.proofs.Common.{◌≡◌, drop}
use Rattle.std.specs.List.{list_any}
use Rattle.std.specs.Arc.{arc_value}
use Rattle.mem_base.specs.views.Naming.{has_leaf}
use Rattle.transact.proofs.preparing.any_leaf.Given as goal

-- a leaf is among those that are left, if there is one
abbrev pub invariant-loop-region : goal.invariant-loop-region
invariant-loop-region l =
    list_any (λ r. list_any (λ p. has_leaf r (arc_value p.1)) l.atlases) (drop l.region-index l.regions)
    ≡ list_any (λ r. list_any (λ p. has_leaf r (arc_value p.1)) l.atlases) l.regions
