use Rattle.std.proofs.Common.{◌≡◌, drop}
use Rattle.std.specs.List.{list_any}
use Rattle.mem_base.specs.views.Naming.{has_leaf}
use Rattle.touched_spaces.proofs.noted.Noted.any_leaf.Given as goal

-- a leaf is among those that are left, if one is
abbrev pub invariant-loop-region : goal.invariant-loop-region
invariant-loop-region l = list_any (λ r. has_leaf r l.atlas) (drop l.region-index l.region-items) ≡ list_any (λ r. has_leaf r l.atlas) l.region-items
