use Rattle.std.proofs.Common.{◌≡◌, not, drop}
use Rattle.std.specs.List.{list_any}
use Rattle.mem_base.specs.map.Region.{node_of}
use Rattle.mem_base.specs.map.Touched.{stays_alike}
use Rattle.touched_spaces.proofs.touched.any_differs.Given as goal

-- one that differs is among those that are left, if there is one
abbrev pub invariant-loop-region : goal.invariant-loop-region
invariant-loop-region l = list_any (λ r. not (stays_alike (node_of l.old.nodes r) (node_of l.new.nodes r))) (drop l.region-index l.regions)
    ≡ list_any (λ r. not (stays_alike (node_of l.old.nodes r) (node_of l.new.nodes r))) l.regions
