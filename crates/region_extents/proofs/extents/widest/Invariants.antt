use Rattle.std.proofs.Common.{◌≡◌, max, map, drop}
use Rattle.mem_base.specs.map.Steps.{greatest}
use Rattle.region_extents.proofs.extents.widest.Given as goal

-- the greatest so far and of those that are left
abbrev pub invariant-loop-one : goal.invariant-loop-one
invariant-loop-one l = record {
  depth : greatest (map (λ e. e.depth) l.extents) ≡ max l.depth (greatest (map (λ e. e.depth) (drop l.one-index l.extents)));
  weight : greatest (map (λ e. e.weight) l.extents) ≡ max l.weight (greatest (map (λ e. e.weight) (drop l.one-index l.extents)));
}
