use Rattle.std.proofs.Common.{◌≡◌, drop, filter}
use Rattle.mem_base.specs.map.Refusals.{has_root, least_space}
use Rattle.region_tree.specs.Spaces.{lesser_of}
use Rattle.region_tree.proofs.conditions.first_space.Given as goal

-- the least so far, and of those that are left
abbrev pub invariant-loop-space : goal.invariant-loop-space
invariant-loop-space l = lesser_of l.least (least_space (filter (has_root l.region) (drop l.space-index l.spaces))) ≡ least_space
    (filter (has_root l.region) l.spaces)
