use Rattle.std.proofs.Common.{◌≡◌, ◌+◌, ◌*◌, drop}
use Rattle.std.specs.List.{list_any}
use Rattle.mem_base.specs.map.Steps.{steps_of, reaches_by}
use Rattle.region_extents.proofs.paths.+reach.Given as goal

abbrev pub decreases-reaches_any : goal.decreases-reaches_any
decreases-reaches_any l = 2 * l.most + 1

abbrev pub decreases-reaches_within : goal.decreases-reaches_within
decreases-reaches_within l = 2 * l.most

-- none of the regions so far leads there
abbrev pub invariant-reaches_any-loop-id : goal.invariant-reaches_any-loop-id
invariant-reaches_any-loop-id l =
    list_any (λ q. reaches_by (steps_of l.slots) l.most q l.to) l.from ≡ list_any (λ q. reaches_by (steps_of l.slots) l.most q l.to) (drop l.id-index l.from)
