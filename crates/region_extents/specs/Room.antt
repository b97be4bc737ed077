-- How much room two limits leave beside a depth and a weight.
use Rattle.std.specs.Prelude.{ℕ, ◌-◌, Bool, ◌&&◌, nat_le, if◌then◌else◌, List, Option, Some, None}
use Rattle.std.specs.List.{list_all}
use Rattle.mem_base.specs.declared.map.forests.Node.{Node}
use Rattle.mem_base.specs.map.Limits.{most_depth, most_weight}
use Rattle.mem_base.specs.map.Steps.{depth_by, weight_by, longest}
use Rattle.region_extents.specs.declared.extents.Join.{Join}
use Rattle.region_extents.specs.Extents.{steps_with}

-- what is left of some room once a weight is taken from it, where that and the depth are within their limits
abbrev pub room_left : ℕ → ℕ → ℕ → ℕ → Option ℕ
room_left deepest room depth weight = if nat_le depth deepest && nat_le weight room then Some (room - weight) else None

abbrev pub is_within : ℕ → ℕ → Bool
is_within depth weight = nat_le depth most_depth && nat_le weight most_weight

-- with one more step each region is within the greatest depth and weight
abbrev pub are_within : List Node → Join → Bool
are_within nodes join =
    let steps = steps_with nodes join in list_all (λ n. is_within (depth_by steps longest n.id) (weight_by steps longest n.id)) nodes
