-- The regions that calls may have changed since the current generation, and what of a space cannot be another where none of
-- them is near it.
-- QEMU's core renders every space again when a transaction ends; that the changed regions are noted is this project's own.
use Rattle.std.specs.Prelude.{◌<◌, ◌||◌, not, Bool, false, List, Option, Some, None, IfSome}
use Rattle.std.specs.List.{list_any}
use Rattle.mem_base.specs.declared.map.ids.RegionId.{RegionId}
use Rattle.mem_base.specs.declared.map.forests.Node.{Node}
use Rattle.mem_base.specs.declared.map.forests.Forest.{Forest}
use Rattle.mem_base.specs.lists.Every.{EveryPair}
use Rattle.mem_base.specs.map.Region.{node_of}
use Rattle.change_laws.specs.Meeting.{is_among, OthersStay}

-- the regions stand by ascending id
abbrev pub Ascend : List RegionId → Type 0
Ascend rs = EveryPair (λ q r. q.0 < r.0) rs

-- each region that was not noted, if any were, is the same in both forests
abbrev pub AreNoted : Forest → Forest → Option (List RegionId) → Type 0
AreNoted f g noted = IfSome noted (OthersStay f g)

-- the container of a region, if any, is among these
abbrev pub is_parent_among : List RegionId → Option RegionId → Bool
is_parent_among rs None = false
is_parent_among rs (Some p) = is_among rs p

abbrev pub is_placed_among : List RegionId → Option Node → Bool
is_placed_among rs None = false
is_placed_among rs (Some n) = is_parent_among rs n.parent

-- none of the noted regions is among those that are reached, and none is now in a container that is
abbrev pub stay_away : List RegionId → List Node → List RegionId → Bool
stay_away noted nodes reach = not (list_any (λ r. is_among reach r || is_placed_among reach (node_of nodes r)) noted)
