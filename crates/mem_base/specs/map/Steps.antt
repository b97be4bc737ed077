-- The steps from region to region, and how deep and how wide a region is by them.
-- QEMU's manual, "The memory API": an alias may not point back to itself, directly or indirectly. The bounds on
-- depth and weight are this project's own.
use Rattle.std.specs.Prelude.{◌*◌, ℕ, zero, suc, ◌+◌, max, Bool, false, ◌==◌, ◌||◌, List, [], ◌∷◌, map, Option, Some, None}
use Rattle.std.specs.List.{list_any}
use Rattle.mem_base.specs.declared.map.ids.RegionId.{RegionId}
use Rattle.mem_base.specs.declared.map.forests.Node.{Node}
use Rattle.mem_base.specs.declared.map.kinds.Kind.{Kind}
use Rattle.mem_base.specs.declared.map.kinds.Kind.TheVariants.{Alias}
use Rattle.mem_base.specs.map.Region.{node_of}
use Rattle.mem_base.specs.map.Limits.{most_depth}
use Rattle.mem_base.specs.map.Order.{children_of}

-- the regions that one step leads to
abbrev pub Steps : Type 0
Steps = RegionId → List RegionId

-- an alias leads to its target, any other region to its children
abbrev pub steps_at : List Node → Kind → Node → List RegionId
steps_at nodes (Alias target offset) n = target ∷ []
steps_at nodes _ n = map (λ c. c.id) (children_of nodes n.id)

-- the regions that one step leads to from a region, none where it is not there
abbrev pub steps_from : List Node → Option Node → List RegionId
steps_from nodes None = []
steps_from nodes (Some n) = steps_at nodes n.kind n

-- the steps of a forest's regions
abbrev pub steps_of : List Node → Steps
steps_of nodes r = steps_from nodes (node_of nodes r)

-- the greatest of some numbers, 0 of none
abbrev pub greatest : List ℕ → ℕ
greatest [] = 0
greatest (x ∷ xs) = max x (greatest xs)

-- the sum of some numbers
abbrev pub total : List ℕ → ℕ
total [] = 0
total (x ∷ xs) = x + total xs

-- the regions on the longest path from a region, among paths of at most `most` regions
unfoldable pub depth_by : Steps → ℕ → RegionId → ℕ
depth_by steps zero r = 0
depth_by steps (suc most) r = greatest (map (depth_by steps most) (steps r)) + 1

-- one for the region, and all that it leads to, over paths of at most `most` regions
unfoldable pub weight_by : Steps → ℕ → RegionId → ℕ
weight_by steps zero r = 0
weight_by steps (suc most) r = total (map (weight_by steps most) (steps r)) + 1

-- a path of at most `most` regions leads from one region to another
unfoldable pub reaches_by : Steps → ℕ → RegionId → RegionId → Bool
reaches_by steps zero from to = false
reaches_by steps (suc most) from to = (from.0 == to.0) || list_any (λ q. reaches_by steps most q to) (steps from)

-- an Add joins a path down to the container and one from the child on, each of at most `most_depth` regions, so no path
-- that it makes is longer
abbrev pub longest : ℕ
longest = 2 * most_depth

-- the regions on the longest path from a region
abbrev pub depth_of : List Node → RegionId → ℕ
depth_of nodes r = depth_by (steps_of nodes) longest r

-- 1 plus the weights of all that the region leads to
abbrev pub weight_of : List Node → RegionId → ℕ
weight_of nodes r = weight_by (steps_of nodes) longest r

-- steps lead from one region to another, or the two are one
abbrev pub reaches : List Node → RegionId → RegionId → Bool
reaches nodes from to = reaches_by (steps_of nodes) longest from to

-- the greatest depth of all regions
abbrev pub greatest_depth : List Node → ℕ
greatest_depth nodes = greatest (map (λ n. depth_of nodes n.id) nodes)

-- the greatest weight of all regions
abbrev pub greatest_weight : List Node → ℕ
greatest_weight nodes = greatest (map (λ n. weight_of nodes n.id) nodes)
