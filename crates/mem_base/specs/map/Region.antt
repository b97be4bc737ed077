-- Regions by their ids and by their containers.
use Rattle.std.specs.Prelude.{◌<◌, Bool, false, ◌==◌, List, [], ◌∷◌, Option, Some, None, find, unwrap_or, option_map}
use Rattle.mem_base.specs.declared.map.ids.RegionId.{RegionId}
use Rattle.mem_base.specs.declared.map.forests.Node.{Node}
use Rattle.mem_base.specs.lists.Every.{Every}

-- the node's id is this one
abbrev pub has_id : RegionId → Node → Bool
has_id r n = n.id.0 == r.0

-- the node with this id
abbrev pub node_of : List Node → RegionId → Option Node
node_of nodes r = find (has_id r) nodes

-- what the region with this id has; the default where it is not there
abbrev pub of_region : {A : Type 0} → List Node → RegionId → A → (Node → A) → A
of_region nodes r default has = unwrap_or (option_map has (node_of nodes r)) default

-- the regions stand by ascending id
abbrev pub IsAscending : List Node → Type 0
IsAscending [] = Unit {0}
IsAscending (n ∷ ns) = Every (λ m. n.id.0 < m.id.0) ns × IsAscending ns

-- the container is this one
abbrev pub is_in : RegionId → Option RegionId → Bool
is_in r None = false
is_in r (Some p) = p.0 == r.0

-- the region is in this container
abbrev pub is_child_of : RegionId → Node → Bool
is_child_of r n = is_in r n.parent
