-- What a tree keeps beside its regions: how deep and how wide each is, and which aliases it has.
use Rattle.std.specs.Prelude.{not, ℕ, ◌≡◌, ◌≤◌, ◌+◌, ◌==◌, ◌++◌, Bool, true, min, max, slice_index_or as get_or, slice_set as set, List, []}
use Rattle.std.specs.Prelude.{◌∷◌, map, filter, Option, Some, None}
use Rattle.std.specs.List.{list_any}
use Rattle.mem_base.specs.declared.map.ids.RegionId.{RegionId}
use Rattle.mem_base.specs.declared.map.forests.Node.{Node}
use Rattle.mem_base.specs.map.Order.{ids_of}
use Rattle.mem_base.specs.map.Refusals.{targets}
use Rattle.mem_base.specs.map.Steps.{Steps, steps_of, depth_of, weight_of}
use Rattle.region_slots.specs.declared.slots.Slot.{Slot}
use Rattle.region_extents.specs.declared.extents.Extent.{Extent}
use Rattle.region_extents.specs.declared.extents.Join.{Join}
use Rattle.region_extents.specs.declared.kept.Kept.{Kept}
use Rattle.region_extents.specs.declared.journal.Before.{Before}
use Rattle.mem_base.specs.map.Limits.{most_depth, most_weight}
use Rattle.region_extents.specs.Extents.{steps_with, told_of, stepped, alone}

-- the region is among these
abbrev pub listed : RegionId → List RegionId → Bool
listed r xs = list_any (λ q. q.0 == r.0) xs

-- the aliases of a region, by ascending id
abbrev pub aliases_of : List Node → RegionId → List RegionId
aliases_of nodes r = ids_of (filter (λ n. targets r n.kind) nodes)

abbrev pub aliases_in : List Node → List (List RegionId)
aliases_in nodes = map (λ n. aliases_of nodes n.id) nodes

-- how deep and how wide a region is
unfoldable pub extent_in : List Node → RegionId → Extent
extent_in nodes r = record { depth = depth_of nodes r; weight = weight_of nodes r }

abbrev pub extents_in : List Node → List Extent
extents_in nodes = map (λ n. extent_in nodes n.id) nodes

-- the steps, with one more or without
abbrev pub steps_plus : List Node → Option Join → Steps
steps_plus nodes None q = steps_of nodes q
steps_plus nodes (Some join) q = steps_with nodes join q

-- what is told of a region is what its steps give
abbrev pub IsSettledBy : Steps → List Slot → List Extent → RegionId → Type 0
IsSettledBy steps slots es r = told_of slots es r ≡ stepped (told_of slots es) (steps r)

-- a region within the greatest depth and weight
abbrev pub IsShort : Extent → Type 0
IsShort e = (e.depth ≤ most_depth) × (e.weight ≤ most_weight)

-- the container, if any
abbrev pub container_list : Option RegionId → List RegionId
container_list None = []
container_list (Some p) = p ∷ []

-- the extents as they were before those in a journal were replaced, the last one first
abbrev pub undone : List Before → List Extent → List Extent
undone [] es = es
undone (b ∷ bs) es = set (undone bs es) b.at b.extent

-- what is kept, where it says that it is not out of date, is what is defined
pub record IsBeside (k : Kept) (nodes : List Node) : Type 0 where
  pub extents : k.fresh ≡ true → k.extents.items ≡ extents_in nodes
  pub aliases : k.fresh ≡ true → k.aliases.items ≡ aliases_in nodes

-- one region more and one step more
abbrev pub one_above : Extent → Extent
one_above e = record { depth = min (e.depth + 1) 4294967295; weight = min (e.weight + 1) 18446744073709551615 }

-- the extent of a region that is made, by the place of its target, if it is an alias
abbrev pub made_extent : List Extent → Option ℕ → Extent
made_extent es None = alone
made_extent es (Some i) = one_above (get_or es i alone)

-- the extent of a region that leads to one more
abbrev pub with_child : Extent → Extent → Extent
with_child parent child = record { depth = max parent.depth (child.depth + 1); weight = parent.weight + child.weight }

-- the lists of aliases, with one more alias of the region at a place
abbrev pub enlisted : List (List RegionId) → Option ℕ → RegionId → List (List RegionId)
enlisted lists None id = lists
enlisted lists (Some i) id = set lists i (get_or lists i [] ++ id ∷ [])

-- the lists of aliases, without one alias of the region at a place
abbrev pub delisted : List (List RegionId) → Option ℕ → RegionId → List (List RegionId)
delisted lists None id = lists
delisted lists (Some i) id = set lists i (filter (λ q. not (q.0 == id.0)) (get_or lists i []))
