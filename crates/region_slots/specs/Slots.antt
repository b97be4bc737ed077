-- Regions beside the lists of their children.
use Rattle.std.specs.Prelude.{ℕ, ◌≡◌, false, ◌+◌, ◌-◌, ◌==◌, not, int_lt, if◌then◌else◌, ℤ, List, [], ◌∷◌, map, filter}
use Rattle.mem_base.specs.declared.map.ids.RegionId.{RegionId}
use Rattle.mem_base.specs.declared.map.forests.Node.{Node}
use Rattle.mem_base.specs.declared.map.forests.Forest.{Forest}
use Rattle.mem_base.specs.lists.Every.{Every}
use Rattle.mem_base.specs.map.Order.{children_of}
use Rattle.mem_base.specs.map.Region.{IsAscending}
use Rattle.mem_base.specs.map.Forest.{IsOrderedForest}
use Rattle.region_slots.specs.declared.children.Child.{Child}
use Rattle.region_slots.specs.declared.slots.Slot.{Slot}

-- what a search needs of a child: its last offset is its size less 1
abbrev pub child_of : Node → Child
child_of n = record { id = n.id; offset = n.offset; last = n.size - 1; priority = n.priority }

-- the same of some regions
abbrev pub placed_of : List Node → List Child
placed_of nodes = map child_of nodes

-- the ids of some children
abbrev pub ids_in : List Child → List RegionId
ids_in cs = map (λ c. c.id) cs

abbrev pub nodes_of : List Slot → List Node
nodes_of slots = map (λ s. s.node) slots

-- the children that stand with a region are its children, in the order of search
abbrev pub HasItsChildren : List Node → Slot → Type 0
HasItsChildren nodes s = s.children ≡ placed_of (children_of nodes s.node.id)

-- the regions stand by ascending id, each with its children
pub record AreKept (slots : List Slot) : Type 0 where
  pub ascending : IsAscending (nodes_of slots)
  pub children : Every (HasItsChildren (nodes_of slots)) slots

-- a forest has these regions, and this number of placings was made in it
pub record AreIn (f : Forest) (nodes : List Node) (placings : ℕ) : Type 0 where
  pub forest : IsOrderedForest f
  pub same_nodes : f.nodes ≡ nodes
  pub same_placings : f.placings ≡ placings

-- how many of the first children have a higher priority
abbrev pub rank_in : ℤ → List Child → ℕ
rank_in priority [] = 0
rank_in priority (c ∷ cs) = if int_lt priority c.priority then rank_in priority cs + 1 else 0

-- no child has a higher priority than one before it
abbrev pub AreByPriority : List Child → Type 0
AreByPriority [] = Unit {0}
AreByPriority (c ∷ cs) = Every (λ d. int_lt c.priority d.priority ≡ false) cs × AreByPriority cs

-- the children without one region
abbrev pub others : RegionId → List Child → List Child
others r cs = filter (λ c. not (c.id.0 == r.0)) cs

-- the child has another last offset, if its id is this one
abbrev pub one_resized : RegionId → ℕ → Child → Child
one_resized r last c = if c.id.0 == r.0 then record c { last = last } else c

-- the children, of which the one with this id has another last offset
abbrev pub resized : RegionId → ℕ → List Child → List Child
resized r last cs = map (one_resized r last) cs
