-- What looks wrong in a region of a forest.
-- These are hints, this project's own: each of them may be meant. QEMU's core accepts all of them; its manual ("The memory API",
-- "Overlapping regions and priority") warns of two siblings of one priority that overlap.
use Rattle.std.specs.Prelude.{ℕ, ◌+◌, ◌-◌, Bool, ◌&&◌, ◌||◌, not, nat_le, int_lt, if◌then◌else◌, List, [], ◌++◌, Option, Some, None}
use Rattle.std.specs.Prelude.{find, option_map, option_to_list}
use Rattle.std.specs.Ordering.{is_lt}
use Rattle.mem_base.specs.declared.map.ids.RegionId.{RegionId}
use Rattle.mem_base.specs.declared.map.forests.Node.{Node}
use Rattle.mem_base.specs.declared.map.forests.Forest.{Forest}
use Rattle.mem_base.specs.declared.map.kinds.Kind.{Kind}
use Rattle.mem_base.specs.declared.map.kinds.Kind.TheVariants.{Alias}
use Rattle.mem_base.specs.map.Kinds.{is_alias, is_container}
use Rattle.mem_base.specs.map.Region.{of_region}
use Rattle.mem_base.specs.map.Order.{children_of, trial_order}
use Rattle.mem_base.specs.views.Naming.{names}
use Rattle.map_lint.specs.declared.findings.Finding.{Finding}
use Rattle.map_lint.specs.declared.findings.Finding.TheVariants.{Unreached, Tied, PastTarget, Clipped, Hidden}
use Rattle.map_lint.specs.declared.siblings.Test.{Test}
use Rattle.map_lint.specs.declared.siblings.Test.TheVariants.{Ties, Hides}

-- a region of this kind answers by itself: it is no pure container and no alias
abbrev pub has_own : Kind → Bool
has_own k = not (is_container k || is_alias k)

-- a region that has something of its own, and that no address of any space has as its leaf
abbrev pub unreached : Forest → Node → Option Finding
unreached f n = if has_own n.kind && not (names f n.id) then Some (Unreached n.id) else None

-- an alias that ends after its target does
abbrev pub past_target : List Node → Kind → Node → Option Finding
past_target nodes (Alias target offset) n =
    of_region nodes target None (λ m. if nat_le (offset + n.size) m.size then None else Some (PastTarget n.id target))
past_target nodes _ n = None

-- a region that ends after its container does
abbrev pub clipped : List Node → Option RegionId → Node → Option Finding
clipped nodes None n = None
clipped nodes (Some p) n = of_region nodes p None (λ m. if nat_le (n.offset + n.size) m.size then None else Some (Clipped n.id p))

-- the children of the region's container, in the order of search
abbrev pub siblings_of : List Node → Option RegionId → List Node
siblings_of nodes None = []
siblings_of nodes (Some p) = of_region nodes p [] (λ m. children_of nodes p)

-- the last offset of a region in its container
abbrev pub last_of : Node → ℕ
last_of n = n.offset + (n.size - 1)

-- two siblings overlap
abbrev pub meets : Node → Node → Bool
meets n m = nat_le n.offset (last_of m) && nat_le m.offset (last_of n)

-- the first lies wholly in the place of the second
abbrev pub covers : Node → Node → Bool
covers n m = nat_le m.offset n.offset && nat_le (last_of n) (last_of m)

-- both regions are enabled, and the second is tried first
abbrev pub comes_first : Node → Node → Bool
comes_first n m = n.enabled && m.enabled && is_lt (trial_order m n)

-- two regions have one priority
abbrev pub same_priority : Node → Node → Bool
same_priority n m = not (int_lt n.priority m.priority) && not (int_lt m.priority n.priority)

-- the second overlaps the first at the same priority and is tried first; or it covers the first, is tried first, and answers
-- everywhere in itself
abbrev pub is_such : Test → Node → Node → Bool
is_such Ties n m = comes_first n m && (same_priority n m && meets n m)
is_such Hides n m = comes_first n m && (has_own m.kind && covers n m)

-- a region that overlaps a sibling of the same priority which is tried first
abbrev pub tied : Forest → Node → Option Finding
tied f n = option_map (λ r. Tied n.id r) (option_map (λ m. m.id) (find (is_such Ties n) (siblings_of f.nodes n.parent)))

-- a region that lies wholly under a sibling which is tried first
abbrev pub hidden : Forest → Node → Option Finding
hidden f n = option_map (λ r. Hidden n.id r) (option_map (λ m. m.id) (find (is_such Hides n) (siblings_of f.nodes n.parent)))

-- all that looks wrong in a region
abbrev pub findings_of : Forest → Node → List Finding
findings_of f n =
    option_to_list (unreached f n) ++ option_to_list (tied f n) ++ option_to_list (past_target f.nodes n.kind n)
    ++ option_to_list (clipped f.nodes n.parent n) ++ option_to_list (hidden f n)
