-- The order in which the children of one region are tried.
-- QEMU's manual, "The memory API", "Overlapping regions and priority": a higher priority hides a lower one, and
-- priorities are compared only among the children of one container. Among equal priorities QEMU's core tries
-- the child that was placed last first.
use Rattle.std.specs.Prelude.{List, map, filter}
use Rattle.std.specs.declared.cmp.Ordering.{Ordering}
use Rattle.std.specs.Ordering.{nat_cmp, int_cmp, ordering_then}
use Rattle.mem_base.specs.declared.map.ids.RegionId.{RegionId}
use Rattle.mem_base.specs.declared.map.forests.Node.{Node}
use Rattle.mem_base.specs.map.Region.{is_child_of}
use Rattle.mem_base.specs.lists.Sorting.{sorted_by}

-- by priority descending, and then by placing number descending
abbrev pub trial_order : Node → Node → Ordering
trial_order x y = ordering_then (int_cmp y.priority x.priority) (nat_cmp y.placing x.placing)

-- the children of a region, in the order in which they are tried
abbrev pub children_of : List Node → RegionId → List Node
children_of nodes r = sorted_by trial_order (filter (is_child_of r) nodes)

-- the ids of some regions
abbrev pub ids_of : List Node → List RegionId
ids_of nodes = map (λ n. n.id) nodes
