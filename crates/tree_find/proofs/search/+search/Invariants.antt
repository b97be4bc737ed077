use Rattle.std.proofs.Common.{◌≡◌, ◌+◌, ◌*◌, drop}
use Rattle.mem_base.specs.map.Order.{children_of}
use Rattle.mem_base.specs.map.Search.{found_in, first_of_children}
use Rattle.tree_find.proofs.search.+search.Given as goal

abbrev pub decreases-find_from : goal.decreases-find_from
decreases-find_from l = 6 * l.depth + 1

abbrev pub decreases-find_in : goal.decreases-find_in
decreases-find_in l = 6 * l.depth

abbrev pub decreases-find_at : goal.decreases-find_at
decreases-find_at l = 6 * l.depth + 5

abbrev pub decreases-find_inside : goal.decreases-find_inside
decreases-find_inside l = 6 * l.depth + 4

abbrev pub decreases-find_below : goal.decreases-find_below
decreases-find_below l = 6 * l.depth + 3

abbrev pub decreases-find_child : goal.decreases-find_child
decreases-find_child l = 6 * l.depth + 2

-- nothing was found in the children so far
abbrev pub invariant-find_below-loop-child : goal.invariant-find_below-loop-child
invariant-find_below-loop-child l = record {
  left : first_of_children (found_in l.tree l.depth) (children_of l.tree.nodes l.fn.region) l.at
      ≡ first_of_children (found_in l.tree l.depth) (drop l.child-index (children_of l.tree.nodes l.fn.region)) l.at;
  path : l.path ≡ l.fn.path;
}
