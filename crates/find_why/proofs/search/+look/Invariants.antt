use Rattle.std.proofs.Common.{◌+◌, ◌*◌, take}
use Rattle.mem_base.specs.map.Order.{children_of}
use Rattle.mem_base.specs.map.Search.{found_in}
use Rattle.find_why.proofs.SeenLaws.{SoFar}
use Rattle.find_why.proofs.search.+look.Given as goal

abbrev pub decreases-look_from : goal.decreases-look_from
decreases-look_from l = 6 * l.depth + 1

abbrev pub decreases-look_at : goal.decreases-look_at
decreases-look_at l = 6 * l.depth

abbrev pub decreases-look_inside : goal.decreases-look_inside
decreases-look_inside l = 6 * l.depth + 3

abbrev pub decreases-look_through : goal.decreases-look_through
decreases-look_through l = 6 * l.depth + 2

abbrev pub decreases-look_below : goal.decreases-look_below
decreases-look_below l = 6 * l.depth + 2

abbrev pub decreases-look_child : goal.decreases-look_child
decreases-look_child l = 6 * l.depth + 1

-- the children so far were tried
abbrev pub invariant-look_below-loop-child : goal.invariant-look_below-loop-child
invariant-look_below-loop-child l =
    let cs = take l.child-index (children_of l.regions.nodes l.fn.region) in
    SoFar l.regions (found_in l.regions l.depth) cs l.at l.fn.looks l.looks l.trials l.spot
