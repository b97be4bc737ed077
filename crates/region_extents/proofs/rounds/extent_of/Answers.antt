use Rattle.std.proofs.Common.{arith}
use Rattle.region_slots.specs.Slots.{nodes_of}
use Rattle.region_extents.specs.Extents.{steps_with}
use Rattle.region_extents.proofs.ExtentsLaws.{extent_elsewhere, extent_here, greatest_within, extent_by-depth, extent_by-weight, total_within, total_here}
use Rattle.mem_base.specs.map.Steps.{steps_of}
use Rattle.region_extents.proofs.rounds.extent_of.Goals as goal

pub extent_below-below-requires-clause-few : goal.extent_below-below-requires-clause-few
extent_below-below-requires-clause-few c =
    let h = total_within (nodes_of c.args.slots.now) c.args.join c.args.round c.args.slot.now.node.id in
    omega (arith, c.requires.few)

pub overflow_add-result : goal.overflow_add-result
overflow_add-result c =
    let d = c.extent_below-below.ensures.depth in
    let a = greatest_within (steps_with (nodes_of c.args.slots.now) c.args.join) c.args.round (steps_of (nodes_of c.args.slots.now) c.args.slot.now.node.id) in
    let b = extent_by-depth (nodes_of c.args.slots.now) c.args.join c.args.round c.args.join.child _ c.extent_at-joined.ensures in
    omega arith

pub overflow_add-result-then-slot-join : goal.overflow_add-result-then-slot-join
overflow_add-result-then-slot-join c =
    let w = c.extent_below-below.ensures.weight in
    let a = total_here (nodes_of c.args.slots.now) c.args.join c.args.round c.args.slot.now.node.id c.if-slot-join.true in
    let b = extent_by-weight (nodes_of c.args.slots.now) c.args.join c.args.round c.args.join.child _ c.extent_at-joined.ensures in
    let l = c.requires.few in
    omega arith

pub overflow_add-result-then-slot-join-2 : goal.overflow_add-result-then-slot-join-2
overflow_add-result-then-slot-join-2 c =
    let w = c.extent_below-below.ensures.weight in
    let a = total_here (nodes_of c.args.slots.now) c.args.join c.args.round c.args.slot.now.node.id c.if-slot-join.true in
    let b = extent_by-weight (nodes_of c.args.slots.now) c.args.join c.args.round c.args.join.child _ c.extent_at-joined.ensures in
    let l = c.requires.few in
    omega arith

pub overflow_add-result-else-slot-join : goal.overflow_add-result-else-slot-join
overflow_add-result-else-slot-join c =
    let d = c.extent_below-below.ensures.depth in
    let a = greatest_within (steps_with (nodes_of c.args.slots.now) c.args.join) c.args.round (steps_of (nodes_of c.args.slots.now) c.args.slot.now.node.id) in
    omega arith

pub overflow_add-result-else-slot-join-2 : goal.overflow_add-result-else-slot-join-2
overflow_add-result-else-slot-join-2 c =
    let w = c.extent_below-below.ensures.weight in
    let h = total_within (nodes_of c.args.slots.now) c.args.join c.args.round c.args.slot.now.node.id in
    let l = c.requires.few in
    omega arith

pub returns-then-slot-join : goal.returns-then-slot-join
returns-then-slot-join c =
    let m = c.max.ensures in
    rw m (extent_here (nodes_of c.args.slots.now) c.args.join c.args.round c.args.slot.now.node.id c.extent_below-below.result c.extent_at-joined.result
    c.if-slot-join.true c.extent_below-below.ensures.depth c.extent_below-below.ensures.weight c.extent_at-joined.ensures)

pub returns-else-slot-join : goal.returns-else-slot-join
returns-else-slot-join c =
    extent_elsewhere (nodes_of c.args.slots.now) c.args.join c.args.round c.args.slot.now.node.id c.extent_below-below.result c.if-slot-join.false
    c.extent_below-below.ensures.depth c.extent_below-below.ensures.weight
