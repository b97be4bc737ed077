use Rattle.std.proofs.Common.{◌∙◌, ◌-◌, ◌+◌, ap, sym, [], ◌∷◌, map}
use Rattle.mem_base.specs.map.Steps.{steps_of, depth_by, greatest}
use Rattle.mem_base.specs.map.Order.{children_of}
use Rattle.mem_base.specs.map.Order.{ids_of}
use Rattle.region_extents.proofs.ReachLaws.{depth_none, depth_on, steps_missing, steps_target, steps_below}
use Rattle.region_extents.proofs.paths.+deepen.Goals as goal

pub depth_within-returns-then-most-eq0-clause-value : goal.depth_within-returns-then-most-eq0-clause-value
depth_within-returns-then-most-eq0-clause-value t c = depth_none (steps_of c.args.slots.now) c.args.most c.args.region c.if-most-eq0.true

pub depth_within-returns-in_default-clause-value : goal.depth_within-returns-in_default-clause-value
depth_within-returns-in_default-clause-value t c =
    depth_on (steps_of c.args.slots.now) c.args.most c.args.region [] c.if-most-eq0.false (steps_missing c.args.slots.now c.args.region c.in_default.ensures)

pub depth_within-returns-in-Some-target-clause-value : goal.depth_within-returns-in-Some-target-clause-value
depth_within-returns-in-Some-target-clause-value t c =
    ap (λ k. k + 1) c.depth_over.ensures.value
    ∙ depth_on (steps_of c.args.slots.now) c.args.most c.args.region (c.in-Some-target.target ∷ []) c.if-most-eq0.false
    (steps_target c.args.slots.now c.args.region c.in-Some.node.now c.in-Some-target.target c.in-Some.ensures (sym c.in-Some-target.ensures))

pub depth_within-returns-in-None-clause-value : goal.depth_within-returns-in-None-clause-value
depth_within-returns-in-None-clause-value t c =
    ap (λ k. k + 1) (c.depth_over-in-None.ensures.value
    ∙ ap (λ l. greatest (map (depth_by (steps_of c.args.slots.now) (c.args.most - 1)) l)) c.child_ids.ensures)
    ∙ depth_on (steps_of c.args.slots.now) c.args.most c.args.region (ids_of (children_of c.args.slots.now c.args.region)) c.if-most-eq0.false
    (steps_below c.args.slots.now c.args.region c.in-Some.node.now c.in-Some.ensures (sym c.in-None.ensures))
