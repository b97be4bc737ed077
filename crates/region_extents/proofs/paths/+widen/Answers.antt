use Rattle.std.proofs.Common.{◌∙◌, ◌-◌, ◌+◌, ap, sym, [], ◌∷◌, map, arith, rules}
use Rattle.mem_base.specs.map.Steps.{steps_of, weight_by, total}
use Rattle.mem_base.specs.map.Order.{children_of}
use Rattle.mem_base.specs.map.Order.{ids_of}
use Rattle.region_extents.proofs.ReachLaws.{weight_none, weight_on, steps_missing, steps_target, steps_below}
use Rattle.region_extents.proofs.paths.+widen.Goals as goal

pub weight_within-returns-then-most-eq0 : goal.weight_within-returns-then-most-eq0
weight_within-returns-then-most-eq0 t c = weight_none (steps_of c.args.slots.now) c.args.most c.args.region c.if-most-eq0.true

pub weight_within-returns-in_default : goal.weight_within-returns-in_default
weight_within-returns-in_default t c = weight_on (steps_of c.args.slots.now) c.args.most c.args.region [] c.if-most-eq0.false
    (steps_missing c.args.slots.now c.args.region c.in_default.ensures)

pub weight_within-weight_over-requires : goal.weight_within-weight_over-requires
weight_within-weight_over-requires t c =
    let e = weight_on (steps_of c.args.slots.now) c.args.most c.args.region (c.in-Some-target.target ∷ []) c.if-most-eq0.false
    (steps_target c.args.slots.now c.args.region c.in-Some.node.now c.in-Some-target.target c.in-Some.ensures (sym c.in-Some-target.ensures)) in
    let l = c.requires in
    (search rules, omega arith)

pub weight_within-overflow_add-result : goal.weight_within-overflow_add-result
weight_within-overflow_add-result t c =
    let w = c.weight_over.ensures in
    let e = weight_on (steps_of c.args.slots.now) c.args.most c.args.region (c.in-Some-target.target ∷ []) c.if-most-eq0.false
    (steps_target c.args.slots.now c.args.region c.in-Some.node.now c.in-Some-target.target c.in-Some.ensures (sym c.in-Some-target.ensures)) in
    let l = c.requires in omega arith

pub weight_within-weight_over-requires-in-None : goal.weight_within-weight_over-requires-in-None
weight_within-weight_over-requires-in-None t c =
    let e = weight_on (steps_of c.args.slots.now) c.args.most c.args.region (ids_of (children_of c.args.slots.now c.args.region)) c.if-most-eq0.false
    (steps_below c.args.slots.now c.args.region c.in-Some.node.now c.in-Some.ensures (sym c.in-None.ensures)) in
    let l = c.requires in
    let k = ap (λ on. total (map (weight_by (steps_of c.args.slots.now) (c.args.most - 1)) on)) c.child_ids.ensures in
    (search rules, omega arith)

pub weight_within-overflow_add-result-in-None : goal.weight_within-overflow_add-result-in-None
weight_within-overflow_add-result-in-None t c =
    let w = c.weight_over-in-None.ensures ∙ ap (λ l. total (map (weight_by (steps_of c.args.slots.now) (c.args.most - 1)) l)) c.child_ids.ensures in
    let e = weight_on (steps_of c.args.slots.now) c.args.most c.args.region (ids_of (children_of c.args.slots.now c.args.region)) c.if-most-eq0.false
    (steps_below c.args.slots.now c.args.region c.in-Some.node.now c.in-Some.ensures (sym c.in-None.ensures)) in
    let l = c.requires in omega arith

pub weight_within-returns-in-Some-target : goal.weight_within-returns-in-Some-target
weight_within-returns-in-Some-target t c =
    ap (λ k. k + 1) c.weight_over.ensures
    ∙ weight_on (steps_of c.args.slots.now) c.args.most c.args.region (c.in-Some-target.target ∷ []) c.if-most-eq0.false
    (steps_target c.args.slots.now c.args.region c.in-Some.node.now c.in-Some-target.target c.in-Some.ensures (sym c.in-Some-target.ensures))

pub weight_within-returns-in-None : goal.weight_within-returns-in-None
weight_within-returns-in-None t c =
    ap (λ k. k + 1) (c.weight_over-in-None.ensures ∙ ap (λ l. total (map (weight_by (steps_of c.args.slots.now) (c.args.most - 1)) l)) c.child_ids.ensures)
    ∙ weight_on (steps_of c.args.slots.now) c.args.most c.args.region (ids_of (children_of c.args.slots.now c.args.region)) c.if-most-eq0.false
    (steps_below c.args.slots.now c.args.region c.in-Some.node.now c.in-Some.ensures (sym c.in-None.ensures))
