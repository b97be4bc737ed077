use Rattle.std.proofs.Common.{◌∙◌, ◌-◌, ap, sym, [], ◌∷◌}
use Rattle.std.specs.List.{list_any}
use Rattle.mem_base.specs.map.Steps.{steps_of, reaches_by}
use Rattle.mem_base.specs.map.Order.{children_of}
use Rattle.mem_base.specs.map.Order.{ids_of}
use Rattle.region_extents.proofs.ReachLaws.{reaches_none, reaches_itself, reaches_on, steps_missing, steps_target, steps_below}
use Rattle.region_extents.proofs.paths.+reach.Goals as goal

pub reaches_within-returns-then-most-eq0 : goal.reaches_within-returns-then-most-eq0
reaches_within-returns-then-most-eq0 t c = reaches_none (steps_of c.args.slots.now) c.args.most c.args.from c.args.to c.if-most-eq0.true

pub reaches_within-returns-then-from-to : goal.reaches_within-returns-then-from-to
reaches_within-returns-then-from-to t c = reaches_itself (steps_of c.args.slots.now) c.args.most c.args.from c.args.to c.if-most-eq0.false c.if-from-to.true

pub reaches_within-returns-in_default : goal.reaches_within-returns-in_default
reaches_within-returns-in_default t c =
    reaches_on (steps_of c.args.slots.now) c.args.most c.args.from c.args.to [] c.if-most-eq0.false c.if-from-to.false
    (steps_missing c.args.slots.now c.args.from c.in_default.ensures)

pub reaches_within-returns-in-Some-target : goal.reaches_within-returns-in-Some-target
reaches_within-returns-in-Some-target t c =
    c.reaches_any.ensures
    ∙ reaches_on (steps_of c.args.slots.now) c.args.most c.args.from c.args.to (c.in-Some-target.target ∷ []) c.if-most-eq0.false c.if-from-to.false
    (steps_target c.args.slots.now c.args.from c.in-Some.node.now c.in-Some-target.target c.in-Some.ensures (sym c.in-Some-target.ensures))

pub reaches_within-returns-in-None : goal.reaches_within-returns-in-None
reaches_within-returns-in-None t c =
    c.reaches_any-in-None.ensures
    ∙ ap (list_any (λ q. reaches_by (steps_of c.args.slots.now) (c.args.most - 1) q c.args.to)) c.child_ids.ensures
    ∙ reaches_on (steps_of c.args.slots.now) c.args.most c.args.from c.args.to
    (ids_of (children_of c.args.slots.now c.args.from)) c.if-most-eq0.false c.if-from-to.false
    (steps_below c.args.slots.now c.args.from c.in-Some.node.now c.in-Some.ensures (sym c.in-None.ensures))
