use Rattle.std.proofs.Common.{◌∙◌, ◌-◌, ◌==◌, sym, ap, Bool, List, [], ◌∷◌, arith}
use Rattle.std.specs.List.{list_any}
use Rattle.mem_base.specs.map.Steps.{steps_of, reaches_by}
use Rattle.mem_base.specs.map.Order.{children_of, ids_of}
use Rattle.mem_base.proofs.StepLaws.{every_of}
use Rattle.region_extents.specs.Marks.{marked}
use Rattle.region_extents.proofs.ReachLaws.{steps_target, steps_below, reaches_zero, reaches_nowhere, marked_none, marked_further, marked_step, marked_last}
use Rattle.region_extents.proofs.paths.+mark.Goals as goal

pub mark_within-returns-then-most-eq0-clause-marked : goal.mark_within-returns-then-most-eq0-clause-marked
mark_within-returns-then-most-eq0-clause-marked t c =
    let nodes = c.args.slots.now in
    sym (marked_none nodes (λ r. reaches_by (steps_of nodes) c.args.most c.args.region r) c.args.marks.now
    (every_of _ (λ n. reaches_zero (steps_of nodes) c.args.most c.args.region n.id c.if-most-eq0.true) nodes))

pub mark_within-returns-in_default-clause-marked : goal.mark_within-returns-in_default-clause-marked
mark_within-returns-in_default-clause-marked t c =
    let nodes = c.args.slots.now in
    sym (marked_none nodes (λ r. reaches_by (steps_of nodes) c.args.most c.args.region r) c.args.marks.now
    (reaches_nowhere nodes c.args.most c.args.region (sym c.in_default.ensures)))

pub mark_within-returns-in-Some-target-clause-marked : goal.mark_within-returns-in-Some-target-clause-marked
mark_within-returns-in-Some-target-clause-marked t c =
    let nodes = c.args.slots.now in
    let on = c.in-Some-target.target ∷ [] in
    let to_all = λ (bs : List Bool). marked nodes (λ r. list_any (λ q. reaches_by (steps_of nodes) (c.args.most - 1) q r) on) bs in
    c.mark_all.ensures.marked
    ∙ ap to_all (c.mark.ensures.marked ∙ ap (λ ns. marked ns (λ r. c.args.region.0 == r.0) c.args.marks.now) c.as_slice.ensures.nodes)
    ∙ marked_further nodes c.args.most c.args.region on c.args.marks.now c.if-most-eq0.false
    (steps_target nodes c.args.region c.in-Some.node.now c.in-Some-target.target c.in-Some.ensures (sym c.in-Some-target.ensures))

pub mark_within-returns-in-None-clause-marked : goal.mark_within-returns-in-None-clause-marked
mark_within-returns-in-None-clause-marked t c =
    let nodes = c.args.slots.now in
    let on = ids_of (children_of nodes c.args.region) in
    let to_all = λ (bs : List Bool). marked nodes (λ r. list_any (λ q. reaches_by (steps_of nodes) (c.args.most - 1) q r) on) bs in
    c.mark_all-in-None.ensures.marked
    ∙ ap (λ l. marked nodes (λ r. list_any (λ q. reaches_by (steps_of nodes) (c.args.most - 1) q r) l) c.mark.new.marks) c.child_ids.ensures
    ∙ ap to_all (c.mark.ensures.marked ∙ ap (λ ns. marked ns (λ r. c.args.region.0 == r.0) c.args.marks.now) c.as_slice.ensures.nodes)
    ∙ marked_further nodes c.args.most c.args.region on c.args.marks.now c.if-most-eq0.false
    (steps_below nodes c.args.region c.in-Some.node.now c.in-Some.ensures (sym c.in-None.ensures))

pub mark_all-loop-id-preserved : goal.mark_all-loop-id-preserved
mark_all-loop-id-preserved t c = record {
  all = c.mark_within.ensures.all ∙ c.loop-id.invariant.all;
  marked = marked_step c.args.slots.now (λ q r. reaches_by (steps_of c.args.slots.now) c.args.most q r) c.args.regions.now c.loop-id.id-index
      (record { 0 = 0 }) c.loop-id.marks c.mark_within.new.marks c.loop-id-test.true c.mark_within.ensures.marked ∙ c.loop-id.invariant.marked;
}

pub mark_all-returns-clause-marked : goal.mark_all-returns-clause-marked
mark_all-returns-clause-marked t c =
    sym (marked_last c.args.slots.now (λ q r. reaches_by (steps_of c.args.slots.now) c.args.most q r) c.args.regions.now c.loop-id.id-index c.loop-id.marks
    (omega (arith, c.loop-id-test.false)))
    ∙ c.loop-id.invariant.marked
