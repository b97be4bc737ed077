use Rattle.std.proofs.Common.{◌≡◌, ◌⊎◌, inl, inr, ◌∙◌, sym, ap, drop, ◌++◌, [], arith}
use Rattle.mem_base.specs.views.LiveEvents.{without}
use Rattle.ioevents.proofs.DifferLaws.{turn_less, turn_greater, turn_equal, ended, drop-past}
use Rattle.ioevents.proofs.differing.apart.Goals as goal
use Rattle.ioevents.proofs.differing.apart.Goals.{then-loop-i-test+else-j-new, else-loop-i-test}

pub loop-i-preserved-in-Less : goal.loop-i-preserved-in-Less
loop-i-preserved-in-Less c =
    let w = c.loop-i.invariant in
    let turn = turn_less c.args.old.now c.args.new.now c.loop-i.lost.items c.loop-i.gained.items c.loop-i.i c.loop-i.j _ _ c.loop-i-test.true c.if-j-new.true
    w.differing (sym c.compare.ensures ∙ c.in-Less.is) in
    record { differing = rw c.in_ok-push-in-Less.ensures.items turn; within_old = let l = c.loop-i-test.true in omega arith; within_new = w.within_new }

pub loop-i-preserved-in-Equal : goal.loop-i-preserved-in-Equal
loop-i-preserved-in-Equal c =
    let w = c.loop-i.invariant in
    let turn = turn_equal c.args.old.now c.args.new.now c.loop-i.lost.items c.loop-i.gained.items c.loop-i.i c.loop-i.j _ _ c.loop-i-test.true
    c.if-j-new.true w.differing (sym c.compare.ensures ∙ c.in-Equal.is) in
    record { differing = turn; within_old = let l = c.loop-i-test.true in omega arith; within_new = let l = c.if-j-new.true in omega arith }

pub loop-i-preserved : goal.loop-i-preserved
loop-i-preserved c =
    let w = c.loop-i.invariant in
    let turn = turn_greater c.args.old.now c.args.new.now c.loop-i.lost.items c.loop-i.gained.items c.loop-i.i c.loop-i.j _ _ c.loop-i-test.true
    c.if-j-new.true w.differing (sym c.compare.ensures ∙ c.in-Greater.is) in
    record { differing = rw c.in_ok-push-in-Greater.ensures.items turn; within_old = w.within_old; within_new = let l = c.if-j-new.true in omega arith }

-- one of the lists is at its end
at_end : (c : goal.In_ok-extend_from_slice-2) → (drop c.loop-i.i c.args.old.now ≡ []) ⊎ (drop c.loop-i.j c.args.new.now ≡ [])
at_end c = elim c.loop-i-test.branch [
  | then-loop-i-test+else-j-new w ↦ inr (drop-past c.loop-i.j c.args.new.now (let l = w.if-j-new.false in omega arith))
  | else-loop-i-test w ↦ inl (drop-past c.loop-i.i c.args.old.now (let l = w.loop-i-test.false in omega arith))
]

both_ended : (c : goal.In_ok-extend_from_slice-2) → (c.loop-i.lost.items ++ drop c.loop-i.i c.args.old.now ≡ without c.args.old.now c.args.new.now)
    × (c.loop-i.gained.items ++ drop c.loop-i.j c.args.new.now ≡ without c.args.new.now c.args.old.now)
both_ended c = ended c.args.old.now c.args.new.now c.loop-i.lost.items c.loop-i.gained.items (drop c.loop-i.i c.args.old.now)
    (drop c.loop-i.j c.args.new.now) (at_end c) c.loop-i.invariant.differing

pub returns-clause-lost : goal.returns-clause-lost
returns-clause-lost c = c.in_ok-extend_from_slice.ensures.items ∙ ap (λ l. c.loop-i.lost.items ++ l) c.split_at.ensures.back ∙ (both_ended c).0

pub returns-clause-gained : goal.returns-clause-gained
returns-clause-gained c = c.in_ok-extend_from_slice-2.ensures.items ∙ ap (λ l. c.loop-i.gained.items ++ l) c.split_at-2.ensures.back ∙ (both_ended c).1
