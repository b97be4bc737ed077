use Rattle.std.proofs.Common.{◌-◌, get_or, ⊎_elim}
use Rattle.change_spans.proofs.ReachLaws.{no_reach, next_has, in_reach}
use Rattle.change_spans.proofs.closing.all_above.Goals.{else-spans-i-via-then-spans-i+else-not-is_above, else-spans-i-via-else-spans-i}
use Rattle.change_spans.proofs.closing.all_above.Goals as goal

pub loop-i-preserved : goal.loop-i-preserved
loop-i-preserved c a m o h =
    let x = get_or c.args.spans.now c.loop-i.i no_reach in
    ⊎_elim
    (λ k. c.loop-i.invariant a m o k)
    (λ k. let p = in_reach x c.args.child (a - c.args.offset) k in
    elim c.else-spans-i.branch [
      | else-spans-i-via-then-spans-i+else-not-is_above w ↦ w.is_above.ensures w.if-not-is_above.false a m o p.1 p.2
      | else-spans-i-via-else-spans-i w ↦ absurd (w.if-spans-i.false p.0)
    ])
    (next_has c.args.spans.now c.loop-i.i no_reach c.args.child (a - c.args.offset) c.loop-i-test.true h)
