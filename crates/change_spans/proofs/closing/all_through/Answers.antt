use Rattle.std.proofs.Common.{◌+◌, get_or, ⊎_elim}
use Rattle.change_spans.proofs.ReachLaws.{no_reach, next_has, in_reach}
use Rattle.change_spans.proofs.closing.all_through.Goals.{else-spans-i-via-then-spans-i+else-not-is_through, else-spans-i-via-else-spans-i}
use Rattle.change_spans.proofs.closing.all_through.Goals as goal

pub loop-i-preserved : goal.loop-i-preserved
loop-i-preserved c a m h =
    let x = get_or c.args.spans.now c.loop-i.i no_reach in
    ⊎_elim
    (λ k. c.loop-i.invariant a m k)
    (λ k. let p = in_reach x c.args.target (a + c.args.offset) k in
    elim c.else-spans-i.branch [
      | else-spans-i-via-then-spans-i+else-not-is_through w ↦ w.is_through.ensures w.if-not-is_through.false a m p.1 p.2
      | else-spans-i-via-else-spans-i w ↦ absurd (w.if-spans-i.false p.0)
    ])
    (next_has c.args.spans.now c.loop-i.i no_reach c.args.target (a + c.args.offset) c.loop-i-test.true h)
