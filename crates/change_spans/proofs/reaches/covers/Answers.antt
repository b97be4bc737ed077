use Rattle.std.proofs.Common.{get_or, eq-eqb}
use Rattle.change_spans.proofs.ReachLaws.{no_reach, has_at, reach_has}
use Rattle.change_spans.proofs.reaches.covers.Goals as goal

pub returns-then-last-spans : goal.returns-then-last-spans
returns-then-last-spans c e a l k =
    has_at c.args.spans.now c.loop-i.i no_reach c.args.region a c.loop-i-test.true
    (reach_has (get_or c.args.spans.now c.loop-i.i no_reach) c.args.region c.args.first c.args.last a (eq-eqb _ _ c.if-spans-i.true) c.if-spans-i-2.true
    c.if-last-spans.true l k)
