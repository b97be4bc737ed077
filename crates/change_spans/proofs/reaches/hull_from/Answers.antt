use Rattle.std.proofs.Common.{◌∙◌, arith}
use Rattle.change_spans.proofs.ReachLaws.{hull_then, hull_else}
use Rattle.change_spans.proofs.reaches.hull_from.Goals.{then-spans-i, else-spans-i}
use Rattle.change_spans.proofs.reaches.hull_from.Goals as goal

pub loop-i-preserved : goal.loop-i-preserved
loop-i-preserved c =
    let low = c.loop-i.invariant.low in
    let high = c.loop-i.invariant.high in
    elim c.if-spans-i.branch [
      | then-spans-i w ↦
          let e = w.first-is ∙ w.min-first.ensures in
          let f = w.last-is ∙ w.max-last.ensures in
          record {
            over = hull_then c.args.spans.now c.loop-i.i c.args.region c.loop-i.first c.loop-i.last c.if-spans-i.first c.if-spans-i.last c.loop-i-test.true
                c.loop-i.invariant.over e f;
            low = omega arith;
            high = omega arith;
          }
      | else-spans-i w ↦
          let e = w.first-is in
          let f = w.last-is in
          record {
            over = hull_else c.args.spans.now c.loop-i.i c.args.region c.loop-i.first c.loop-i.last c.if-spans-i.first c.if-spans-i.last c.loop-i-test.true
                c.loop-i.invariant.over w.if-spans-i.false e f;
            low = omega arith;
            high = omega arith;
          }
    ]
