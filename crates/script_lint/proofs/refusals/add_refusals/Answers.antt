use Rattle.script_lint.specs.Refusals.{refusal_text}
use Rattle.script_lint.proofs.TextLaws.{flat_next}
use Rattle.script_lint.proofs.refusals.add_refusals.Goals as goal

pub loop-one-preserved : goal.loop-one-preserved
loop-one-preserved c = flat_next (refusal_text c.args.lines.now c.args.refused.now) c.args.refused.now c.loop-one.one-index c.one-item.result c.one-item.result
    c.loop-one.out c.add_refusal.new.out _ c.loop-one-test.true c.one-item.is c.in_ok-add_refusal.ensures c.loop-one.invariant
