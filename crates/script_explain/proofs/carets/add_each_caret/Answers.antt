use Rattle.script_explain.proofs.LineLaws.{caret_next}
use Rattle.script_explain.proofs.carets.add_each_caret.Goals as goal

pub loop-preserved : goal.loop-preserved
loop-preserved c = caret_next c.args.bytes.now c.loop.index c.loop.out c.text.new.self _ c.loop-test.true c.in_ok-text.ensures c.loop.invariant
