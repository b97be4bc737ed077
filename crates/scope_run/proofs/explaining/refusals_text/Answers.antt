use Rattle.std.proofs.Common.{[], refl, arith}
use Rattle.scope_run.specs.Explains.{TellsRefusal}
use Rattle.scope_run.proofs.ExplainLaws.{refusal_next}
use Rattle.scope_run.proofs.Parts.{grown_all, grown_whole}
use Rattle.scope_run.proofs.explaining.refusals_text.Goals as goal

pub loop-one-init : goal.loop-one-init
loop-one-init c = ([], c.new-text.ensures, refl)

pub loop-one-preserved : goal.loop-one-preserved
loop-one-preserved c = refusal_next c.args.refused.now c.loop-one.one-index c.one-item.result [] c.loop-one.text c.add_refused.new.out
    c.line.result c.words.result.now c.loop-one-test.true c.one-item.is c.loop-one.invariant c.line.ensures c.words.ensures c.in_ok-add_refused.ensures

pub returns : goal.returns
returns c = grown_whole TellsRefusal c.args.refused.now c.loop-one.text
    (grown_all TellsRefusal c.args.refused.now c.loop-one.one-index [] c.loop-one.text (omega arith) c.loop-one.invariant)
