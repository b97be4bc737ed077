use Rattle.std.proofs.Common.{subst}
use Rattle.std.proofs.lemmas.Result.{IfOk-weaker}
use Rattle.scope_run.specs.Explains.{TellsRefusal}
use Rattle.scope_run.specs.Scripts.{TellsAll}
use Rattle.scope_run.proofs.ExplainLaws.{explained, explained_bad}
use Rattle.scope_run.proofs.explaining.explain.Goals as goal

pub returns-in-Ok-clause-told : goal.returns-in-Ok-clause-told
returns-in-Ok-clause-told c = IfOk-weaker c.explain_refused-answer.result _ _ (λ a t. explained c.args.script.now c.in-Ok.map a.text c.in-Ok.ensures.map
    (subst (λ rs. TellsAll TellsRefusal rs a.text) c.refused.ensures t)) c.explain_refused-answer.ensures.told

pub returns-in-Err-Bad-clause-told : goal.returns-in-Err-Bad-clause-told
returns-in-Err-Bad-clause-told c = IfOk-weaker c.explain_bad.result _ _ (λ a t. explained_bad c.args.script.now a.text c.in-Err-Bad.field-0
    c.in-Err-Bad.bad c.in-Err-Bad.field-0-is c.in-Err-Bad.ensures.bad t) c.explain_bad.ensures.told
