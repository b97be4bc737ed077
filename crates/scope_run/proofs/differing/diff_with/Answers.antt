use Rattle.std.proofs.lemmas.Result.{IfOk-weaker}
use Rattle.scope_run.specs.Diffs.{TellsDiff}
use Rattle.scope_run.specs.Scripts.{FailsOnSecond}
use Rattle.std.proofs.Common.{subst, sym}
use Rattle.scope_run.proofs.Facts.{of_state, stops_on_second}
use Rattle.scope_run.proofs.differing.diff_with.Goals as goal
use Rattle.mem_base.proofs.OptionLaws.{if_err}

pub returns-in-Ok-clause-told : goal.returns-in-Ok-clause-told
returns-in-Ok-clause-told c = IfOk-weaker c.diff_in-answer.result _ _
    (λ a t. of_state c.args.second.now c.in-Ok.map (λ s. TellsDiff c.args.first.now.state s a.text) c.in-Ok.ensures.map t) c.diff_in-answer.ensures.told

pub returns-in-Ok-clause-fails : goal.returns-in-Ok-clause-fails
returns-in-Ok-clause-fails c =
    if_err _ _ c.diff_in-answer.result (λ fault x. subst (FailsOnSecond c.args.second.now) (sym x) tt) c.diff_in-answer.ensures.fails

pub returns-in-Err-clause-fails : goal.returns-in-Err-clause-fails
returns-in-Err-clause-fails c = stops_on_second c.args.second.now c.in-Err.stop c.stopped.result c.stopped.ensures c.in-Err.ensures.bad
