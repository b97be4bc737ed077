use Rattle.std.proofs.Common.{Some, None}
use Rattle.std.proofs.lemmas.Result.{IfOk-weaker}
use Rattle.serde_json.specs.View.{view}
use Rattle.scope_run.proofs.Facts.{fails_on, of_state, stops_on}
use Rattle.scope_json.specs.Draws.{TellsDraw}
use Rattle.scope_json.proofs.drawing.draw.Goals as goal
use Rattle.mem_base.proofs.OptionLaws.{if_err}

pub returns-in-Ok-clause-told : goal.returns-in-Ok-clause-told
returns-in-Ok-clause-told c = IfOk-weaker c.draw_in-answer.result _ _
    (λ a t. of_state c.args.script.now c.in-Ok.map (λ s. TellsDraw s c.args.name.now (view a.value)) c.in-Ok.ensures.map t) c.draw_in-answer.ensures.told

pub returns-in-Ok-clause-fails : goal.returns-in-Ok-clause-fails
returns-in-Ok-clause-fails c = if_err _ _ c.draw_in-answer.result
    (λ fault x. fails_on c.args.script.now c.in-Ok.map (Some c.args.name.now) None fault c.in-Ok.ensures.map x) c.draw_in-answer.ensures.fails

pub returns-in-Err-clause-fails : goal.returns-in-Err-clause-fails
returns-in-Err-clause-fails c = stops_on c.args.script.now (Some c.args.name.now) None c.in-Err.stop c.stopped.result c.stopped.ensures c.in-Err.ensures.bad
