use Rattle.std.proofs.Common.{Some, option_map}
use Rattle.std.proofs.lemmas.Result.{IfOk-weaker}
use Rattle.scope_run.specs.Whys.{TellsWhy}
use Rattle.scope_run.proofs.Facts.{fails_on, of_state, stops_on}
use Rattle.scope_run.proofs.whys.why.Goals as goal
use Rattle.mem_base.proofs.OptionLaws.{if_err}

pub returns-in-Ok-clause-told : goal.returns-in-Ok-clause-told
returns-in-Ok-clause-told c = IfOk-weaker c.why_in-answer.result _ _ (λ a t. of_state c.args.script.now c.in-Ok.map
    (λ s. TellsWhy s c.args.space.now c.args.addr (option_map (λ n. n.now) c.args.region) a.text) c.in-Ok.ensures.map t) c.why_in-answer.ensures.told

pub returns-in-Ok-clause-fails : goal.returns-in-Ok-clause-fails
returns-in-Ok-clause-fails c = if_err _ _ c.why_in-answer.result
    (λ fault x. fails_on c.args.script.now c.in-Ok.map (Some c.args.space.now) (option_map (λ n. n.now) c.args.region) fault c.in-Ok.ensures.map x)
    c.why_in-answer.ensures.fails

pub returns-in-Err-clause-fails : goal.returns-in-Err-clause-fails
returns-in-Err-clause-fails c = stops_on c.args.script.now (Some c.args.space.now) (option_map (λ n. n.now) c.args.region) c.in-Err.stop c.stopped.result
    c.stopped.ensures c.in-Err.ensures.bad
