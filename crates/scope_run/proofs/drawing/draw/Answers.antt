use Rattle.std.proofs.Common.{◌≡◌, None, Some, is_some, true}
use Rattle.mem_base.specs.script.States.{space_named}
use Rattle.scope_run.proofs.Facts.{fails_on, of_state, on_ok, stops_on}
use Rattle.scope_run.proofs.drawing.draw.Goals as goal
use Rattle.mem_base.proofs.OptionLaws.{if_err}

pub returns-in-Ok-clause-named : goal.returns-in-Ok-clause-named
returns-in-Ok-clause-named c = on_ok _ _ c.draw_in-answer.result
    (λ h. of_state c.args.script.now c.in-Ok.map (λ s. is_some (space_named s c.args.space.now) ≡ true) c.in-Ok.ensures.map h) c.draw_in-answer.ensures.named

pub returns-in-Ok-clause-fails : goal.returns-in-Ok-clause-fails
returns-in-Ok-clause-fails c = if_err _ _ c.draw_in-answer.result
    (λ fault x. fails_on c.args.script.now c.in-Ok.map (Some c.args.space.now) None fault c.in-Ok.ensures.map x) c.draw_in-answer.ensures.fails

pub returns-in-Err-clause-fails : goal.returns-in-Err-clause-fails
returns-in-Err-clause-fails c = stops_on c.args.script.now (Some c.args.space.now) None c.in-Err.stop c.stopped.result c.stopped.ensures c.in-Err.ensures.bad
