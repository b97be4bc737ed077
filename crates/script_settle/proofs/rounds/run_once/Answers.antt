use Rattle.std.proofs.lemmas.Result.{IfOk-weaker}
use Rattle.mem_base.specs.script.Scripts.{script_of}
use Rattle.script_settle.proofs.RefusedLaws.{has_refused, memory_is_bad}
use Rattle.script_settle.proofs.rounds.run_once.Goals as goal
use Rattle.mem_base.proofs.OptionLaws.{if_err}

pub returns-in-Ok-clause-refused : goal.returns-in-Ok-clause-refused
returns-in-Ok-clause-refused c = IfOk-weaker c.round_of.result _ _
    (λ round e. has_refused c.args.text.now c.in-Ok.map round.refused c.in-Ok.ensures.map e) c.round_of.ensures.refused

pub returns-in-Ok-clause-bad : goal.returns-in-Ok-clause-bad
returns-in-Ok-clause-bad c = if_err _ _ c.round_of.result (λ stop e. memory_is_bad (script_of c.args.text.now) stop e) c.round_of.ensures.fails
