use Rattle.std.proofs.Common.{None}
use Rattle.std.proofs.lemmas.Result.{IfOk-weaker}
use Rattle.scope_run.proofs.Facts.{memory_on}
use Rattle.scope_run.proofs.slotting.slots.Goals as goal
use Rattle.mem_base.proofs.OptionLaws.{if_err}

pub returns-in-Ok-clause-told : goal.returns-in-Ok-clause-told
returns-in-Ok-clause-told c = IfOk-weaker c.slots_of.result _ _ (λ a t. (c.in-Ok.lines, c.in-Ok.ensures, t)) c.slots_of.ensures.told

pub returns-in-Ok-clause-fails : goal.returns-in-Ok-clause-fails
returns-in-Ok-clause-fails c = if_err _ _ c.slots_of.result (λ fault x. memory_on c.args.script.now None None fault x) c.slots_of.ensures.fails
