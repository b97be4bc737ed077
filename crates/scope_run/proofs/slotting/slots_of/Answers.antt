use Rattle.std.proofs.lemmas.Result.{IfOk-weaker}
use Rattle.script_map.specs.Left.{all_shown}
use Rattle.scope_run.proofs.TableLaws.{slots_whole}
use Rattle.scope_run.proofs.slotting.slots_of.Goals as goal

pub returns-in-Ok-clause-told : goal.returns-in-Ok-clause-told
returns-in-Ok-clause-told c = IfOk-weaker c.slots_in-answer.result _ _ (λ a t. slots_whole c.args.text.now c.args.script.now c.in-Ok.history.map
    (all_shown c.in-Ok.history.published.items) a.text c.in-Ok.ensures.map c.in-Ok.ensures.published t) c.slots_in-answer.ensures.told
