use Rattle.std.proofs.Common.{Ok, sym, ap, ◌∙◌, subst}
use Rattle.mem_base.specs.script.Operands.{value_in}
use Rattle.mem_base.specs.script.ChangeForms.{change, change_forms}
use Rattle.script_text.specs.Reads.{Stops, chosen}
use Rattle.script_text.proofs.Choices.{tried_none, tried_stops}
use Rattle.script_text.proofs.changes.change.Goals as goal

pub returns-in-Ok-None : goal.returns-in-Ok-None
returns-in-Ok-None c =
    ap change c.in_ok-word.ensures
    ∙ ap (λ o. chosen o c.token.new.self) (tried_none (value_in change_forms c.in_ok-word.word.now) c.token.new.self
    (c.in-Ok-None.ensures ∙ ap Ok c.in-Ok-None.field-0-is))

pub returns-in-Err : goal.returns-in-Err
returns-in-Err c =
    subst (Stops c.in-Err.stop) (sym (ap change c.in_ok-word.ensures))
    (tried_stops (value_in change_forms c.in_ok-word.word.now) c.token.new.self c.in-Err.stop c.in-Err.ensures)
