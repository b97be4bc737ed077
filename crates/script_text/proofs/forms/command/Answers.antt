use Rattle.std.proofs.Common.{List, Ok, option_map, sym, ap, ◌∙◌, subst}
use Rattle.mem_base.specs.script.Spelling.{Text, pass_of}
use Rattle.mem_base.specs.script.Lines.{tokens_of}
use Rattle.mem_base.specs.script.Operands.{value_in}
use Rattle.mem_base.specs.script.ChangeForms.{change_forms}
use Rattle.mem_base.specs.script.DeskForms.{desk_forms}
use Rattle.mem_base.specs.script.PassForms.{pass_line}
use Rattle.script_text.specs.Reads.{Reads, Stops, chosen, tried}
use Rattle.script_text.proofs.Choices.{any_change, any_desk, any_desk_stops, any_pass}
use Rattle.script_text.proofs.forms.command.Goals as goal

pub returns-in-Ok-Some : goal.returns-in-Ok-Some
returns-in-Ok-Some c =
    let word : Text = c.args.word.now in
    let t : List Text = tokens_of c.args.rest.now in
    any_desk (value_in desk_forms word) (value_in change_forms word) (pass_of word) t c.in-Ok-Some.command
    (ap (tried (value_in desk_forms word)) (sym c.new.ensures) ∙ c.in-Ok-Some.ensures ∙ ap Ok c.in-Ok-Some.field-0-is)

pub returns-in-Ok-Some-change_named : goal.returns-in-Ok-Some-change_named
returns-in-Ok-Some-change_named c =
    let word : Text = c.args.word.now in
    let t : List Text = tokens_of c.args.rest.now in
    any_change (value_in desk_forms word) (value_in change_forms word) (pass_of word) t c.in-Ok-Some-change_named.change
    (ap (tried (value_in desk_forms word)) (sym c.new.ensures) ∙ c.in-Ok-None.ensures ∙ ap Ok c.in-Ok-None.field-0-is)
    (ap (tried (value_in change_forms word)) (sym c.new-in-Ok-None.ensures) ∙ c.in-Ok-Some-change_named.ensures ∙ ap Ok c.in-Ok-Some-change_named.field-0-is)

pub returns-in-Ok-None-change_named : goal.returns-in-Ok-None-change_named
returns-in-Ok-None-change_named c =
    let word : Text = c.args.word.now in
    let t : List Text = tokens_of c.args.rest.now in
    let is = any_pass (value_in desk_forms word) (value_in change_forms word) (pass_of word) t
    (ap (tried (value_in desk_forms word)) (sym c.new.ensures) ∙ c.in-Ok-None.ensures ∙ ap Ok c.in-Ok-None.field-0-is)
    (ap (tried (value_in change_forms word)) (sym c.new-in-Ok-None.ensures) ∙ c.in-Ok-None-change_named.ensures ∙ ap Ok c.in-Ok-None-change_named.field-0-is) in
    subst (Reads c.of_pass.result) (ap (chosen (option_map pass_line (pass_of word))) c.new-in-Ok-None-change_named.ensures ∙ sym is) c.of_pass.ensures

pub returns-in-Err : goal.returns-in-Err
returns-in-Err c =
    let word : Text = c.args.word.now in
    let t : List Text = tokens_of c.args.rest.now in
    any_desk_stops (value_in desk_forms word) (value_in change_forms word) (pass_of word) t c.in-Err.stop
    (subst (λ u. Stops c.in-Err.stop (tried (value_in desk_forms word) u)) c.new.ensures c.in-Err.ensures)
