use Rattle.std.proofs.Common.{rules, ◌≡◌, ◌++◌, false, ap, sym, ◌∙◌}
use Rattle.std.specs.List.{list_any}
use Rattle.mem_base.specs.script.Spelling.{Text}
use Rattle.race_block.specs.Texts.{gave_order, plain_texts}
use Rattle.race_block.proofs.TextLaws.{plain_lines}
use Rattle.race_block.proofs.texts.text_of.Goals as goal

pub returns-in-Ok : goal.returns-in-Ok
returns-in-Ok c = λ names journal entries.
    let none : list_any gave_order c.args.got.now ≡ false = search rules in
    let written : Text = plain_texts c.args.pass c.args.lines.now c.args.got.now in
    plain_lines names journal c.args.pass c.args.lines.now c.args.got.now entries none
    ∙ sym (c.in-Ok.ensures ∙ ap (λ (t : Text). t ++ written) c.new-text.ensures)
