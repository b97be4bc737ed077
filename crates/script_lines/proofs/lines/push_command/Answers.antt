use Rattle.std.proofs.Common.{[], ◌∷◌, ◌++◌, ap, ◌∙◌, append_assoc, rules}
use Rattle.mem_base.specs.script.Printing.{command_tokens, spaced}
use Rattle.script_lines.proofs.Tokens.{without_space}
use Rattle.script_lines.proofs.lines.push_command.Goals as goal

pub returns : goal.returns
returns c =
    let text = c.args.text.now.items in
    let tokens = command_tokens c.args.command.now in
    c.in_ok-push.ensures.items
    ∙ ap (λ t. t ++ 10 ∷ [])
    (c.remove.ensures.by_index.2 ∙ without_space text c.push_tokens.new.text.items tokens c.len-start.result (search rules) c.in_ok-push_tokens.ensures)
    ∙ append_assoc text (spaced tokens) (10 ∷ [])
