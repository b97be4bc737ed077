use Rattle.std.proofs.Common.{◌≡◌, ◌++◌, ◌∙◌, Some, ap, codes, sym, subst}
use Rattle.std.specs.Prelude.{OnOk}
use Rattle.mem_base.specs.script.Spelling.{Text}
use Rattle.script_lint.specs.Blocks.{idle_par, idle_text}
use Rattle.script_lint.proofs.TextLaws.{line_added}
use Rattle.script_lint.proofs.blocks.add_idle_block.Goals as goal

pub returns : goal.returns
returns c =
    let there : Some c.in-Some.number ≡ idle_par c.args.lines.now = sym c.in-Some.is ∙ c.idle_par.ensures in
    subst (λ (t : Text). OnOk c.end.result (c.end.new.self ≡ c.args.out.now ++ t)) (ap idle_text there)
    (line_added c.end.result c.args.out.now c.counted.new.self c.text.new.self c.end.new.self (codes "line ")
    (codes " opens a block in which at most one actor has lines, so nothing runs side by side") c.in-Some.number c.from.result c.from.ensures
    c.in_ok-counted.ensures c.in_ok-text.ensures c.end.ensures)
