use Rattle.std.proofs.Common.{◌≡◌, ◌++◌, ap, codes, sym, subst}
use Rattle.std.specs.Prelude.{OnOk}
use Rattle.mem_base.specs.script.Spelling.{Text}
use Rattle.script_lint.specs.Refusals.{since_text}
use Rattle.script_lint.proofs.TextLaws.{number_added}
use Rattle.script_lint.proofs.refusals.add_since.Goals as goal

pub returns : goal.returns
returns c =
    subst (λ (t : Text). OnOk c.text.result (c.text.new.self ≡ c.args.out.now ++ t)) (ap since_text (sym c.in-Some.is))
    (number_added c.text.result c.args.out.now c.counted.new.self c.text.new.self (codes ", which line ") (codes " was to make") c.in-Some.number
    c.from.result c.from.ensures c.in_ok-counted.ensures c.text.ensures)
