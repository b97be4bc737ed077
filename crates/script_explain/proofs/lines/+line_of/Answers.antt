use Rattle.std.proofs.Common.{◌≡◌, ◌<◌, ◌==◌, ◌+◌, ◌-◌, ◌∙◌, None, drop, position, arith, ap, sym}
use Rattle.std.specs.List.{slice_split}
use Rattle.std.proofs.lemmas.List.{drop-drop}
use Rattle.mem_base.specs.script.Lines.{without_return}
use Rattle.mem_base.specs.script.Spelling.{Text}
use Rattle.script_text.proofs.Parts.{none_from_not_some}
use Rattle.script_explain.specs.Faults.{part_at}
use Rattle.script_explain.proofs.LineLaws.{first_line, last_line, next_line, no_line}
use Rattle.script_explain.proofs.lines.+line_of.Goals as goal

pub returns-then-number-eq0 : goal.returns-then-number-eq0
returns-then-number-eq0 t c =
    let none : position (λ b. b == 10) c.args.text.now ≡ None =
    sym c.line_end.ensures.value ∙ none_from_not_some c.line_end.result c.in_default.not-Some
    in sym (last_line c.args.text.now c.args.number none c.if-number-eq0.true)

pub returns-else-number-eq0 : goal.returns-else-number-eq0
returns-else-number-eq0 t c =
    let none : position (λ b. b == 10) c.args.text.now ≡ None =
    sym c.line_end.ensures.value ∙ none_from_not_some c.line_end.result c.in_default.not-Some
    in
    let more : 0 < c.args.number = omega arith in sym (no_line c.args.text.now c.args.number none more)

pub returns-then-number-eq0-2 : goal.returns-then-number-eq0-2
returns-then-number-eq0-2 t c =
    c.without_return.ensures ∙ ap without_return c.split_at.ensures.front
    ∙ sym (first_line c.args.text.now c.in-Some.end c.args.number (sym c.line_end.ensures.value ∙ c.in-Some.is) c.if-number-eq0-2.true)

pub returns : goal.returns
returns t c =
    let more : 0 < c.args.number = omega arith in
    let rest : c.split_at-2.result.1.now ≡ drop (c.in-Some.end + 1) c.args.text.now =
    c.split_at-2.ensures.back ∙ ap (drop 1) c.split_at.ensures.back ∙ drop-drop 1 c.in-Some.end c.args.text.now
    in
    c.line_of.ensures ∙ ap (λ (u : Text). part_at (c.args.number - 1) (slice_split (λ b. b == 10) u)) rest
    ∙ sym (next_line c.args.text.now c.in-Some.end c.args.number (sym c.line_end.ensures.value ∙ c.in-Some.is) more)
