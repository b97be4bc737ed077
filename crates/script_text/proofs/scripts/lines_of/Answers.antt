use Rattle.std.proofs.Common.{◌≡◌, ◌+◌, arith, take, drop, sym, ap, ◌∙◌, Ok, Err, subst}
use Rattle.std.proofs.lemmas.List.{drop-drop}
use Rattle.mem_base.specs.script.Lines.{line_of, without_return}
use Rattle.script_text.specs.Parses.{Steps}
use Rattle.script_text.proofs.Parts.{bad_end, bad_line, good_end, good_line, none_from_not_some, open_end}
use Rattle.script_text.proofs.scripts.lines_of.Goals as goal

pub returns-in-Err : goal.returns-in-Err
returns-in-Err c =
    let text : c.without_return.result.now ≡ without_return (take c.in-Some.end c.loop-end.rest.now) = c.without_return.ensures
    ∙ ap without_return c.split_at.ensures.front in
    bad_line c.in-Err.fault c.loop-end.section c.loop-end.line c.in-Some.end c.loop-end.rest.now c.loop-end.lines c.step.new.lines _
    (sym c.line_end.ensures ∙ c.in-Some.is)
    (subst (λ t. Steps (Err c.in-Err.fault) c.loop-end.section c.loop-end.line (line_of t) c.loop-end.lines c.step.new.lines) text
    c.in-Err.ensures) c.loop-end.invariant.1

pub loop-end-preserved : goal.loop-end-preserved
loop-end-preserved c =
    let text : c.without_return.result.now ≡ without_return (take c.in-Some.end c.loop-end.rest.now) = c.without_return.ensures
    ∙ ap without_return c.split_at.ensures.front in
    let rest : c.split_at-in-Some.result.1.now ≡ drop (c.in-Some.end + 1) c.loop-end.rest.now =
    c.split_at-in-Some.ensures.back ∙ ap (drop 1) c.split_at.ensures.back ∙ drop-drop 1 c.in-Some.end c.loop-end.rest.now in
    let next = good_line c.loop-end.section c.in-Ok.next c.loop-end.line c.in-Some.end c.loop-end.rest.now c.loop-end.lines c.step.new.lines _
    (sym c.line_end.ensures ∙ c.in-Some.is)
    (subst (λ t. Steps (Ok c.in-Ok.next) c.loop-end.section c.loop-end.line (line_of t) c.loop-end.lines c.step.new.lines) text c.in-Ok.ensures)
    c.loop-end.invariant.1 in
    (omega (arith, c.loop-end.invariant.0, c.split_at-in-Some.ensures.back_len, c.split_at.ensures.back_len), rw rest next)

pub returns-in-Ok-closed : goal.returns-in-Ok-closed
returns-in-Ok-closed c =
    good_end c.loop-end.section c.in-Ok-step.last c.loop-end.line c.loop-end.rest.now c.loop-end.lines c.step-2.new.lines _
    (sym c.line_end.ensures ∙ none_from_not_some c.line_end.result c.in_default.not-Some) c.in-Ok-step.ensures c.in-Ok-closed.ensures c.loop-end.invariant.1

pub returns-in-Err-closed : goal.returns-in-Err-closed
returns-in-Err-closed c =
    open_end c.in-Err-closed.fault c.loop-end.section c.in-Ok-step.last c.loop-end.line c.loop-end.rest.now c.loop-end.lines c.step-2.new.lines _
    (sym c.line_end.ensures ∙ none_from_not_some c.line_end.result c.in_default.not-Some) c.in-Ok-step.ensures c.in-Err-closed.ensures c.loop-end.invariant.1

pub returns-in-Err-step : goal.returns-in-Err-step
returns-in-Err-step c =
    bad_end c.in-Err-step.fault c.loop-end.section c.loop-end.line c.loop-end.rest.now c.loop-end.lines c.step-2.new.lines _
    (sym c.line_end.ensures ∙ none_from_not_some c.line_end.result c.in_default.not-Some) c.in-Err-step.ensures c.loop-end.invariant.1
