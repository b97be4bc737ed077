use Rattle.std.proofs.Common.{sym, ◌∙◌}
use Rattle.script_words.proofs.Walks.{refused, taken}
use Rattle.script_words.proofs.read.task_of.Goals as goal

pub returns-in-Some : goal.returns-in-Some
returns-in-Some c = sym (taken _ (sym c.has_dash.ensures ∙ c.if-has_dash.false) _ c.in_ok-command.ensures _ c.in-Ok.ensures.matches c.in-Ok.ensures.kinds)
    ∙ sym c.task_in.ensures ∙ c.in-Some.is

pub returns-in-Ok : goal.returns-in-Ok
returns-in-Ok c = sym (taken _ (sym c.has_dash.ensures ∙ c.if-has_dash.false) _ c.in_ok-command.ensures _ c.in-Ok.ensures.matches c.in-Ok.ensures.kinds)
    ∙ sym c.task_in.ensures ∙ c.in-None.is

pub returns : goal.returns
returns c = refused _ (sym c.has_dash.ensures ∙ c.if-has_dash.false) _ c.in_ok-command.ensures c.in-Err.error c.in-Err.ensures.kinds
    (λ e. c.in_default.not-OutOfMemory (c.kind.ensures ∙ e))
