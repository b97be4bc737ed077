use Rattle.std.proofs.Common.{◌++◌, ◌∙◌}
use Rattle.scope_run.specs.Lints.{faults_text, line_findings_text}
use Rattle.scope_run.proofs.linting.lint_script.Goals as goal

pub returns-clause-text : goal.returns-clause-text
returns-clause-text c =
    let l = c.in_ok-map.ensures in
    c.found.ensures.text ∙ c.in_ok-text.ensures ∙ (λ i. line_findings_text c.args.script.now (l.refused i) ++ faults_text (l.state i))
