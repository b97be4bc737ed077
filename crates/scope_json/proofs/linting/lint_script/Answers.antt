use Rattle.std.proofs.Common.{◌∙◌}
use Rattle.scope_json.specs.Lints.{lint_by, mends_by}
use Rattle.scope_json.proofs.linting.lint_script.Goals as goal

pub returns-clause-data : goal.returns-clause-data
returns-clause-data c =
    let same = c.lines.ensures.value in
    let l = c.in_ok-map.ensures in
    c.in_ok-told.ensures.data ∙ (λ i. lint_by (same i) (l.refused i) (l.state i))

pub returns-clause-mends : goal.returns-clause-mends
returns-clause-mends c =
    let same = c.lines.ensures.value in
    let l = c.in_ok-map.ensures in
    c.in_ok-told.ensures.mends ∙ (λ i. mends_by (same i) (l.refused i) (l.state i))
