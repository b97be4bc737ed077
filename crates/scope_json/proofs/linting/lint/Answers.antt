use Rattle.std.proofs.Common.{None}
use Rattle.scope_run.proofs.Facts.{both_ok, memory_on}
use Rattle.scope_json.proofs.linting.lint.Goals as goal
use Rattle.mem_base.proofs.OptionLaws.{if_err}

pub returns-in-Ok-clause-told : goal.returns-in-Ok-clause-told
returns-in-Ok-clause-told c = both_ok c.lint_script.result _ _ _ (λ t d m. (c.in-Ok.script, c.in-Ok.ensures, (d, m)))
    c.lint_script.ensures.data c.lint_script.ensures.mends

pub returns-in-Ok-clause-fails : goal.returns-in-Ok-clause-fails
returns-in-Ok-clause-fails c = if_err _ _ c.lint_script.result (λ fault x. memory_on c.args.script.now None None fault x) c.lint_script.ensures.fails
