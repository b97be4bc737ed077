use Rattle.std.proofs.Common.{subst, sym}
use Rattle.scope_run.specs.Imports.{FailsImport}
use Rattle.scope_run.proofs.importing.import.Goals as goal
use Rattle.mem_base.proofs.OptionLaws.{if_err}

pub returns-in-Ok-clause-fails : goal.returns-in-Ok-clause-fails
returns-in-Ok-clause-fails c = if_err _ _ c.made_answer.result
    (λ fault x. subst (FailsImport c.args.tree.now c.args.flat.now c.args.wanted.now) (sym x) tt) c.made_answer.ensures.fails
