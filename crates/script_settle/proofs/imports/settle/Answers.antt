use Rattle.std.proofs.Common.{rules}
use Rattle.monitor_import.specs.Drafts.{Explains}
use Rattle.script_settle.proofs.RefusedLaws.{if_err_is}
use Rattle.script_settle.proofs.imports.settle.Goals as goal

pub returns-in_err-text-clause-faults : goal.returns-in_err-text-clause-faults
returns-in_err-text-clause-faults c = λ tree flat wanted. if_err_is (Explains tree flat wanted) c.from_residual.result c.in_err-text.field-0.0
    (search rules) (c.in_err-text.ensures.faults tree flat wanted)

pub returns-in_err-text-2-clause-faults : goal.returns-in_err-text-2-clause-faults
returns-in_err-text-2-clause-faults c = λ tree flat wanted. if_err_is (Explains tree flat wanted) c.from_residual-in_err-text-2.result
    c.in_err-text-2.field-0.0 (search rules) (c.in_err-text-2.ensures.faults tree flat wanted)
