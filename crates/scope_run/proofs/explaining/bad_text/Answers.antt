use Rattle.std.proofs.Common.{subst}
use Rattle.script_explain.specs.Faults.{Adds, TellsFault}
use Rattle.scope_run.proofs.ExplainLaws.{fault_told}
use Rattle.scope_run.proofs.explaining.bad_text.Goals as goal

pub returns : goal.returns
returns c = fault_told c.args.script.now c.args.bad c.add_fault.new.out
    (subst (λ old. Adds (TellsFault c.args.script.now c.args.bad) old c.add_fault.new.out) c.new-text.ensures c.in_ok-add_fault.ensures)
