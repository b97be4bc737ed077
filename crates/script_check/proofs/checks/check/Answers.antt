use Rattle.script_check.proofs.checks.check.Goals as goal

pub returns-in-Ok-clause-faults : goal.returns-in-Ok-clause-faults
returns-in-Ok-clause-faults c = c.check_blocks.ensures.faults c.args.flat.now
