use Rattle.script_settle.proofs.imports.import.Goals as goal

pub returns-clause-faults : goal.returns-clause-faults
returns-clause-faults c = c.settle.ensures.faults c.args.tree.now c.args.flat.now c.args.wanted.now
