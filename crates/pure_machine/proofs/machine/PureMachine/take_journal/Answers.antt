use Rattle.std.proofs.Common.{[]}
use Rattle.pure_machine.proofs.MachineLaws.{after_taking}
use Rattle.pure_machine.proofs.machine.PureMachine.take_journal.Goals as goal

pub invariant_of-self : goal.invariant_of-self
invariant_of-self c = after_taking c.self.inside.world c.take_journal.new.self [] c.self.invariant c.take_journal.ensures.world
