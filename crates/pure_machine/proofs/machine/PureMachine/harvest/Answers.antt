use Rattle.pure_machine.proofs.MachineLaws.{after_call}
use Rattle.pure_machine.proofs.machine.PureMachine.harvest.Goals as goal

pub invariant_of-self : goal.invariant_of-self
invariant_of-self c = after_call c.self.inside.world c.harvest.new.self c.self.invariant c.harvest.ensures.rests.rests c.harvest.ensures.rests.passes
