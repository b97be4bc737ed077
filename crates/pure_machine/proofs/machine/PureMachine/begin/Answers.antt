use Rattle.pure_machine.proofs.MachineLaws.{after_call}
use Rattle.pure_machine.proofs.machine.PureMachine.begin.Goals as goal

pub invariant_of-self : goal.invariant_of-self
invariant_of-self c = after_call c.self.inside.world c.begin.new.self c.self.invariant c.begin.ensures.completed.rests c.begin.ensures.completed.passes
