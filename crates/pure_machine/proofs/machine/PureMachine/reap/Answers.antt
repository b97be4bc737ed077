use Rattle.pure_machine.proofs.MachineLaws.{after_call}
use Rattle.pure_machine.proofs.machine.PureMachine.reap.Goals as goal

pub invariant_of-self : goal.invariant_of-self
invariant_of-self c = after_call c.self.inside.world c.reap.new.self c.self.invariant c.reap.ensures.rests.rests c.reap.ensures.rests.passes
