use Rattle.pure_machine.proofs.MachineLaws.{after_call}
use Rattle.pure_machine.proofs.machine.PureMachine.listen.Goals as goal

pub invariant_of-self : goal.invariant_of-self
invariant_of-self c = after_call c.self.inside.world c.listen.new.self c.self.invariant c.listen.ensures.rests.rests c.listen.ensures.rests.passes
