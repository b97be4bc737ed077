use Rattle.pure_machine.proofs.MachineLaws.{after_call}
use Rattle.pure_machine.proofs.machine.PureMachine.unlisten.Goals as goal

pub invariant_of-self : goal.invariant_of-self
invariant_of-self c = after_call c.self.inside.world c.unlisten.new.self c.self.invariant c.unlisten.ensures.rests.rests c.unlisten.ensures.rests.passes
