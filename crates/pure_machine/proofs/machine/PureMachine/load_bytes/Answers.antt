use Rattle.pure_machine.proofs.MachineLaws.{after_call}
use Rattle.pure_machine.proofs.machine.PureMachine.load_bytes.Goals as goal

pub invariant_of-self : goal.invariant_of-self
invariant_of-self c = after_call c.self.inside.world c.load_bytes.new.self c.self.invariant c.load_bytes.ensures.completed.rests
    c.load_bytes.ensures.completed.passes
