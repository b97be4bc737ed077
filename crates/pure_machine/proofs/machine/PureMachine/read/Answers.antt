use Rattle.pure_machine.proofs.MachineLaws.{after_pass}
use Rattle.pure_machine.proofs.machine.PureMachine.read.Goals as goal

pub read-requires : goal.read-requires
read-requires c = c.self.invariant.passes c.args.pass c.knows_bound.ensures

pub invariant_of-self : goal.invariant_of-self
invariant_of-self c = after_pass c.self.inside.world c.read.new.self c.self.invariant c.read.ensures.keeps
