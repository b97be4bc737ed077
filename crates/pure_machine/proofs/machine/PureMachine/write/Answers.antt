use Rattle.pure_machine.proofs.MachineLaws.{after_pass}
use Rattle.pure_machine.proofs.machine.PureMachine.write.Goals as goal

pub write-requires : goal.write-requires
write-requires c = c.self.invariant.passes c.args.pass c.knows_bound.ensures

pub invariant_of-self : goal.invariant_of-self
invariant_of-self c = after_pass c.self.inside.world c.write.new.self c.self.invariant c.write.ensures.keeps
