use Rattle.std.proofs.Common.{ap, ◌∙◌}
use Rattle.mem_base.specs.machine.Composites.{is_entered}
use Rattle.pure_machine.proofs.MachineLaws.{after_pass, may_leave}
use Rattle.pure_machine.proofs.machine.PureMachine.leave.Goals as goal

pub leave-requires : goal.leave-requires
leave-requires c = may_leave c.self.inside.world c.args.pass (ap (λ w. is_entered w c.args.pass) c.self.view_is ∙ c.requires.inside)

pub invariant_of-self : goal.invariant_of-self
invariant_of-self c = after_pass c.self.inside.world c.leave.new.self c.self.invariant c.leave.ensures.keeps
