use Rattle.std.proofs.Common.{ap, ◌∙◌}
use Rattle.mem_base.specs.machine.Composites.{is_entered}
use Rattle.pure_machine.proofs.MachineLaws.{after_pass, may_enter}
use Rattle.pure_machine.proofs.machine.PureMachine.enter.Goals as goal

pub enter-requires : goal.enter-requires
enter-requires c = may_enter c.self.inside.world c.args.pass c.self.invariant c.knows_bound.ensures
    (ap (λ w. is_entered w c.args.pass) c.self.view_is ∙ c.requires.out)

pub invariant_of-self : goal.invariant_of-self
invariant_of-self c = after_pass c.self.inside.world c.enter.new.self c.self.invariant c.enter.ensures.keeps
