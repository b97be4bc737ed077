use Rattle.mem_base.specs.machine.Answers.{notifier_answer}
use Rattle.mem_base.specs.machine.Orders.{notified}
use Rattle.config_desk.proofs.ConfigLaws.{after_turn}
use Rattle.config_desk.proofs.config.Config.notified.Goals as goal

pub invariant_of-self : goal.invariant_of-self
invariant_of-self c =
    after_turn c.self.inside.desk c.self.inside.hand.seat c.self.invariant c.self.inside.desk c.notified.new.hand.seat c.notified.ensures.parts (notified c.args.number)
    (notifier_answer c.notified.result) tt c.notified.ensures.turn
