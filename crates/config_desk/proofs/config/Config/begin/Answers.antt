use Rattle.mem_base.specs.declared.map.calls.Config.TheVariants.{Begin}
use Rattle.mem_base.specs.machine.Answers.{plain_answer}
use Rattle.mem_base.specs.machine.Orders.{configure}
use Rattle.config_desk.proofs.ConfigLaws.{after_turn}
use Rattle.config_desk.proofs.config.Config.begin.Goals as goal

pub invariant_of-self : goal.invariant_of-self
invariant_of-self c =
    after_turn c.self.inside.desk c.self.inside.hand.seat c.self.invariant c.begin.new.desk c.self.inside.hand.seat c.begin.ensures.parts
    (configure Begin) (plain_answer c.begin.result) tt c.begin.ensures.turn
