use Rattle.mem_base.specs.machine.Answers.{plain_answer}
use Rattle.mem_base.specs.machine.Orders.{load}
use Rattle.config_desk.proofs.ConfigLaws.{after_turn}
use Rattle.config_desk.proofs.config.Config.load_bytes.Goals as goal

pub invariant_of-self : goal.invariant_of-self
invariant_of-self g c =
    after_turn c.self.inside.desk c.self.inside.hand.seat c.self.invariant c.self.inside.desk c.load_with.new.hand.seat c.load_with.ensures.parts
    (load c.args.region c.args.offset c.args.bytes.now) (plain_answer c.load_with.result) tt c.load_with.ensures.turn
