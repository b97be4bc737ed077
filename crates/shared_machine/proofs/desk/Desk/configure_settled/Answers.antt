use Rattle.std.proofs.Common.{◌∙◌}
use Rattle.mem_base.specs.machine.Orders.{configure}
use Rattle.writer_run.specs.Turns.{answer_by}
use Rattle.config_desk.specs.Settling.{tries_of}
use Rattle.shared_machine.proofs.SettledLaws.{keeps_cabinet}
use Rattle.shared_machine.proofs.desk.Desk.configure_settled.Goals as goal

pub invariant_of-self : goal.invariant_of-self
invariant_of-self g c =
    keeps_cabinet c.configure_settled.result (answer_by c.args.event.now c.configure_settled.result) c.self.inside.config c.configure_settled.new.config
    (configure c.args.event.now) (tries_of c.args.patience.now) c.configure_settled.ensures.settled c.configure_settled.ensures.memory
    ∙ c.self.invariant
