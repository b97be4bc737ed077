use Rattle.std.proofs.Common.{drop}
use Rattle.pure_machine.proofs.MachineLaws.{after_taking}
use Rattle.pure_machine.proofs.machine.PureMachine.forget.Goals as goal

pub invariant_of-self : goal.invariant_of-self
invariant_of-self c =
    let w = c.self.inside.world in
    after_taking w c.forget.new.self (drop c.args.count w.writer.desk.listening.journal) c.self.invariant c.forget.ensures
