use Rattle.std.proofs.Common.{subst}
use Rattle.mem_base.specs.declared.map.calls.Config.TheVariants.{Call}
use Rattle.mem_base.specs.machine.Orders.{configure}
use Rattle.mem_base.specs.machine.Answers.{Answer}
use Rattle.mem_base.specs.machine.Completions.{IsCompleted}
use Rattle.writer_run.proofs.TurnLaws.{call_answered}
use Rattle.world_core.proofs.world.World.call.Goals as goal

pub returns-clause-completed : goal.returns-clause-completed
returns-clause-completed c = λ other.
    subst (λ (x : Answer). IsCompleted c.args.self.now (configure (Call c.args.call.now)) x c.configure.new.self)
    (call_answered c.args.call.now c.configure.result) (c.configure.ensures.completed other)
