use Rattle.std.proofs.Common.{subst, sym}
use Rattle.mem_base.specs.declared.map.calls.Config.TheVariants as configs
use Rattle.mem_base.specs.machine.Orders.{configure}
use Rattle.writer_run.specs.Turns.{answer_by}
use Rattle.config_desk.specs.Configs.{IsTurnOf}
use Rattle.shared_machine.proofs.DeskLaws.{call_by}
use Rattle.shared_machine.proofs.desk.configure.Goals as goal

pub returns-in-Call-clause-turn : goal.returns-in-Call-clause-turn
returns-in-Call-clause-turn c =
    let before = c.args.config.now in
    let after = c.call.new.self in
    let r = c.call.result in
    λ other. subst (λ e. IsTurnOf before (configure e) (answer_by e r) after) (sym c.in-Call.is)
    (subst (λ a. IsTurnOf before (configure (configs.Call c.in-Call.call)) a after) (call_by c.in-Call.call r) (c.call.ensures.turn other))
