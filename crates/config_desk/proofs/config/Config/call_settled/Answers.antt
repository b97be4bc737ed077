use Rattle.std.proofs.Common.{ℕ, ◌≤◌, subst}
use Rattle.std.specs.Prelude.{IfErr, true, ◌≡◌}
use Rattle.mem_base.specs.declared.map.calls.Config.TheVariants as configs
use Rattle.mem_base.specs.machine.Answers.{Answer}
use Rattle.mem_base.specs.machine.Orders.{configure}
use Rattle.writer_desk.specs.Writers.{is_held}
use Rattle.writer_run.proofs.TurnLaws.{call_answered}
use Rattle.config_desk.specs.Settling.{IsSettledBy, tries_of}
use Rattle.config_desk.proofs.config.Config.call_settled.Goals as goal

pub returns-clause-settled : goal.returns-clause-settled
returns-clause-settled g c = λ other.
    subst (λ (a : Answer). (n : ℕ) × (n ≤ tries_of c.args.patience.now)
    × IsSettledBy n c.args.self.now (configure (configs.Call c.args.call.now)) a c.configure_settled.new.self)
    (call_answered c.args.call.now c.configure_settled.result) (c.configure_settled.ensures.settled other)

pub returns-clause-held : goal.returns-clause-held
returns-clause-held g c =
    subst (λ (a : Answer). IfErr c.configure_settled.result (λ why. is_held why ≡ true
    → IsSettledBy (tries_of c.args.patience.now) c.args.self.now (configure (configs.Call c.args.call.now)) a c.configure_settled.new.self))
    (call_answered c.args.call.now c.configure_settled.result) c.configure_settled.ensures.held
