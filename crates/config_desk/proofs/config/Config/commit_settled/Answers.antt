use Rattle.std.proofs.Common.{rules, ◌≡◌, ◌≢◌, ◌≤◌, ℕ, Err, Option, sym, ap, subst, ◌∙◌}
use Rattle.std.specs.Prelude.{Result}
use Rattle.mem_base.specs.declared.map.calls.Config.TheVariants as configs
use Rattle.mem_base.specs.declared.map.refusals.Refusal.{Refusal}
use Rattle.mem_base.specs.declared.map.refusals.Refusal.TheVariants.{Memory}
use Rattle.mem_base.specs.machine.Answers.{commit_answer}
use Rattle.mem_base.specs.machine.Orders.{configure}
use Rattle.writer_run.specs.Turns.{answer_by}
use Rattle.config_desk.specs.Settling.{IsSettledBy, tries_of}
use Rattle.config_desk.proofs.config.Config.commit_settled.Goals as goal

pub returns-in_err-number-clause-settled : goal.returns-in_err-number-clause-settled
returns-in_err-number-clause-settled g c =
    let why : Refusal = c.in_err-number.field-0.0 in
    let said : c.from_residual.result ≡ Err why = search rules in
    let is : why ≢ Memory → (n : ℕ) × (n ≤ tries_of c.args.patience.now)
    × IsSettledBy n c.args.self.now (configure configs.Commit) (answer_by configs.Commit (Err why)) c.configure_settled.new.self =
    λ n. c.in_err-number.ensures.settled (λ e. n cc) in
    λ other. subst (λ (r : Result (Option ℕ) Refusal). (n : ℕ) × (n ≤ tries_of c.args.patience.now)
    × IsSettledBy n c.args.self.now (configure configs.Commit) (commit_answer r) c.configure_settled.new.self) (sym said)
    (is (λ e. other (said ∙ ap (λ (z : Refusal). Err z) e)))
