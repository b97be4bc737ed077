use Rattle.std.proofs.Common.{◌≡◌, ◌≢◌, Ok, Err, sym, ap, subst, ◌∙◌, inl, inr}
use Rattle.std.specs.Prelude.{◌⊎◌}
use Rattle.mem_base.specs.declared.map.refusals.Refusal.TheVariants.{Memory}
use Rattle.mem_base.specs.machine.Answers.{answer_with, reap_answer}
use Rattle.mem_base.specs.machine.Orders.{reap}
use Rattle.writer_run.specs.Turns.{IsTurn}
use Rattle.seat_run.specs.Written.{HasWritten}
use Rattle.config_desk.specs.Configs.{ConfigState, part_at}
use Rattle.config_desk.proofs.ConfigLaws.{still_config}
use Rattle.config_desk.proofs.config.Config.reap.Goals.{in-Ok, in-Err+in-Memory, in-Err+in_default}
use Rattle.config_desk.proofs.config.Config.reap.Goals as goal

pub invariant_of-self : goal.invariant_of-self
invariant_of-self c =
    let i = c.self.inside in
    let either : (c.reap.result ≡ Err Memory) ⊎ (c.reap.result ≢ Err Memory) =
    elim c.match-reap.branch [
      | in-Ok w ↦ inr (λ e. let is : c.reap.result ≡ Ok w.in-Ok.released = w.in-Ok.is in cc)
      | in-Err+in-Memory w ↦ inl (let is : c.reap.result ≡ Err w.in-Err.why = w.in-Err.is in is ∙ ap (λ z. Err z) w.in-Memory.is)
      | in-Err+in_default w ↦ inr (λ e. let is : c.reap.result ≡ Err w.in-Err.why = w.in-Err.is in
          let memory : w.in-Err.why ≡ Memory = cc in w.in_default.not-Memory memory)
    ] in
    still_config i.desk i.hand.seat c.self.invariant c.reap.new.desk c.reap.new.hand.seat c.reap.ensures.parts
    reap (reap_answer (answer_with (λ v. v.items) c.reap.result)) tt (c.reap.result ≢ Err Memory) c.reap.ensures.turn
    (c.reap.result ≡ Err Memory) (λ e. ((c.reap.ensures.unchanged e).0, ap (λ h. h.seat) (c.reap.ensures.unchanged e).1)) either

pub returns-clause-turn : goal.returns-clause-turn
returns-clause-turn c =
    let same : c.reap.result ≡ c.match-reap.result =
    elim c.match-reap.branch [
      | in-Ok w ↦ w.in-Ok.is ∙ sym w.result-is
      | in-Err+in-Memory w ↦ w.in-Err.is ∙ ap (λ z. Err z) w.in-Memory.is ∙ sym w.result-is
      | in-Err+in_default w ↦ w.in-Err.is ∙ sym w.result-is
    ] in
    λ other. subst (λ r. IsTurn c.args.self.now.part reap (λ xs. HasWritten c.args.self.now.seat xs c.reap.new.hand.seat)
    (reap_answer (answer_with (λ v. v.items) r)) (part_at c.reap.new.desk c.reap.new.hand.seat)) same
    (subst (λ (x : ConfigState). IsTurn x.part reap (λ xs. HasWritten x.seat xs c.reap.new.hand.seat)
    (reap_answer (answer_with (λ v. v.items) c.reap.result)) (part_at c.reap.new.desk c.reap.new.hand.seat)) c.self.view_is
    (c.reap.ensures.turn (λ e. other (sym same ∙ e))))
