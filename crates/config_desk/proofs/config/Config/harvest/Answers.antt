use Rattle.std.proofs.Common.{◌≡◌, ◌≢◌, Ok, Err, sym, ap, subst, ◌∙◌, inl, inr}
use Rattle.std.specs.Prelude.{◌⊎◌}
use Rattle.mem_base.specs.declared.map.refusals.Refusal.TheVariants.{Memory}
use Rattle.mem_base.specs.machine.Answers.{answer_with, harvest_answer}
use Rattle.mem_base.specs.machine.Orders.{harvest}
use Rattle.writer_run.specs.Turns.{IsTurn}
use Rattle.epoch_rule.specs.Values.{WriterValue}
use Rattle.seat_run.specs.Written.{HasWritten}
use Rattle.config_desk.specs.Configs.{ConfigState, part_at}
use Rattle.config_desk.proofs.ConfigLaws.{still_config}
use Rattle.config_desk.proofs.config.Config.harvest.Goals.{in-Ok, in-Err+in-Memory, in-Err+in_default}
use Rattle.config_desk.proofs.config.Config.harvest.Goals as goal

pub invariant_of-self : goal.invariant_of-self
invariant_of-self c =
    let i = c.self.inside in
    let either : (c.harvest.result ≡ Err Memory) ⊎ (c.harvest.result ≢ Err Memory) =
    elim c.match-harvest.branch [
      | in-Ok w ↦ inr (λ e. let is : c.harvest.result ≡ Ok w.in-Ok.pages = w.in-Ok.is in cc)
      | in-Err+in-Memory w ↦ inl (let is : c.harvest.result ≡ Err w.in-Err.why = w.in-Err.is in is ∙ ap (λ z. Err z) w.in-Memory.is)
      | in-Err+in_default w ↦ inr (λ e. let is : c.harvest.result ≡ Err w.in-Err.why = w.in-Err.is in
          let memory : w.in-Err.why ≡ Memory = cc in w.in_default.not-Memory memory)
    ] in
    let still : c.harvest.result ≡ Err Memory → c.harvest.new.hand.seat ≡ i.hand.seat = λ e. ap (λ h. h.seat) (c.harvest.ensures.unchanged e) in
    still_config i.desk i.hand.seat c.self.invariant i.desk c.harvest.new.hand.seat c.harvest.ensures.parts
    (harvest c.args.region c.args.client) (harvest_answer (answer_with (λ v. v.items) c.harvest.result)) tt (c.harvest.result ≢ Err Memory)
    c.harvest.ensures.turn (c.harvest.result ≡ Err Memory) (λ e. (ap (λ (x : WriterValue). part_at i.desk x) (still e), still e)) either

pub returns-clause-turn : goal.returns-clause-turn
returns-clause-turn c =
    let i = c.self.inside in
    let same : c.harvest.result ≡ c.match-harvest.result =
    elim c.match-harvest.branch [
      | in-Ok w ↦ w.in-Ok.is ∙ sym w.result-is
      | in-Err+in-Memory w ↦ w.in-Err.is ∙ ap (λ z. Err z) w.in-Memory.is ∙ sym w.result-is
      | in-Err+in_default w ↦ w.in-Err.is ∙ sym w.result-is
    ] in
    λ other. subst (λ r. IsTurn c.args.self.now.part (harvest c.args.region c.args.client)
    (λ xs. HasWritten c.args.self.now.seat xs c.harvest.new.hand.seat)
    (harvest_answer (answer_with (λ v. v.items) r)) (part_at i.desk c.harvest.new.hand.seat)) same
    (subst (λ (x : ConfigState). IsTurn x.part (harvest c.args.region c.args.client) (λ xs. HasWritten x.seat xs c.harvest.new.hand.seat)
    (harvest_answer (answer_with (λ v. v.items) c.harvest.result)) (part_at i.desk c.harvest.new.hand.seat)) c.self.view_is
    (c.harvest.ensures.turn (λ e. other (sym same ∙ e))))
