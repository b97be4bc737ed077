use Rattle.std.proofs.Common.{◌≡◌, ◌≢◌, ℕ, true, Ok, Err, Some, Option, sym, ap, subst, ◌∙◌, inl, inr}
use Rattle.std.specs.Prelude.{◌⊎◌, Result, IfOk, IfErr, OnErr}
use Rattle.mem_base.specs.declared.map.calls.Applied.{Applied}
use Rattle.mem_base.specs.declared.map.refusals.Refusal.{Refusal}
use Rattle.mem_base.specs.declared.map.refusals.Refusal.TheVariants.{Memory}
use Rattle.mem_base.specs.machine.Orders.{configure}
use Rattle.mem_base.specs.machine.Publishing.{held_up, would_publish}
use Rattle.mem_base.specs.machine.Reaps.{Writer}
use Rattle.writer_desk.specs.Writers.{is_held}
use Rattle.writer_run.specs.Turns.{IsTurn, answer_by, number_told}
use Rattle.seat_run.specs.Written.{HasWritten}
use Rattle.config_desk.specs.Configs.{ConfigState, part_at}
use Rattle.config_desk.proofs.ConfigLaws.{still_config}
use Rattle.config_desk.proofs.RefusedLaws.{stays_current}
use Rattle.config_desk.proofs.config.Config.configure.Goals.{in-Ok, in-Err+in-Memory, in-Err+in_default}
use Rattle.config_desk.proofs.config.Config.configure.Goals as goal

pub invariant_of-self : goal.invariant_of-self
invariant_of-self c =
    let i = c.self.inside in
    let either : (c.configure.result ≡ Err Memory) ⊎ (c.configure.result ≢ Err Memory) =
    elim c.match-configure.branch [
      | in-Ok w ↦ inr (λ e. let is : c.configure.result ≡ Ok w.in-Ok.answer = w.in-Ok.is in cc)
      | in-Err+in-Memory w ↦ inl (let is : c.configure.result ≡ Err w.in-Err.why = w.in-Err.is in is ∙ ap (λ z. Err z) w.in-Memory.is)
      | in-Err+in_default w ↦ inr (λ e. let is : c.configure.result ≡ Err w.in-Err.why = w.in-Err.is in
          let memory : w.in-Err.why ≡ Memory = cc in w.in_default.not-Memory memory)
    ] in
    still_config i.desk i.hand.seat c.self.invariant c.configure.new.desk c.configure.new.hand.seat c.configure.ensures.parts
    (configure c.args.event.now) (answer_by c.args.event.now c.configure.result) c.fits.ensures (c.configure.result ≢ Err Memory) c.configure.ensures.turn
    (c.configure.result ≡ Err Memory) (λ e. ((c.configure.ensures.unchanged e).0, ap (λ h. h.seat) (c.configure.ensures.unchanged e).1)) either

pub returns-clause-turn : goal.returns-clause-turn
returns-clause-turn c =
    let same : c.configure.result ≡ c.match-configure.result =
    elim c.match-configure.branch [
      | in-Ok w ↦ w.in-Ok.is ∙ sym w.result-is
      | in-Err+in-Memory w ↦ w.in-Err.is ∙ ap (λ z. Err z) w.in-Memory.is ∙ sym w.result-is
      | in-Err+in_default w ↦ w.in-Err.is ∙ sym w.result-is
    ] in
    λ other. subst (λ r. IsTurn c.args.self.now.part (configure c.args.event.now) (λ xs. HasWritten c.args.self.now.seat xs c.configure.new.hand.seat)
    (answer_by c.args.event.now r) (part_at c.configure.new.desk c.configure.new.hand.seat)) same
    (subst (λ (x : ConfigState). IsTurn x.part (configure c.args.event.now) (λ xs. HasWritten x.seat xs c.configure.new.hand.seat)
    (answer_by c.args.event.now c.configure.result) (part_at c.configure.new.desk c.configure.new.hand.seat)) c.self.view_is
    (c.configure.ensures.turn (λ e. other (sym same ∙ e))))

pub returns-clause-number : goal.returns-clause-number
returns-clause-number c =
    let same : c.configure.result ≡ c.match-configure.result =
    elim c.match-configure.branch [
      | in-Ok w ↦ w.in-Ok.is ∙ sym w.result-is
      | in-Err+in-Memory w ↦ w.in-Err.is ∙ ap (λ z. Err z) w.in-Memory.is ∙ sym w.result-is
      | in-Err+in_default w ↦ w.in-Err.is ∙ sym w.result-is
    ] in
    subst (λ (r : Result (Applied × Option ℕ) Refusal). IfOk r (λ y. y.1 ≡ number_told c.args.self.now.part c.args.event.now)) same
    (subst (λ (x : ConfigState). IfOk c.configure.result (λ y. y.1 ≡ number_told x.part c.args.event.now)) c.self.view_is
    c.configure.ensures.number)

pub returns-clause-cause : goal.returns-clause-cause
returns-clause-cause c =
    let same : c.configure.result ≡ c.match-configure.result =
    elim c.match-configure.branch [
      | in-Ok w ↦ w.in-Ok.is ∙ sym w.result-is
      | in-Err+in-Memory w ↦ w.in-Err.is ∙ ap (λ z. Err z) w.in-Memory.is ∙ sym w.result-is
      | in-Err+in_default w ↦ w.in-Err.is ∙ sym w.result-is
    ] in
    subst (λ (r : Result (Applied × Option ℕ) Refusal). IfErr r (λ why. why ≢ Memory → is_held why ≡ would_publish c.args.self.now.part.desk c.args.event.now)) same
    (subst (λ (x : ConfigState). IfErr c.configure.result (λ why. why ≢ Memory → is_held why ≡ would_publish x.part.desk c.args.event.now)) c.self.view_is
    c.configure.ensures.cause)

pub returns-clause-held : goal.returns-clause-held
returns-clause-held c =
    let same : c.configure.result ≡ c.match-configure.result =
    elim c.match-configure.branch [
      | in-Ok w ↦ w.in-Ok.is ∙ sym w.result-is
      | in-Err+in-Memory w ↦ w.in-Err.is ∙ ap (λ z. Err z) w.in-Memory.is ∙ sym w.result-is
      | in-Err+in_default w ↦ w.in-Err.is ∙ sym w.result-is
    ] in
    subst (λ (r : Result (Applied × Option ℕ) Refusal). IfErr r (λ why. would_publish c.args.self.now.part.desk c.args.event.now ≡ true → why ≢ Memory
    → held_up (part_at c.configure.new.desk c.configure.new.hand.seat).generations ≡ Some why)) same
    (subst (λ (x : ConfigState). IfErr c.configure.result (λ why. would_publish x.part.desk c.args.event.now ≡ true → why ≢ Memory
    → held_up (part_at c.configure.new.desk c.configure.new.hand.seat).generations ≡ Some why)) c.self.view_is
    c.configure.ensures.held)

pub returns-clause-left : goal.returns-clause-left
returns-clause-left c =
    let same : c.configure.result ≡ c.match-configure.result =
    elim c.match-configure.branch [
      | in-Ok w ↦ w.in-Ok.is ∙ sym w.result-is
      | in-Err+in-Memory w ↦ w.in-Err.is ∙ ap (λ z. Err z) w.in-Memory.is ∙ sym w.result-is
      | in-Err+in_default w ↦ w.in-Err.is ∙ sym w.result-is
    ] in
    subst (λ (r : Result (Applied × Option ℕ) Refusal). OnErr r ((part_at c.configure.new.desk c.configure.new.hand.seat).desk ≡ c.args.self.now.part.desk)) same
    (subst (λ (x : ConfigState). OnErr c.configure.result ((part_at c.configure.new.desk c.configure.new.hand.seat).desk ≡ x.part.desk)) c.self.view_is
    c.configure.ensures.left)

pub returns-clause-current : goal.returns-clause-current
returns-clause-current c =
    let i = c.self.inside in
    let same : c.configure.result ≡ c.match-configure.result =
    elim c.match-configure.branch [
      | in-Ok w ↦ w.in-Ok.is ∙ sym w.result-is
      | in-Err+in-Memory w ↦ w.in-Err.is ∙ ap (λ z. Err z) w.in-Memory.is ∙ sym w.result-is
      | in-Err+in_default w ↦ w.in-Err.is ∙ sym w.result-is
    ] in
    let either : (c.configure.result ≡ Err Memory) ⊎ (c.configure.result ≢ Err Memory) =
    elim c.match-configure.branch [
      | in-Ok w ↦ inr (λ e. let is : c.configure.result ≡ Ok w.in-Ok.answer = w.in-Ok.is in cc)
      | in-Err+in-Memory w ↦ inl (let is : c.configure.result ≡ Err w.in-Err.why = w.in-Err.is in is ∙ ap (λ z. Err z) w.in-Memory.is)
      | in-Err+in_default w ↦ inr (λ e. let is : c.configure.result ≡ Err w.in-Err.why = w.in-Err.is in
          let memory : w.in-Err.why ≡ Memory = cc in w.in_default.not-Memory memory)
    ] in
    let now : Writer = part_at c.configure.new.desk c.configure.new.hand.seat in
    subst (λ (r : Result (Applied × Option ℕ) Refusal). OnErr r (now.generations.current ≡ c.args.self.now.part.generations.current)) same
    (subst (λ (x : ConfigState). OnErr c.configure.result (now.generations.current ≡ x.part.generations.current)) c.self.view_is
    (stays_current (part_at i.desk i.hand.seat) now c.args.event.now (λ xs. HasWritten i.hand.seat xs c.configure.new.hand.seat) c.configure.result
    c.self.invariant.parts.idle c.configure.ensures.turn (λ e. (c.configure.ensures.unchanged e).0) either))
