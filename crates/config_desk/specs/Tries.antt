-- What the tries behind the calls that wait come to; the clauses of those calls follow from it.
use Rattle.std.specs.Prelude.{◌≡◌, ◌≢◌, ℕ, ◌≤◌, Bool, true, false, Option, Some, Result, Ok, Err, IfOk, IfErr, OnErr}
use Rattle.mem_base.specs.declared.map.calls.Applied.{Applied}
use Rattle.mem_base.specs.declared.map.calls.Config.{Config}
use Rattle.mem_base.specs.declared.map.refusals.Refusal.{Refusal}
use Rattle.mem_base.specs.declared.map.refusals.Refusal.TheVariants.{Memory}
use Rattle.mem_base.specs.machine.Orders.{configure}
use Rattle.mem_base.specs.machine.Publishing.{held_up, would_publish}
use Rattle.writer_desk.specs.Writers.{is_held}
use Rattle.writer_run.specs.Turns.{answer_by, number_told}
use Rattle.config_desk.specs.Configs.{ConfigState, IsTurnOf}
use Rattle.config_desk.specs.Settling.{HeldTurns, tries_of}
use Rattle.config_desk.specs.declared.settling.Patience.{Patience}

-- what a call answers says that a pass holds a publish up
abbrev pub is_answered_held : {A : Type 0} → Result A Refusal → Bool
is_answered_held (Ok x) = false
is_answered_held (Err why) = is_held why

abbrev pub Answer : Type 0
Answer = Result (Applied × Option ℕ) Refusal

-- what one try promises
pub record IsTry (c : ConfigState) (k : Config) (r : Answer) (d : ConfigState) : Type 0 where
  pub turn : r ≢ Err Memory → IsTurnOf c (configure k) (answer_by k r) d
  pub number : IfOk r (λ x. x.1 ≡ number_told c.part k)
  pub cause : IfErr r (λ why. why ≢ Memory → is_held why ≡ would_publish c.part.desk k)
  pub held : IfErr r (λ why. would_publish c.part.desk k ≡ true → why ≢ Memory → held_up d.part.generations ≡ Some why)
  pub left : OnErr r (d.part.desk ≡ c.part.desk)
  pub current : OnErr r (d.part.generations.current ≡ c.part.generations.current)
  pub unchanged : r ≡ Err Memory → d ≡ c

-- n tries were held up, and the last one answered
pub record AreTries (n : ℕ) (c : ConfigState) (k : Config) (r : Answer) (d : ConfigState) : Type 0 where
  pub before : ConfigState
  pub turns : HeldTurns n c (configure k) before
  pub last : IsTry before k r d

-- at most as many tries as the patience has were held up, and all of them where the last one was
pub record WasTried (p : Patience) (c : ConfigState) (k : Config) (r : Answer) (d : ConfigState) : Type 0 where
  pub held : ℕ
  pub few : held ≤ tries_of p
  pub all : is_answered_held r ≡ true → held ≡ tries_of p
  pub tries : AreTries held c k r d
