-- An order that passes hold up is tried again: n turns of it that were held up, and then a turn that was answered.
use Rattle.std.specs.Prelude.{◌≡◌, ℕ, zero, suc, ◌+◌, Bool, true, false, Err}
use Rattle.mem_base.specs.machine.Answers.{Answer, call_answer, commit_answer, plain_answer}
use Rattle.mem_base.specs.machine.Orders.{Order}
use Rattle.writer_desk.specs.Writers.{is_held}
use Rattle.config_desk.specs.Configs.{ConfigState, IsTurnOf}
use Rattle.config_desk.specs.declared.settling.Patience.{Patience}

-- the answer says that a pass holds a publish up
abbrev pub tells_held : Answer → Bool
tells_held (call_answer (Err why)) = is_held why
tells_held (commit_answer (Err why)) = is_held why
tells_held (plain_answer (Err why)) = is_held why
tells_held answer = false

-- a turn of the order was held up: it made its sweeps, left the map as it was, and published nothing
pub record HeldTurn (c : ConfigState) (k : Order) (d : ConfigState) : Type 0 where
  pub answer : Answer
  pub held : tells_held answer ≡ true
  pub turn : IsTurnOf c k answer d
  pub desk : d.part.desk ≡ c.part.desk
  pub current : d.part.generations.current ≡ c.part.generations.current

-- n turns of the order were held up, one after another
abbrev pub HeldTurns : ℕ → ConfigState → Order → ConfigState → Type 0
HeldTurns zero c k d = d ≡ c
HeldTurns (suc n) c k d = (e : ConfigState) × HeldTurns n c k e × HeldTurn e k d

-- n turns of the order were held up, and then a turn of it was answered
abbrev pub IsSettledBy : ℕ → ConfigState → Order → Answer → ConfigState → Type 0
IsSettledBy n c k answer d = (e : ConfigState) × HeldTurns n c k e × IsTurnOf e k answer d

-- how many tries there are after the first
abbrev pub tries_of : Patience → ℕ
tries_of p = p.yields + p.sleeps
