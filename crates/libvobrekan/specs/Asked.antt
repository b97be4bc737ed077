-- A call on a handle: by the machine before it, what it answered, and the machine after it.
use Rattle.std.specs.Prelude.{◌≡◌, Option, Some, None, IfSome}
use Rattle.mem_base.specs.machine.World.{World}
use Rattle.mem_base.specs.machine.Orders.{Order}
use Rattle.mem_base.specs.machine.History.{IsLegalFrom}
use Rattle.mem_base.specs.machine.Composites.{completed}
use Rattle.libvobrekan.specs.declared.answers.Answer.{Answer}
use Rattle.libvobrekan.specs.Answers.{answer_told, code_memory, no_machine}

-- a machine was asked for this
pub record Asked (w : World) (k : Order) (answer : Answer) (after : Option World) : Type 0 where
  -- unless memory ran out, the machine did just what is defined, and the answer has the numbers of the defined one
  pub answer_is : (answer.code ≡ code_memory → ⊥) → answer ≡ answer_told (completed w k).answer
  pub world : (answer.code ≡ code_memory → ⊥) → after ≡ Some (completed w k).world
  -- the events that it makes are legal where the machine stood
  pub legal : IsLegalFrom w (completed w k).entries
  -- where memory ran out, nothing has changed
  pub unchanged : answer.code ≡ code_memory → after ≡ Some w
  -- the passes are as they were
  pub passes : IfSome after (λ v. v.passes ≡ w.passes)

-- a machine was asked for this, by a call that takes no memory
pub record Did (w : World) (k : Order) (answer : Answer) (after : Option World) : Type 0 where
  pub answer_is : answer ≡ answer_told (completed w k).answer
  pub world : after ≡ Some (completed w k).world
  pub legal : IsLegalFrom w (completed w k).entries
  pub passes : IfSome after (λ v. v.passes ≡ w.passes)

-- a handle was asked for this, by such a call
abbrev pub IsDone : Option World → Order → Answer → Option World → Type 0
IsDone None k answer after = (answer ≡ no_machine) × (after ≡ None)
IsDone (Some w) k answer after = Did w k answer after

-- a handle was asked for this: one that has no machine says so
abbrev pub IsAsked : Option World → Order → Answer → Option World → Type 0
IsAsked None k answer after = (answer ≡ no_machine) × (after ≡ None)
IsAsked (Some w) k answer after = Asked w k answer after

-- an argument had no meaning: the call was refused, and nothing has changed
abbrev pub IsRefused : Option World → Answer → Answer → Option World → Type 0
IsRefused before refusal answer after = (answer ≡ refusal) × (after ≡ before)
