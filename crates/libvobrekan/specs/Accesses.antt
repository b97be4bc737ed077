-- Accesses of a handle's machine by a pass.
use Rattle.std.specs.Prelude.{◌≡◌, ℕ, ◌+◌, if◌then◌else◌, List, length, Option, Some, None}
use Rattle.mem_base.specs.map.PassIds.{PassId}
use Rattle.mem_base.specs.declared.map.ids.SpaceId.{SpaceId}
use Rattle.mem_base.specs.declared.access.accesses.Access.{Access}
use Rattle.mem_base.specs.access.AccessSteps.{Transfer, reading}
use Rattle.mem_base.specs.machine.Composites.{accessed}
use Rattle.mem_base.specs.machine.World.{World}
use Rattle.libvobrekan.specs.declared.answers.Answer.{Answer}
use Rattle.libvobrekan.specs.Answers.{code_done, no_machine, told}

-- how an access ended: 1 a device's fault, 2 bytes that nothing answers, 3 both
abbrev pub ended_so : Access → ℕ
ended_so access = (if access.result.error then 1 else 0) + (if access.result.decode then 2 else 0)

-- that, and the number of its generation
abbrev pub access_told : Access → Answer
access_told access = told code_done (ended_so access) access.number 0

-- an access was made by the machine
pub record Accesses (w : World) (pass : PassId) (space : SpaceId) (addr : ℕ) (transfer : Transfer) (answer : Answer) (after : Option World) : Type 0 where
  pub answer_is : answer ≡ access_told (accessed w pass space addr transfer).answer
  pub world : after ≡ Some (accessed w pass space addr transfer).world

-- bytes were read from a handle's machine
abbrev pub HasRead : Option World → PassId → SpaceId → ℕ → List ℕ → Answer → List ℕ → Option World → Type 0
HasRead None pass space addr before answer out after = (answer ≡ no_machine) × (out ≡ before) × (after ≡ None)
HasRead (Some w) pass space addr before answer out after =
    Accesses w pass space addr (reading (length before)) answer after
    × (out ≡ (accessed w pass space addr (reading (length before))).bytes)

-- bytes were written to a handle's machine
abbrev pub HasAccessed : Option World → PassId → SpaceId → ℕ → Transfer → Answer → Option World → Type 0
HasAccessed None pass space addr transfer answer after = (answer ≡ no_machine) × (after ≡ None)
HasAccessed (Some w) pass space addr transfer answer after = Accesses w pass space addr transfer answer after
