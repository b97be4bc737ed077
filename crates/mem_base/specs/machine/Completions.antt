-- A call of the writer and an access of a pass, as a contract states them: by the machine before and after, and the answer.
use Rattle.std.specs.Prelude.{◌≡◌, ℕ, Bool, true, ◌||◌, List}
use Rattle.mem_base.specs.map.PassIds.{PassId}
use Rattle.mem_base.specs.declared.map.ids.SpaceId.{SpaceId}
use Rattle.mem_base.specs.declared.access.accesses.Access.{Access}
use Rattle.mem_base.specs.declared.machine.events.Event.TheVariants.{Look}
use Rattle.mem_base.specs.access.AccessSteps.{Transfer}
use Rattle.mem_base.specs.machine.World.{World, possible, is_at_rest}
use Rattle.mem_base.specs.machine.Orders.{Order}
use Rattle.mem_base.specs.machine.Answers.{Answer}
use Rattle.mem_base.specs.machine.Composites.{completed, is_entered, accessed}

-- a call of the writer is the defined one; nothing is due or unfilled after it, and the passes are as they were
pub record IsCompleted (w : World) (k : Order) (answer : Answer) (v : World) : Type 0 where
  pub world : v ≡ (completed w k).world
  pub answer_is : answer ≡ (completed w k).answer
  pub rests : is_at_rest v.writer.desk ≡ true
  pub passes : v.passes ≡ w.passes

-- a pass may make an access: it is entered, or has announced no number
abbrev pub may_access : World → PassId → Bool
may_access w pass = is_entered w pass || possible w (Look pass)

-- only passes did something: the writer's part is as it was, and each pass that could make an access can make one again
pub record KeepsWriter (w v : World) : Type 0 where
  pub writer : v.writer ≡ w.writer
  pub may : (pass : PassId) → may_access w pass ≡ true → may_access v pass ≡ true

-- an access of a pass is the defined one: the world after it, its answer, and the bytes that it read
pub record IsAccessed (w : World) (pass : PassId) (space : SpaceId) (addr : ℕ) (transfer : Transfer) (answer : Access) (bytes : List ℕ)
    (v : World) : Type 0 where
  pub world : v ≡ (accessed w pass space addr transfer).world
  pub answer_is : answer ≡ (accessed w pass space addr transfer).answer
  pub bytes_are : bytes ≡ (accessed w pass space addr transfer).bytes
  pub keeps : KeepsWriter w v
