-- What a hand has done of an access.
use Rattle.std.specs.Prelude.{◌≡◌, ℕ, ◌++◌, List, length}
use Rattle.mem_base.specs.map.PassIds.{PassId}
use Rattle.mem_base.specs.declared.access.accesses.TxResult.{TxResult}
use Rattle.mem_base.specs.declared.access.cells.WordStep.{WordStep}
use Rattle.mem_base.specs.declared.machine.events.Event.{Event}
use Rattle.mem_base.specs.lists.Every.{Every}
use Rattle.mem_base.specs.access.AccessSteps.{AccessStep, blank, steps, marks, events_of_steps, result_of, bytes_read}

-- from one state of a hand to another, by these events with these replies
abbrev pub Makes : Type 0 → Type 1
Makes S = S → List Event → List ℕ → S → Type 0

-- the hand made the events of these steps by a pass, in order and no others, and these are the bytes that they read by its
-- replies
pub record HasDone {S : Type 0} (makes : Makes S) (pass : PassId) (before : S) (ds : List AccessStep) (bytes : List ℕ) (after : S) : Type 0 where
  pub replies : List ℕ
  pub made : makes before (events_of_steps pass ds) replies after
  pub each : length replies ≡ length (events_of_steps pass ds)
  pub read : bytes ≡ bytes_read ds replies

-- the hand takes the word steps among these
abbrev pub TakesStep : (WordStep → Type 0) → AccessStep → Type 0
TakesStep takes (blank n result) = Unit {0}
TakesStep takes (steps cell step x) = takes step
TakesStep takes (marks region client page) = Unit {0}

abbrev pub TakesAll : (WordStep → Type 0) → List AccessStep → Type 0
TakesAll takes ds = Every (TakesStep takes) ds

-- of the whole list of steps the rest is still to come: what comes before it is done, with this result and these bytes
pub record IsUnderway {S : Type 0} (makes : Makes S) (pass : PassId) (before : S) (whole rest : List AccessStep) (bytes : List ℕ) (tx : TxResult)
    (now : S) : Type 0 where
  pub ds : List AccessStep
  pub done : HasDone makes pass before ds bytes now
  pub result : tx ≡ result_of ds
  pub parts : whole ≡ ds ++ rest
