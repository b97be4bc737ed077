-- A window that is moved whole is the defined access, and direct writes are followed by their marks.
use Rattle.std.specs.Prelude.{◌≡◌, ℕ, false, true, List, [], ◌∷◌, ◌++◌, flat_map, length, Option}
use Rattle.mem_base.specs.declared.map.ids.SpaceId.{SpaceId}
use Rattle.mem_base.specs.declared.map.forests.Forest.{Forest}
use Rattle.mem_base.specs.declared.access.accesses.Access.{Access}
use Rattle.mem_base.specs.declared.access.accesses.Target.{Target}
use Rattle.mem_base.specs.declared.access.accesses.TxResult.{TxResult}
use Rattle.mem_base.specs.access.AccessSteps.{Transfer, reading, writing, AccessStep, events_of_steps, result_of, bytes_read}
use Rattle.mem_base.specs.access.Access.{access}
use Rattle.mem_base.specs.machine.Passes.{pass_id}
use Rattle.mem_base.specs.machine.Generations.{Generation}
use Rattle.mem_base.specs.machine.Composites.{enters_unless, leaves_unless}
use Rattle.generation.specs.Published.{Published}
use Rattle.epoch_rule.specs.Values.{PassValue}
use Rattle.epoch_rule.specs.Wrote.{Made}
use Rattle.mem_base.specs.machine.PassTurns.{entries_of}
use Rattle.vcpu_pass.specs.Entries.{replies_around}
use Rattle.vcpu_pass.specs.Steps.{generation_in}
use Rattle.vcpu_pass.specs.Calls.{GoesBy, HasAccessed, generation_of, is_entered}
use Rattle.mem_base.specs.declared.access.accesses.WindowStart.{WindowStart}
use Rattle.mem_base.specs.access.Windows.{window_start, target_at, part_steps, mark_steps}
use Rattle.io_window.specs.Windows.{WindowValue, number_of}
use Rattle.io_window.specs.Calls.{Does, HasOpened, HasGot, HasPut, HasClosed}

abbrev pub access_answer : TxResult → ℕ → Access
access_answer result number = record { result = result; number = number }

-- A read window that was opened, got whole by one get and closed: from its open to its close its virtual CPU made exactly the events of the
-- defined read of its length in the generation of its number, between an enter and a leave where it was not entered; the bytes
-- and the result are that read's
abbrev pub WholeGetIsRead : Type 0
WholeGetIsRead =
    (v y : PassValue Published) (space : SpaceId) (addr asked used : ℕ) (handed given : Option ℕ) (w u : WindowValue) (bytes : List ℕ) (result : TxResult)
    → HasOpened v (window_start space addr false) asked handed w → length bytes ≡ w.len → HasGot w 0 bytes u → HasClosed u used y given result
    → HasAccessed v space addr (reading w.len) (access_answer result (number_of w)) bytes y

-- The same of a write window that was opened, put whole by one put and closed with all of it used: the events are those of the
-- defined write of these bytes, marks included
abbrev pub WholePutIsWrite : Type 0
WholePutIsWrite =
    (v y : PassValue Published) (space : SpaceId) (addr asked : ℕ) (handed given : Option ℕ) (w u : WindowValue) (bytes : List ℕ) (result : TxResult)
    → HasOpened v (window_start space addr true) asked handed w → length bytes ≡ w.len → HasPut w 0 bytes u → HasClosed u w.len y given result
    → HasAccessed v space addr (writing bytes) (access_answer result (number_of w)) [] y

-- An entered virtual CPU did an access in its generation: one after another, such accesses are parts of one, where that is cut
pub record HasRun (v : PassValue Published) (space : SpaceId) (addr : ℕ) (transfer : Transfer) (ended : TxResult) (bytes : List ℕ)
    (w : PassValue Published) : Type 0 where
  pub done : Does v (access (generation_in v).forest space addr transfer) bytes w
  pub result : ended ≡ result_of (access (generation_in v).forest space addr transfer)

-- The two laws above of a virtual CPU that was entered
abbrev pub EnteredGetIsRead : Type 0
EnteredGetIsRead =
    (v y : PassValue Published) (space : SpaceId) (addr asked used : ℕ) (handed given : Option ℕ) (w u : WindowValue) (bytes : List ℕ) (result : TxResult)
    → is_entered v ≡ true → HasOpened v (window_start space addr false) asked handed w → length bytes ≡ w.len → HasGot w 0 bytes u
    → HasClosed u used y given result → HasRun v space addr (reading w.len) result bytes y

abbrev pub EnteredPutIsWrite : Type 0
EnteredPutIsWrite =
    (v y : PassValue Published) (space : SpaceId) (addr asked : ℕ) (handed given : Option ℕ) (w u : WindowValue) (bytes : List ℕ) (result : TxResult)
    → is_entered v ≡ true → HasOpened v (window_start space addr true) asked handed w → length bytes ≡ w.len → HasPut w 0 bytes u
    → HasClosed u w.len y given result → HasRun v space addr (writing bytes) result [] y

-- A virtual CPU made the events of these steps and no others, in the generation of a number, between an enter and a leave where it was
-- not entered, and these bytes are what their replies give
pub record HasMovedBy (x : Generation) (v : PassValue Published) (ds : List AccessStep) (bytes : List ℕ) (number : ℕ) (w : PassValue Published)
    : Type 0 where
  pub goes_by : GoesBy v number w
  pub looked : ℕ
  pub replies : List ℕ
  pub each : length replies ≡ length (events_of_steps (pass_id v.number) ds)
  pub made : Made v (entries_of x.places (enters_unless (is_entered v) (pass_id v.number)
      ++ (events_of_steps (pass_id v.number) ds ++ leaves_unless (is_entered v) (pass_id v.number)))
      (replies_around (is_entered v) looked number replies)) w
  pub read : bytes ≡ bytes_read ds replies

-- the steps go by the forest of that generation
abbrev pub HasMoved : PassValue Published → (Forest → List AccessStep) → List ℕ → ℕ → PassValue Published → Type 0
HasMoved v does bytes number w = HasMovedBy (generation_of w number) v (does (generation_of w number).forest) bytes number w

-- bytes were put, one part after another
abbrev pub HavePut : WindowValue → List (ℕ × List ℕ) → WindowValue → Type 0
HavePut w [] u = u ≡ w
HavePut w (part ∷ parts) u = (v : WindowValue) × HasPut w part.0 part.1 v × HavePut v parts u

-- the word steps of all of them, and the marks of the first `used` bytes
abbrev pub puts_steps : Target → List (ℕ × List ℕ) → List AccessStep
puts_steps x parts = flat_map (λ p. part_steps x p.0 (writing p.1)) parts

abbrev pub marked_puts : WindowStart → List (ℕ × List ℕ) → ℕ → Forest → List AccessStep
marked_puts s parts used f = puts_steps (target_at f s) parts ++ mark_steps (target_at f s) used

-- However a direct write window was put, from its open to its close its virtual CPU made just the word steps of what was put, and then
-- the marks of the bytes that are used, between an enter and a leave where it was not entered
abbrev pub DirectPutsAreMarked : Type 0
DirectPutsAreMarked =
    (v y : PassValue Published) (space : SpaceId) (addr asked used : ℕ) (handed given : Option ℕ) (w u : WindowValue) (parts : List (ℕ × List ℕ))
    (result : TxResult) → HasOpened v (window_start space addr true) asked handed w → w.direct ≡ true → HavePut w parts u
    → HasClosed u used y given result → HasMoved v (marked_puts (window_start space addr true) parts used) [] (number_of w) y
