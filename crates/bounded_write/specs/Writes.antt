-- How far a write came.
use Rattle.std.specs.Prelude.{◌≡◌, ℕ, ◌+◌, ◌<◌, ◌≤◌, Bool, true, false, List, [], ◌++◌, length, take, drop}
use mathlib.Core.List.{IsPrefix}
use Rattle.mem_base.specs.declared.map.ids.SpaceId.{SpaceId}
use Rattle.mem_base.specs.declared.access.accesses.TxResult.{TxResult}
use Rattle.mem_base.specs.declared.machine.events.Event.{Event}
use Rattle.mem_base.specs.access.AccessSteps.{writing, events_of_steps, result_of}
use Rattle.mem_base.specs.access.Access.{access}
use Rattle.mem_base.specs.machine.Passes.{pass_id}
use Rattle.mem_base.specs.machine.Generations.{Generation}
use Rattle.mem_base.specs.machine.Composites.{enters_unless, leaves_unless}
use Rattle.mem_base.specs.machine.PassTurns.{entries_of}
use Rattle.generation.specs.Published.{Published}
use Rattle.epoch_rule.specs.Values.{PassValue}
use Rattle.epoch_rule.specs.Wrote.{Made}
use Rattle.vcpu_pass.specs.Entries.{replies_around}
use Rattle.vcpu_pass.specs.Steps.{HasMade, generation_in}
use Rattle.vcpu_pass.specs.Calls.{GoesBy, HasAccessed, IsPublishedIn, generation_of, is_entered}
use Rattle.mem_base.specs.declared.access.accesses.WindowStart.{WindowStart}
use Rattle.mem_base.specs.access.Windows.{chunk_length}
use Rattle.io_window.specs.declared.direct.Memory.{Memory}
use Rattle.io_window.specs.Windows.{IsMemoryOf}
use Rattle.io_window.specs.Calls.{Does}
use Rattle.bounded_write.specs.declared.accesses.Written.{Written}
use Rattle.bounded_write.specs.declared.devices.Came.{Came}
use Rattle.bounded_write.specs.Tries.{WasContended, has_some}

-- it is a pass of the same cabinet, in the same generation
abbrev pub StaysIn : PassValue Published → PassValue Published → Type 0
StaysIn v w = (w.cabinet ≡ v.cabinet) × (w.edition ≡ v.edition)

-- from one of these to the other the pass was held up: when it had seen as much as `last`, some word changed each time that it was tried
pub record WasHeldUp (v : PassValue Published) (tries : ℕ) (w : PassValue Published) : Type 0 where
  pub last : PassValue Published
  pub seen : IsPrefix v.seen last.seen
  pub later : IsPrefix last.seen w.seen
  pub contended : WasContended last tries

-- of these events the pass made the first ones, if any
pub record HasMadeFirst (v : PassValue Published) (es : List Event) (begun : Bool) (w : PassValue Published) : Type 0 where
  pub more : List Event
  pub rest : List Event
  pub replies : List ℕ
  pub first : es ≡ more ++ rest
  pub each : length replies ≡ length more
  pub made : HasMade v more replies w
  pub begins : begun ≡ has_some more

-- a write by an entered pass, which was done, or given up
pub record HasCome (v : PassValue Published) (space : SpaceId) (addr : ℕ) (bytes : List ℕ) (tries : ℕ) (came : Came) (w : PassValue Published)
    : Type 0 where
  pub whole : came.stopped ≡ false → Does v (access (generation_in v).forest space addr (writing bytes)) [] w
  pub part : came.stopped ≡ true
      → HasMadeFirst v (events_of_steps (pass_id v.number) (access (generation_in v).forest space addr (writing bytes))) came.begun w × WasContended w tries

-- the first of some bytes from there on are in memory that is written directly, and this many of them are one chunk
abbrev pub IsDirectChunk : PassValue Published → WindowStart → ℕ → Memory × ℕ → Type 0
IsDirectChunk v s n r =
    (r.1 ≡ chunk_length (generation_in v).forest s n) × (0 < r.1) × (r.1 ≤ n) × IsMemoryOf (generation_in v) s r.1 r.0

-- The first `count` bytes are written, as if they were all; of what the `next` bytes after them ask for, the first events were made, if any
pub record HasStopped (v : PassValue Published) (space : SpaceId) (addr : ℕ) (bytes : List ℕ) (count : ℕ) (result : TxResult) (begun : Bool) (tries : ℕ)
    (w : PassValue Published) : Type 0 where
  pub until : PassValue Published
  pub written : Does v (access (generation_in v).forest space addr (writing (take count bytes))) [] until
  pub ended : result ≡ result_of (access (generation_in v).forest space addr (writing (take count bytes)))
  pub next : ℕ
  pub fits : count + next ≤ length bytes
  pub onward : HasMadeFirst until
      (events_of_steps (pass_id v.number) (access (generation_in v).forest space (addr + count) (writing (take next (drop count bytes))))) begun w
  pub held_up : WasHeldUp v tries w

-- The same by a pass that enters before and leaves after it where it is not entered, in this generation
pub record HasWrittenFirstBy (x : Generation) (v : PassValue Published) (space : SpaceId) (addr : ℕ) (bytes : List ℕ) (tries : ℕ) (answer : Written)
    (w : PassValue Published) : Type 0 where
  pub goes_by : GoesBy v answer.access.number w
  pub published : IsPublishedIn w answer.access.number
  pub next : ℕ
  pub fits : answer.count + next ≤ length bytes
  pub more : List Event
  pub rest : List Event
  pub first : events_of_steps (pass_id v.number) (access x.forest space (addr + answer.count) (writing (take next (drop answer.count bytes)))) ≡ more ++ rest
  pub begins : answer.begun ≡ has_some more
  pub looked : ℕ
  pub replies : List ℕ
  pub each : length replies ≡ length (events_of_steps (pass_id v.number) (access x.forest space addr (writing (take answer.count bytes))) ++ more)
  pub made : Made v (entries_of x.places (enters_unless (is_entered v) (pass_id v.number)
      ++ ((events_of_steps (pass_id v.number) (access x.forest space addr (writing (take answer.count bytes))) ++ more)
      ++ leaves_unless (is_entered v) (pass_id v.number)))
      (replies_around (is_entered v) looked answer.access.number replies)) w
  pub result : answer.access.result ≡ result_of (access x.forest space addr (writing (take answer.count bytes)))
  pub held_up : WasHeldUp v tries w

-- A write of bytes was done, or its first `count` bytes were written. It ends before the last one only where some word was changed each time that it
-- was tried
pub record HasWritten (v : PassValue Published) (space : SpaceId) (addr : ℕ) (bytes : List ℕ) (tries : ℕ) (answer : Written) (w : PassValue Published)
    : Type 0 where
  pub most : answer.count ≤ length bytes
  pub whole : answer.count ≡ length bytes → HasAccessed v space addr (writing bytes) answer.access [] w × (answer.begun ≡ false)
  pub part : answer.count < length bytes
      → HasWrittenFirstBy (generation_of w answer.access.number) v space addr bytes tries answer w
