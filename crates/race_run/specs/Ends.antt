-- The two ends of a race: a machine on which nothing was done yet, and one whose passes have all left and were taken in.
use Rattle.std.specs.Prelude.{◌≡◌, ◌+◌, ◌++◌, ℕ, false, not, List, [], replicate}
use Rattle.mem_base.specs.declared.machine.events.HistoryEntry.{HistoryEntry}
use Rattle.mem_base.specs.lists.Every.{Every}
use Rattle.mem_base.specs.map.Limits.{most_passes}
use Rattle.mem_base.specs.machine.Passes.{pass_id}
use Rattle.mem_base.specs.machine.Composites.{leaves_unless}
use Rattle.mem_base.specs.machine.Actors.{own_entries}
use Rattle.mem_base.specs.machine.PassTurns.{entries_of}
use Rattle.mem_base.specs.machine.Reaps.{first_writer}
use Rattle.mem_base.specs.machine.Turns.{writers_of}
use Rattle.mem_base.specs.script.Race.{LeavesLast, passes}
use Rattle.generation.specs.Published.{Published}
use Rattle.epoch_rule.specs.Rule.{IsLegal}
use Rattle.epoch_rule.specs.Values.{PassValue}
use Rattle.vcpu_pass.specs.Calls.{is_entered}
use Rattle.race_inside.specs.HandedOn.{ConfigState, RecordState, sizes_of}

-- the desk of a machine with this pool and sixteen passes, on which no call was made
pub record IsFresh (pool : ℕ) (c : ConfigState) : Type 0 where
  pub sizes : c.seat.sizes ≡ sizes_of pool
  pub seen : c.seat.seen ≡ []
  pub out : c.seat.out ≡ replicate most_passes false
  pub part : c.part ≡ first_writer pool most_passes

-- after this history each pass that is still entered leaves, and nothing else is done
pub record AreLeaves (seen last : List HistoryEntry) : Type 0 where
  pub each : Every (LeavesLast seen last) passes
  pub rests : writers_of last ≡ []

-- the last entries of a pass: it leaves where it is entered
abbrev pub last_of : PassValue Published → List HistoryEntry
last_of v = entries_of [] (leaves_unless (not (is_entered v)) (pass_id v.number)) []

-- of a pass this history has what it had seen of its own, and then its last entries
abbrev pub HasComeIn : List HistoryEntry → PassValue Published → Type 0
HasComeIn seen v = own_entries (v.number + 1) seen ≡ own_entries (v.number + 1) v.seen ++ last_of v

-- the desk of a record after all passes have left and were taken in
pub record HasClosed (v : RecordState) (c : ConfigState) : Type 0 where
  pub cabinet : c.seat.cabinet ≡ v.seat.cabinet
  pub sizes : c.seat.sizes ≡ v.seat.sizes
  pub out : c.seat.out ≡ replicate most_passes false
  pub part : c.part ≡ v.part
  pub legal : IsLegal c.seat.sizes c.seat.seen
  pub last : List HistoryEntry
  pub whole : c.seat.seen ≡ v.seat.seen ++ last
  pub leaves : AreLeaves v.seat.seen last
