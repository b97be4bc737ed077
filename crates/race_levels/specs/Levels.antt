-- What a virtual CPU and the record of a desk have seen of the one history.
use Rattle.std.specs.Prelude.{◌≡◌, ◌+◌, List}
use mathlib.Core.List.{IsPrefix}
use Rattle.atomic_table.specs.Seated.{TableId}
use Rattle.mem_base.specs.declared.machine.events.HistoryEntry.{HistoryEntry}
use Rattle.mem_base.specs.machine.Actors.{own_entries}
use Rattle.generation.specs.Published.{Published}
use Rattle.epoch_rule.specs.Values.{PassValue}

-- the pass is of this cabinet
abbrev pub IsOfCabinet : TableId → PassValue Published → Type 0
IsOfCabinet cabinet v = v.cabinet ≡ cabinet

-- what the pass has seen is the beginning of this
abbrev pub IsHeard : List HistoryEntry → PassValue Published → Type 0
IsHeard seen v = IsPrefix v.seen seen

-- the same pass, which has seen just this now, and made nothing on the way
pub record HasMet (seen : List HistoryEntry) (v w : PassValue Published) : Type 0 where
  pub cabinet : w.cabinet ≡ v.cabinet
  pub number : w.number ≡ v.number
  pub sizes : w.sizes ≡ v.sizes
  pub edition : w.edition ≡ v.edition
  pub seen_is : w.seen ≡ seen
  pub own : own_entries (v.number + 1) seen ≡ own_entries (v.number + 1) v.seen
