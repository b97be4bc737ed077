-- What a ledger is seen as: what is noted of the regions that are there, and of those that are dropped.
use Rattle.std.specs.Prelude.{◌≡◌, ℕ, ◌-◌, ◌≤◌, false, min, List, length, Option, option_and_then, find}
use Rattle.mem_base.specs.declared.map.ids.RegionId.{RegionId}
use Rattle.mem_base.specs.lists.Every.{Every}
use Rattle.reclaim.specs.declared.notes.Note.{Note}
use Rattle.reclaim.specs.Notes.{NoteList, is_of, is_noted}

-- the notes on regions that are not dropped, those on the dropped ones, and for how many more regions there is room
pub record LedgerState : Type 0 where
  pub present : List Note
  pub dropped : List Note
  pub room : ℕ

-- each region that is there has its room among the dropped ones
abbrev pub ledger_state : NoteList → NoteList → LedgerState
ledger_state present dropped = record {
  present = present.notes;
  dropped = dropped.notes;
  room = min present.room (dropped.room - length present.notes);
}

-- no region is there and dropped
abbrev pub AreApart : List Note → List Note → Type 0
AreApart present dropped = Every (λ n. is_noted n.region dropped ≡ false) present

pub record IsLedger (present dropped : NoteList) : Type 0 where
  pub apart : AreApart present.notes dropped.notes
  pub room : length present.notes ≤ dropped.room

-- the last generation that is noted of a region
abbrev pub noted_last : RegionId → List Note → Option ℕ
noted_last region notes = option_and_then (λ n. n.last) (find (is_of region) notes)
