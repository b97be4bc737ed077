-- What a caller sees of a cabinet, and of those who act on it.
use Rattle.std.specs.Prelude.{◌≡◌, ℕ, suc, ◌<◌, ◌≤◌, ◌^◌, List, [], ◌∷◌, Bool, true, false, Option}
use Rattle.atomic_table.specs.Seated.{TableId}
use Rattle.mem_base.specs.declared.machine.events.HistoryEntry.{HistoryEntry}
use Rattle.mem_base.specs.map.Limits.{most_passes}
use Rattle.epoch_rule.specs.declared.views.Sizes.{Sizes}
use Rattle.epoch_rule.specs.Copies.{Suits}

-- a cabinet: which one it is, and how many passes and words it has
pub record CabinetValue : Type 0 where
  pub id : TableId
  pub sizes : Sizes

-- a cabinet's table has the words and slots for its passes and words: 1 to 16 passes, and its number of words fits
pub record IsCabinet (id : TableId) (z : Sizes) (passes : ℕ) : Type 0 where
  pub suits : Suits id z
  pub some : 0 < z.passes
  pub few : z.passes ≤ most_passes
  pub small : z.words < 2 ^ 32
  pub counts : passes ≡ z.passes

-- a pass: the cabinet that made it, its number, what it has seen of the history, and the edition that it is entered in
pub record PassValue (E : Type 0) : Type 0 where
  pub cabinet : TableId
  pub number : ℕ
  pub sizes : Sizes
  pub seen : List HistoryEntry
  pub edition : Option E

-- a note: what an actor had seen
pub record NoteValue : Type 0 where
  pub cabinet : TableId
  pub seen : List HistoryEntry

-- the writer's seat: what the writer has seen, and of each pass whether it is out
pub record WriterValue : Type 0 where
  pub cabinet : TableId
  pub sizes : Sizes
  pub seen : List HistoryEntry
  pub out : List Bool

-- the least pass that is not out; where all are, the number of passes
abbrev pub first_free : List Bool → ℕ
first_free [] = 0
first_free (true ∷ bs) = suc (first_free bs)
first_free (false ∷ bs) = 0

-- a batch: an edition, and how many copies of it there are
pub record BatchValue (E : Type 0) : Type 0 where
  pub edition : E
  pub copies : ℕ
