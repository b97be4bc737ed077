-- What an actor's calls add to what it has seen of the one history.
use Rattle.std.specs.Prelude.{◌≡◌, ℕ, ◌<◌, nat_lt, if◌then◌else◌, List, slice_index, [], ◌∷◌, ◌++◌, length, Some, None}
use mathlib.Core.List.{IsPrefix}
use Rattle.mem_base.specs.map.PassIds.{PassId}
use Rattle.mem_base.specs.declared.access.cells.Place.{Place}
use Rattle.mem_base.specs.declared.access.cells.WordStep.{WordStep}
use Rattle.mem_base.specs.declared.machine.events.Hand.{Hand}
use Rattle.mem_base.specs.declared.machine.events.Hand.TheVariants as hands
use Rattle.mem_base.specs.declared.machine.events.Event.TheVariants.{Look, Announce, Enter, Word}
use Rattle.mem_base.specs.declared.machine.events.Carried.TheVariants.{Nothing, At}
use Rattle.mem_base.specs.declared.machine.events.HistoryEntry.{HistoryEntry}
use Rattle.mem_base.specs.access.Cells.{cell}
use Rattle.mem_base.specs.machine.Passes.{pass_id}
use Rattle.mem_base.specs.machine.Actors.{actor_of_hand, own_entries}
use Rattle.mem_base.specs.machine.Histories.{last_of}
use Rattle.mem_base.specs.machine.Turns.{history_entry}
use Rattle.epoch_rule.specs.declared.views.Sizes.{Sizes}
use Rattle.epoch_rule.specs.Rule.{IsLegal, state_of}
use Rattle.epoch_rule.specs.Values.{PassValue, WriterValue, first_free}

-- where there are new entries, the last of them is the last one seen
abbrev pub EndsWith : List HistoryEntry → List HistoryEntry → Type 0
EndsWith new seen = (x : HistoryEntry) → last_of new ≡ Some x → last_of seen ≡ Some x

-- The actor made these events and no others: its own entries grew by them. What it has seen begins with what it had
-- seen, is a legal history, and ends with the last of these events
pub record Wrote (hand : Hand) (z : Sizes) (before new after : List HistoryEntry) : Type 0 where
  pub begins : IsPrefix before after
  pub lawful : IsLegal z after
  pub events : own_entries (actor_of_hand hand) after ≡ own_entries (actor_of_hand hand) before ++ new
  pub ends : EndsWith new after

-- The same of any number of events: where there are none, it has seen no more than before
pub record Adds (z : Sizes) (actor : ℕ) (before new after : List HistoryEntry) : Type 0 where
  pub begins : IsPrefix before after
  pub lawful : IsLegal z before → IsLegal z after
  pub events : own_entries actor after ≡ own_entries actor before ++ new
  pub ends : EndsWith new after
  pub still : new ≡ [] → after ≡ before

-- after this legal history, which begins with what was seen, a word of the cabinet had this value
pub record HadWord (z : Sizes) (seen : List HistoryEntry) (word found : ℕ) (log : List HistoryEntry) : Type 0 where
  pub begins : IsPrefix seen log
  pub lawful : IsLegal z log
  pub value : slice_index (state_of z log).words word ≡ found

-- the word had this value at some point of the one history, after all that was seen
abbrev pub WordWas : Sizes → List HistoryEntry → ℕ → ℕ → Type 0
WordWas z seen word found = (log : List HistoryEntry) × HadWord z seen word found log

-- the word had this value right before this entry, the last one that is seen now
abbrev pub WordWasBefore : Sizes → List HistoryEntry → ℕ → ℕ → HistoryEntry → List HistoryEntry → Type 0
WordWasBefore z seen word found entry now = (log : List HistoryEntry) × HadWord z seen word found log × (now ≡ log ++ entry ∷ [])

-- a pass made these events, and is the same pass
pub record Made {E : Type 0} (v : PassValue E) (new : List HistoryEntry) (w : PassValue E) : Type 0 where
  pub cabinet : w.cabinet ≡ v.cabinet
  pub number : w.number ≡ v.number
  pub sizes : w.sizes ≡ v.sizes
  pub wrote : Wrote (hands.Pass (pass_id v.number)) v.sizes v.seen new w.seen

-- what entering adds: the number that the pass looked at, the announcement of it, and the number that it entered
abbrev pub entries_of_enter : PassId → ℕ → ℕ → List HistoryEntry
entries_of_enter pass looked number =
    history_entry (Look pass) Nothing looked ∷ history_entry (Announce pass) Nothing 0 ∷ history_entry (Enter pass) Nothing number ∷ []

-- the actor made this step on a word of a place, which had this value
abbrev pub WroteStep : Hand → Sizes → Place → ℕ → WordStep → ℕ → List HistoryEntry → List HistoryEntry → Type 0
WroteStep hand z p word step old before after = Wrote hand z before (history_entry (Word hand (cell p.region word) step) (At p) old ∷ []) after

-- the writer handed this pass out: the least one that is not out. It has seen what the writer has, and is not entered
pub record IsNewPass {E : Type 0} (w : WriterValue) (p : PassValue E) : Type 0 where
  pub number : p.number ≡ first_free w.out
  pub inside : p.number < length w.out
  pub cabinet : p.cabinet ≡ w.cabinet
  pub sizes : p.sizes ≡ w.sizes
  pub seen : p.seen ≡ w.seen
  pub legal : IsLegal p.sizes p.seen
  pub edition : p.edition ≡ None

-- the longer of two beginnings of one history
abbrev pub longer : List HistoryEntry → List HistoryEntry → List HistoryEntry
longer xs ys = if nat_lt (length xs) (length ys) then ys else xs
