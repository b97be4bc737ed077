-- What the cells of regions hold on the running machine, in its history with the private events of turns put in.
use Rattle.std.specs.Prelude.{◌≡◌, ℕ, ◌+◌, List, ◌∷◌, ◌++◌, flat_map, Some, Ok}
use Rattle.mem_base.specs.declared.map.ids.RegionId.{RegionId}
use Rattle.mem_base.specs.map.PassIds.{PassId}
use Rattle.mem_base.specs.declared.map.kinds.Client.{Client}
use Rattle.mem_base.specs.declared.access.cells.Cell.{Cell}
use Rattle.mem_base.specs.declared.access.cells.Place.{Place}
use Rattle.mem_base.specs.declared.access.cells.WordStep.{WordStep}
use Rattle.mem_base.specs.declared.machine.events.Hand.{Hand}
use Rattle.mem_base.specs.declared.machine.events.Event.TheVariants as events
use Rattle.mem_base.specs.declared.machine.events.HistoryEntry.{HistoryEntry}
use Rattle.mem_base.specs.declared.machine.events.Reply.TheVariants.{Old}
use Rattle.mem_base.specs.lists.Every.{Every}
use Rattle.mem_base.specs.map.Limits.{notifier_count}
use Rattle.mem_base.specs.machine.Reaps.{first_writer}
use Rattle.mem_base.specs.machine.Orders.{Order, configure}
use Rattle.mem_base.specs.machine.World.{opening, place_in_world}
use Rattle.mem_base.specs.machine.History.{PureEntry, after_entry, after_entries}
use Rattle.mem_base.specs.machine.SharedHistory.{IsSharedLegal}
use Rattle.mem_base.specs.machine.Turns.{Answered, turns, entries_of_turn, last_writer, writers_of}
use Rattle.mem_base.specs.machine.JoinedHistory.{joined_history}
use Rattle.run_laws.specs.MadeForests.{FitsConfig, HasMadeForests}
use Rattle.mem_base.specs.machine.CellHistories.{IsMarkKept, IsReleasedIn, Meet, left_on}

-- the call of an order fits its types
abbrev pub FitsOrder : Order → Type 0
FitsOrder (configure k) = FitsConfig k
FitsOrder k = Unit {0}

abbrev pub HasFittingCall : Answered → Type 0
HasFittingCall o = FitsOrder o.0

-- in every history of turns, each mark of a page is told by the first event that takes its word, or its region was released
-- before any did, or it still stands
abbrev pub TurnsKeepMarks : Type 0
TurnsKeepMarks = (pool_words passes : ℕ) (os : List Answered) (xs : List HistoryEntry) → IsSharedLegal (pool_words + notifier_count) passes xs →
    let ts = turns (first_writer pool_words passes) os in
    writers_of xs ≡ flat_map entries_of_turn ts → Every HasFittingCall os →
    (before after : List PureEntry) (x : PureEntry) (pass : PassId) (r : RegionId) (client : Client) (page : ℕ) →
    joined_history ts xs ≡ before ++ x ∷ after → x.event ≡ events.Mark pass r client page →
    let w = after_entries (opening pool_words passes) before in
    (p : Place) → place_in_world w r ≡ Some p → IsMarkKept p client page (after_entry w x) after

-- in every history of turns, a step on a cell tells what the steps on it before left, from 0 on; and a word of the pool comes to
-- another region only after the region that had it was released
pub record ReusesReleased (pool_words passes : ℕ) (ys : List PureEntry) : Type 0 where
  pub tells : (before after : List PureEntry) (x : PureEntry) (hand : Hand) (c : Cell) (step : WordStep) → ys ≡ before ++ x ∷ after →
      x.event ≡ events.Word hand c step → x.reply ≡ Ok (Old (left_on c.region c.word 0 (opening pool_words passes) before))
  pub released : (before after rest : List PureEntry) → ys ≡ (before ++ after) ++ rest →
      let w = after_entries (opening pool_words passes) before in
      (r s : RegionId) (p q : Place) → place_in_world w r ≡ Some p → place_in_world (after_entries (opening pool_words passes) (before ++ after)) s ≡ Some q →
      (r.0 ≡ s.0 → ⊥) → Meet p q → IsReleasedIn w after r

abbrev pub TurnsReuseReleased : Type 0
TurnsReuseReleased = (pool_words passes : ℕ) (os : List Answered) (xs : List HistoryEntry) → IsSharedLegal (pool_words + notifier_count) passes xs →
    let ts = turns (first_writer pool_words passes) os in
    writers_of xs ≡ flat_map entries_of_turn ts → ReusesReleased pool_words passes (joined_history ts xs)

-- turns whose calls fit their types leave forests that such calls made: the desk's, and that of each generation that is kept
abbrev pub TurnsMakeForests : Type 0
TurnsMakeForests = (pool_words passes : ℕ) (os : List Answered) → Every HasFittingCall os →
    HasMadeForests (last_writer (first_writer pool_words passes) (turns (first_writer pool_words passes) os))
