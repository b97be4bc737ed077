-- Which words an actor may touch, and what a touch adds to what it has seen.
use Rattle.std.specs.Prelude.{◌≡◌, ℕ, ◌+◌, ◌<◌, ◌≤◌, ◌==◌, true, MatchBool, List, [], ◌∷◌}
use Rattle.std.specs.List.{list_any}
use Rattle.mem_base.specs.declared.machine.events.Hand.{Hand}
use Rattle.mem_base.specs.declared.access.cells.Place.{Place}
use Rattle.mem_base.specs.declared.access.cells.WordStep.{WordStep}
use Rattle.mem_base.specs.declared.access.cells.WordStep.TheVariants.{Replace}
use Rattle.mem_base.specs.declared.machine.events.Event.TheVariants as events
use Rattle.mem_base.specs.declared.machine.events.Carried.TheVariants.{At}
use Rattle.mem_base.specs.declared.machine.events.HistoryEntry.{HistoryEntry}
use Rattle.mem_base.specs.access.Places.{past, pages_in, is_data_or_register, word_of_page}
use Rattle.mem_base.specs.access.Cells.{cell}
use Rattle.mem_base.specs.machine.SharedHistory.{is_same_place}
use Rattle.epoch_rule.specs.declared.views.Sizes.{Sizes}
use Rattle.epoch_rule.specs.declared.touches.Touch.{Touch}
use Rattle.epoch_rule.specs.declared.touches.Touch.TheVariants as touches
use Rattle.mem_base.specs.machine.Turns.{history_entry}
use Rattle.epoch_rule.specs.Wrote.{Wrote, WroteStep, WordWas, WordWasBefore}
use Rattle.epoch_rule.specs.Touches.{pass_of_hand}

-- what a pass may touch: a word of the data, a register or a notifier, or for a Mark a page of the place
abbrev pub IsReach : Place → ℕ → Touch → Type 0
IsReach p word touches.Look = is_data_or_register p word ≡ true
IsReach p word (touches.Step step) = is_data_or_register p word ≡ true
IsReach p word (touches.Try old first bytes value) = is_data_or_register p word ≡ true
IsReach p word touches.Fill = is_data_or_register p word ≡ true
IsReach p word (touches.Mark client page) = page < pages_in p
IsReach p word (touches.Harvest client index) = is_data_or_register p word ≡ true

-- a pass may touch the words of these places, which its generation carries
abbrev pub PassMay : List Place → Place → ℕ → Touch → Type 0
PassMay places p word touch = (list_any (is_same_place p) places ≡ true) × IsReach p word touch

-- the writer may touch each word of a place that ends within the cabinet's words
abbrev pub WriterMay : Sizes → Place → ℕ → Type 0
WriterMay z p word = (word < p.words) × (past p ≤ z.words)

-- what a step on a word shows: its event, with its place and the reply that stands in the history, which is the answer,
-- or 0 where it is a store
abbrev pub ShowsStep : Hand → Sizes → Place → ℕ → WordStep → List HistoryEntry → ℕ → List HistoryEntry → Type 0
ShowsStep hand z p word (Replace first bytes value) xs r ys = (r ≡ 0) × ((old : ℕ) × WroteStep hand z p word (Replace first bytes value) old xs ys)
ShowsStep hand z p word s xs r ys = WroteStep hand z p word s r xs ys

-- What a touch shows: a Look nothing, a Try its event only where it found `old`, and any other its event. The answer is
-- the value that the word had; a store answers 0
abbrev pub ShowsTouch : Hand → Sizes → Place → ℕ → Touch → List HistoryEntry → ℕ → List HistoryEntry → Type 0
ShowsTouch hand z p word touches.Look xs r ys = (ys ≡ xs) × WordWas z xs (p.start + word) r
ShowsTouch hand z p word (touches.Step step) xs r ys = ShowsStep hand z p word step xs r ys
ShowsTouch hand z p word (touches.Try old first bytes value) xs r ys =
    MatchBool (r == old) (WroteStep hand z p word (Replace first bytes value) r xs ys)
    ((ys ≡ xs) × WordWas z xs (p.start + word) r)
ShowsTouch hand z p word touches.Fill xs r ys = (r ≡ 0) × Wrote hand z xs (history_entry (events.Fill (cell p.region word)) (At p) 0 ∷ []) ys
ShowsTouch hand z p word (touches.Mark client page) xs r ys =
    let entry = history_entry (events.Mark (pass_of_hand hand) p.region client page) (At p) 0 in
    Wrote hand z xs (entry ∷ []) ys × WordWasBefore z xs (p.start + word_of_page p client page) r entry ys
ShowsTouch hand z p word (touches.Harvest client index) xs r ys = Wrote hand z xs (history_entry (events.Harvest p.region client index) (At p) r ∷ []) ys
