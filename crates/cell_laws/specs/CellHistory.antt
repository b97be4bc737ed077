-- What the cells of regions hold, in every history of the pure machine: what the last step on each left, and marks until
-- they are taken.
use Rattle.std.specs.Prelude.{◌≡◌, ℕ, ◌<◌, true, false, List, [], ◌∷◌, ◌++◌, Some, Ok}
use Rattle.mem_base.specs.declared.map.ids.RegionId.{RegionId}
use Rattle.mem_base.specs.map.PassIds.{PassId}
use Rattle.mem_base.specs.declared.map.kinds.Client.{Client}
use Rattle.mem_base.specs.declared.access.cells.Cell.{Cell}
use Rattle.mem_base.specs.declared.access.cells.Place.{Place}
use Rattle.mem_base.specs.declared.access.cells.WordStep.{WordStep}
use Rattle.mem_base.specs.declared.machine.events.Hand.{Hand}
use Rattle.mem_base.specs.declared.machine.events.Hand.TheVariants as hands
use Rattle.mem_base.specs.declared.machine.events.Event.{Event}
use Rattle.mem_base.specs.declared.machine.events.Event.TheVariants as events
use Rattle.mem_base.specs.declared.machine.events.Reply.TheVariants.{Old}
use Rattle.mem_base.specs.access.Places.{is_data_or_register}
use Rattle.mem_base.specs.access.Cells.{cell}
use Rattle.mem_base.specs.machine.Desk.{Desk, is_unfilled}
use Rattle.mem_base.specs.machine.World.{World, opening, place_in_world}
use Rattle.mem_base.specs.machine.History.{PureEntry, after_entry, after_entries, IsLegal}
use Rattle.mem_base.specs.machine.CellHistories.{IsMarkKept, IsReleasedIn, Meet, cell_value, left_on}

-- each cell of a region that has a place holds what the steps on it left, from 0 on; no step was made on it before its region
-- was made, since no region's number comes again
abbrev pub CellsHoldLast : Type 0
CellsHoldLast = (pool_words passes : ℕ) (xs : List PureEntry) → IsLegal pool_words passes xs →
    let w = after_entries (opening pool_words passes) xs in
    (r : RegionId) (p : Place) (i : ℕ) → place_in_world w r ≡ Some p → i < p.words →
    cell_value w r i ≡ left_on r i 0 (opening pool_words passes) xs

-- so a step on a cell tells that
abbrev pub StepsTellLast : Type 0
StepsTellLast = (pool_words passes : ℕ) (xs : List PureEntry) (x : PureEntry) (hand : Hand) (c : Cell) (step : WordStep) →
    IsLegal pool_words passes (xs ++ x ∷ []) → x.event ≡ events.Word hand c step →
    x.reply ≡ Ok (Old (left_on c.region c.word 0 (opening pool_words passes) xs))

-- Reuse of words

-- where a place has a word that another region had before, that region was released in between
abbrev pub WordsAreReleased : Type 0
WordsAreReleased = (pool_words passes : ℕ) (xs ys : List PureEntry) → IsLegal pool_words passes (xs ++ ys) →
    let w = after_entries (opening pool_words passes) xs in
    (r s : RegionId) (p q : Place) → place_in_world w r ≡ Some p →
    place_in_world (after_entries (opening pool_words passes) (xs ++ ys)) s ≡ Some q → (r.0 ≡ s.0 → ⊥) → Meet p q → IsReleasedIn w ys r

-- Marks

-- the writer steps on data and registers alone, as loads and notifiers do
abbrev pub IsOnData : World → Event → Type 0
IsOnData w (events.Word hands.Writer c step) = (p : Place) → place_in_world w c.region ≡ Some p → is_data_or_register p c.word ≡ true
IsOnData w e = Unit {0}

abbrev pub AreOnData : World → List PureEntry → Type 0
AreOnData w [] = Unit {0}
AreOnData w (x ∷ xs) = IsOnData w x.event × AreOnData (after_entry w x) xs

-- no cell of the region waits to be cleared, as of each region that a generation names
abbrev pub IsFilled : Desk → RegionId → Type 0
IsFilled d r = (i : ℕ) → is_unfilled d (cell r i) ≡ false

-- each mark that is made is kept so, in histories in which the writer steps on data and registers alone
abbrev pub MarksAreKept : Type 0
MarksAreKept = (pool_words passes : ℕ) (xs ys : List PureEntry) (x : PureEntry) (pass : PassId) (r : RegionId) (client : Client) (page : ℕ) →
    IsLegal pool_words passes (xs ++ x ∷ ys) → x.event ≡ events.Mark pass r client page →
    let w = after_entries (opening pool_words passes) xs in
    (p : Place) → place_in_world w r ≡ Some p → IsFilled w.writer.desk r → AreOnData (after_entry w x) ys →
    IsMarkKept p client page (after_entry w x) ys
