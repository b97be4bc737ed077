-- Copies of an edition in the slots, and the one in which a pass is entered.
use Rattle.std.specs.Prelude.{◌≡◌, ℕ, ◌+◌, ◌<◌, List, [], ◌∷◌, length, Option, Some, None}
use Rattle.std.specs.Arc.{arc_value}
use Rattle.std.specs.declared.sync.Arc.{Arc}
use Rattle.atomic_table.specs.Seated.{TableId}
use Rattle.atomic_table.specs.Table.{Me, Step}
use Rattle.mem_base.specs.declared.map.forests.Forest.{Forest}
use Rattle.mem_base.specs.declared.access.cells.Place.{Place}
use Rattle.mem_base.specs.declared.machine.events.Event.TheVariants as events
use Rattle.mem_base.specs.declared.machine.events.HistoryEntry.{HistoryEntry}
use Rattle.mem_base.specs.declared.machine.events.Carried.TheVariants.{Nothing}
use Rattle.mem_base.specs.machine.Passes.{idle}
use Rattle.mem_base.specs.machine.Generations.{Generation, generation}
use Rattle.epoch_rule.specs.declared.views.Sizes.{Sizes}
use Rattle.epoch_rule.specs.declared.views.Picked.{Picked}
use Rattle.epoch_rule.specs.declared.views.View.{View}
use Rattle.mem_base.specs.machine.Passes.{pass_id}
use Rattle.mem_base.specs.machine.Actors.{generations_published, generation_published}
use Rattle.epoch_rule.specs.Rule.{pass_seen, PlacesFit, ComesNext}
use Rattle.epoch_rule.specs.Layout.{word_of_pass, words_before_pool, slots_before, slot_of}

-- the table has words and slots for these numbers of passes and words: the words before the cabinet's own and these, and the
-- slots of all passes
abbrev pub Suits : TableId → Sizes → Type 0
Suits t z = (t.words ≡ words_before_pool z.passes + z.words) × (t.slots ≡ slots_before z.passes)

-- what an edition shows
abbrev pub shown_by : {E : Type 0} → (E → Forest) → (E → List Place) → E → Generation
shown_by forest places e = generation (forest e) (places e)

-- the slot has a copy of an edition of number g, which shows this generation
abbrev pub IsCopy : {E Z : Type 0} → (E → ℕ) → (E → Forest) → (E → List Place) → ℕ → Generation → Option (Arc E Z) → Type 0
IsCopy {E} {Z} number forest places g x y = (a : Arc E Z) × (y ≡ Some a) × (number (arc_value a) ≡ g) × (shown_by forest places (arc_value a) ≡ x)

-- the edition shows what the Publish of its number carried
abbrev pub ShowsPublished : {E : Type 0} → (E → ℕ) → (E → Forest) → (E → List Place) → List HistoryEntry → E → Type 0
ShowsPublished number forest places seen e = (number e < length (generations_published seen))
    × (shown_by forest places e ≡ generation_published seen (number e))

-- pass p is entered in this edition, by its own entries, and the edition shows what the Publish of its number carried
pub record IsEnteredIn {E : Type 0} (number : E → ℕ) (forest : E → Forest) (places : E → List Place) (p : ℕ) (v : View) (e : E) : Type 0 where
  pub entered : (pass_seen p v).entered ≡ Some (number e)
  pub published : number e < length (generations_published v.seen)
  pub shows : shown_by forest places e ≡ generation_published v.seen (number e)
  pub roomy : PlacesFit v.sizes.words (shown_by forest places e)

-- a pass that is entered has its edition, out of its slot; one that is not is idle, and holds no slot
abbrev pub HasItsEdition : {E Z : Type 0} → (E → ℕ) → (E → Forest) → (E → List Place) → ℕ → Me (Option (Arc E Z)) View → Option (Arc E Z) → Type 0
HasItsEdition number forest places p me None = (pass_seen p me.0 ≡ idle) × (me.1 ≡ [])
HasItsEdition number forest places p me (Some a) = IsEnteredIn number forest places p me.0 (arc_value a)
    × (me.1 ≡ (slot_of p (number (arc_value a)), None) ∷ [])

-- what a publish shows of an edition
abbrev pub picked : {E : Type 0} → (E → Forest) → (E → List Place) → E → Picked
picked forest places e = record { forest = forest e; places = places e }

-- the edition of a pass, as a caller sees it
abbrev pub value_in : {E Z : Type 0} → Option (Arc E Z) → Option E
value_in None = None
value_in (Some a) = Some (arc_value a)

-- the writer has given the slot back, with a copy of the edition whose forest and places it publishes
abbrev pub placed_as : {E Z : Type 0} → (E → Forest) → (E → List Place) → Step (Option (Arc E Z)) → Me (Option (Arc E Z)) View → ℕ
    → Me (Option (Arc E Z)) View → Type 0
placed_as {E} {Z} forest places st m r w = (i : ℕ) (a : Arc E Z) → m.1 ≡ (i, Some a) ∷ [] → (w.1 ≡ []) × (w.0.held ≡ 0)
    × (w.0.next ≡ picked forest places (arc_value a))
    × ((p : ℕ) → st.word ≡ word_of_pass p → ComesNext 0 m.0 (events.Place (pass_id p)) Nothing 0 w.0)
