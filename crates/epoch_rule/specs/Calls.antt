-- The writer's calls that make an event for each pass, by ascending number: a sweep of all, and a publish.
use Rattle.std.specs.Prelude.{◌≡◌, ◌≢◌, ◌==◌, ℕ, zero, suc, ◌+◌, ◌-◌, ◌<◌, min, if◌then◌else◌, List, [], ◌∷◌, ◌++◌, length, map, Option, Some, None}
use mathlib.Core.List.{IsPrefix}
use Rattle.std.specs.Arc.{arc_value}
use Rattle.std.specs.declared.sync.Arc.{Arc}
use Rattle.mem_base.specs.map.PassIds.{PassId}
use Rattle.mem_base.specs.declared.map.forests.Forest.{Forest}
use Rattle.mem_base.specs.declared.access.cells.Place.{Place}
use Rattle.mem_base.specs.lists.Every.{Every}
use Rattle.epoch_rule.specs.declared.views.Picked.{Picked}
use Rattle.epoch_rule.specs.Copies.{picked}
use Rattle.mem_base.specs.declared.machine.events.Event.TheVariants as events
use Rattle.mem_base.specs.declared.machine.events.Carried.TheVariants.{Nothing}
use Rattle.mem_base.specs.declared.machine.events.HistoryEntry.{HistoryEntry}
use Rattle.mem_base.specs.machine.Generations.{Generations, known_of, number_pinned, first_generations}
use Rattle.mem_base.specs.declared.map.refusals.Refusal.{Refusal}
use Rattle.mem_base.specs.declared.map.refusals.Refusal.TheVariants as refusals
use Rattle.mem_base.specs.declared.machine.events.Hand.TheVariants as hands
use Rattle.mem_base.specs.declared.machine.events.Carried.{Carried}
use Rattle.mem_base.specs.machine.Publishing.{holds_up, held_up}
use Rattle.epoch_rule.specs.Wrote.{Wrote, EndsWith}
use Rattle.epoch_rule.specs.declared.views.Sizes.{Sizes}
use Rattle.epoch_rule.specs.declared.views.View.{View}
use Rattle.epoch_rule.specs.declared.writers.Found.{Found}
use Rattle.epoch_rule.specs.declared.writers.Held.{Held}
use Rattle.mem_base.specs.machine.Passes.{pass_id}
use Rattle.mem_base.specs.machine.Turns.{history_entry}
use Rattle.mem_base.specs.machine.Actors.{own_entries, generations_after_all}
use Rattle.epoch_rule.specs.Rule.{IsLegal, generations_seen, KeepsSlot, KeepsHome}
use Rattle.epoch_rule.specs.Writing.{stored}

-- a sweep of each pass from `first` on, with what it found
abbrev pub sweeps_of : ℕ → List ℕ → List HistoryEntry
sweeps_of first [] = []
sweeps_of first (r ∷ rs) = history_entry (events.Sweep (pass_id first)) Nothing r ∷ sweeps_of (suc first) rs

-- a copy for each of the first `n` passes
abbrev pub places_of : ℕ → List HistoryEntry
places_of zero = []
places_of (suc n) = places_of n ++ history_entry (events.Place (pass_id n)) Nothing 0 ∷ []

-- what the writer's own entries in a history make of the generations
abbrev pub generations_in_seen : Sizes → List HistoryEntry → Generations
generations_in_seen z xs = generations_after_all (first_generations z.passes) (own_entries 0 xs)

-- the writer's own entries grew by these
pub record HasWritten (v : View) (es : List HistoryEntry) (w : View) : Type 0 where
  pub role : w.role ≡ v.role
  pub out : w.out ≡ v.out
  pub sizes : w.sizes ≡ v.sizes
  pub begins : IsPrefix v.seen w.seen
  pub lawful : IsLegal v.sizes w.seen
  pub events : own_entries 0 w.seen ≡ own_entries 0 v.seen ++ es
  pub home : KeepsHome v.out v.seen w.seen

-- the first `n` passes were swept, and what was found is stored
pub record HasSwept (v w : View) (known : List Found) (n : ℕ) : Type 0 where
  pub rs : List ℕ
  pub many : length rs ≡ n
  pub writes : HasWritten v (sweeps_of 0 rs) w
  pub ends : EndsWith (sweeps_of 0 rs) w.seen
  pub holds : KeepsSlot v w
  pub is_known : known ≡ map stored (generations_seen w).passes

-- the least pass that holds a publish up
abbrev pub held_in : ℕ → ℕ → List Found → Option Held
held_in current first [] = None
held_in current first (f ∷ fs) = if holds_up current (number_pinned f.word) then Some
    (record { pass = pass_id first; number = f.word - 1 }) else held_in current (first + 1) fs

-- copies of one edition
abbrev pub AreCopies : {E Z : Type 0} → (E → ℕ) → (E → Forest) → (E → List Place) → ℕ → Picked → List (Arc E Z) → Type 0
AreCopies number forest places g x all = Every (λ a. (number (arc_value a) ≡ g) × (picked forest places (arc_value a) ≡ x)) all

-- the first `n` passes have their copies
pub record HasPlaced (v w : View) (next : Picked) (n : ℕ) : Type 0 where
  pub writes : HasWritten v (places_of n) w
  pub free : w.held ≡ 0
  pub is_next : 0 < n → w.next ≡ next

-- the name of a refusal for what holds a publish up
abbrev pub refusal_of : Held → Refusal
refusal_of h = refusals.Held h.pass h.number

-- a publish was made: a sweep of each pass, none of which held it up, a copy for each, and then the Publish
abbrev pub Published : Sizes → List HistoryEntry → Carried → ℕ → List HistoryEntry → Type 0
Published z xs x number ys = (rs : List ℕ) × (length rs ≡ z.passes)
    × Wrote hands.Writer z xs (sweeps_of 0 rs ++ places_of z.passes ++ history_entry events.Publish x number ∷ []) ys
    × (held_up (generations_after_all (generations_in_seen z xs) (sweeps_of 0 rs)) ≡ None)

-- it was held up: a sweep of each pass, and this is the least one that was found at the current number less 7 or older
abbrev pub HeldUp : Sizes → List HistoryEntry → Held → List HistoryEntry → Type 0
HeldUp z xs h ys = (rs : List ℕ) × (length rs ≡ z.passes) × Wrote hands.Writer z xs (sweeps_of 0 rs) ys
    × (held_up (generations_in_seen z ys) ≡ Some (refusal_of h))

-- the pass is the least one that has this lowest number
pub record IsLeastPassAt (g : Generations) (lowest : ℕ) (pass : PassId) : Type 0 where
  pub inside : pass.0 < length g.passes
  pub has : (known_of g pass).lowest ≡ lowest
  pub least : (v : ℕ) → v < pass.0 → (known_of g (pass_id v)).lowest ≢ lowest

-- the first of those stored with this lowest number; their count where none has it
abbrev pub first_at : ℕ → List Found → ℕ
first_at lowest [] = 0
first_at lowest (f ∷ fs) = if f.lowest == lowest then 0 else suc (first_at lowest fs)

-- the least number stored, or the current one
abbrev pub least_in : ℕ → List Found → ℕ
least_in current [] = current
least_in current (f ∷ fs) = min f.lowest (least_in current fs)
