-- What a pass that is entered may do, in every history of the pure machine.
use Rattle.std.specs.Prelude.{◌≡◌, ℕ, ◌<◌, true, List, Some}
use Rattle.mem_base.specs.map.PassIds.{PassId}
use Rattle.mem_base.specs.declared.map.kinds.Client.{Client}
use Rattle.mem_base.specs.declared.access.cells.Place.{Place}
use Rattle.mem_base.specs.declared.access.cells.WordStep.{WordStep}
use Rattle.mem_base.specs.declared.machine.events.Hand.TheVariants as hands
use Rattle.mem_base.specs.declared.machine.events.Event.{Event}
use Rattle.mem_base.specs.declared.machine.events.Event.TheVariants as events
use Rattle.mem_base.specs.lists.Every.{Every, HasElement}
use Rattle.mem_base.specs.access.Places.{is_data_or_register, pages_in}
use Rattle.mem_base.specs.access.Cells.{cell}
use Rattle.mem_base.specs.machine.Passes.{pass_of}
use Rattle.mem_base.specs.machine.Generations.{Generation, generation_of, is_held, held_generations, entered_generation}
use Rattle.mem_base.specs.machine.World.{World, opening, possible, world_after}
use Rattle.mem_base.specs.machine.History.{PureEntry, after_entries, IsLegal}

-- the pass is entered in this generation
abbrev pub IsEnteredIn : World → PassId → Generation → Type 0
IsEnteredIn w pass x = entered_generation w.writer.generations w.passes pass ≡ Some x

-- the generation has this number, is kept under it, and is held
pub record IsHeldAt (w : World) (number : ℕ) (x : Generation) : Type 0 where
  pub kept : generation_of w.writer.generations number ≡ Some x
  pub held : is_held w.writer.generations number ≡ true
  pub among : HasElement (held_generations w.writer.generations) x

-- a pass that entered a number is entered in the generation of that number, which is held
pub record EntersHeld (w : World) (pass : PassId) : Type 0 where
  pub there : (number : ℕ) → (pass_of w.passes pass).entered ≡ Some number → (x : Generation) × IsEnteredIn w pass x × IsHeldAt w number x
  pub numbered : (x : Generation) → IsEnteredIn w pass x → (number : ℕ) × ((pass_of w.passes pass).entered ≡ Some number) × IsHeldAt w number x

abbrev pub EnteredGenerationsAreHeld : Type 0
EnteredGenerationsAreHeld = (pool_words passes : ℕ) (xs : List PureEntry) → IsLegal pool_words passes xs → (pass : PassId) →
    EntersHeld (after_entries (opening pool_words passes) xs) pass

-- a step of a pass on a word of a place
abbrev pub word_event : PassId → Place → ℕ → WordStep → Event
word_event pass p word step = events.Word (hands.Pass pass) (cell p.region word) step

-- the event is possible, and after it the pass is entered in the same generation
pub record MayDo (w : World) (pass : PassId) (x : Generation) (e : Event) : Type 0 where
  pub may : possible w e ≡ true
  pub stays : IsEnteredIn (world_after w e) pass x

-- the pass may step on each word of data and each register of a place, and mark each of its pages
pub record MayStep (w : World) (pass : PassId) (x : Generation) (p : Place) : Type 0 where
  pub words : (word : ℕ) (step : WordStep) → is_data_or_register p word ≡ true → MayDo w pass x (word_event pass p word step)
  pub marks : (client : Client) (page : ℕ) → page < pages_in p → MayDo w pass x (events.Mark pass p.region client page)

abbrev pub StepsArePossible : Type 0
StepsArePossible = (pool_words passes : ℕ) (xs : List PureEntry) → IsLegal pool_words passes xs →
    let w = after_entries (opening pool_words passes) xs in
    (pass : PassId) (x : Generation) → IsEnteredIn w pass x → Every (MayStep w pass x) x.places
