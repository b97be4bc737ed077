-- The rule of the cabinet's table, which holds between any two steps of any threads, and what a step adds to it.
-- Word 0 is the current number, the word of a pass shows what it has announced, and after the words of all passes come the
-- cabinet's own. A pass has a slot for each generation that is kept: `Layout` says which words and slots these are.
-- This project's own rule, in place of the RCU of QEMU's core.
use Rattle.std.specs.Prelude.{◌≡◌, ◌≢◌, ℕ, ◌+◌, ◌-◌, ◌%◌, ◌<◌, ◌≤◌, Bool, true, false, List, [], ◌∷◌, ◌++◌, length, slice_index, slice_index_or, Option, Some}
use mathlib.Core.Option.{some}
use mathlib.Core.Option as maybe
use mathlib.Core.List.{IsPrefix}
use lib.ListN.{get_elem?}
use Rattle.atomic_table.specs.Table.{State}
use Rattle.mem_base.specs.declared.machine.events.Event.{Event}
use Rattle.mem_base.specs.declared.machine.events.Carried.{Carried}
use Rattle.mem_base.specs.declared.machine.events.Carried.TheVariants.{Edition}
use Rattle.mem_base.specs.declared.machine.events.HistoryEntry.{HistoryEntry}
use Rattle.mem_base.specs.lists.Every.{Every}
use Rattle.mem_base.specs.access.Places.{past}
use Rattle.mem_base.specs.machine.Passes.{PassState, idle, pass_of}
use Rattle.mem_base.specs.machine.Generations.{Generation, generation, Generations, PassTrack, known_of, first_generations, pin_word}
use Rattle.mem_base.specs.machine.SharedHistory.{Shared, shared_opening, after_shared_entries, IsSharedLegal}
use Rattle.epoch_rule.specs.declared.views.Sizes.{Sizes}
use Rattle.epoch_rule.specs.declared.views.Picked.{Picked}
use Rattle.epoch_rule.specs.declared.views.View.{View}
use Rattle.mem_base.specs.machine.Passes.{pass_id}
use Rattle.mem_base.specs.machine.Turns.{history_entry}
use Rattle.mem_base.specs.machine.Actors.{own_entries, pass_after_all, generations_after_all, generations_published, first_generation}
use Rattle.epoch_rule.specs.Layout.{word_of_pass, words_before_pool, slots_before, slot_of}
use Rattle.mem_base.specs.map.Limits.{most_generations}

-- the shared part of the machine after a history
abbrev pub state_of : Sizes → List HistoryEntry → Shared
state_of z log = after_shared_entries (shared_opening z.words z.passes) log

-- the history is legal by its shared part
abbrev pub IsLegal : Sizes → List HistoryEntry → Type 0
IsLegal z log = IsSharedLegal z.words z.passes log

-- what the writer picks of an edition to publish
abbrev pub generation_of_pick : Picked → Generation
generation_of_pick x = generation x.forest x.places

abbrev pub carried_pick : Picked → Carried
carried_pick x = Edition x.forest x.places

-- what a seat's own entries make of its actor's part
abbrev pub pass_seen : ℕ → View → PassState
pass_seen v w = pass_after_all idle (own_entries (v + 1) w.seen)

abbrev pub generations_seen : View → Generations
generations_seen w = generations_after_all (first_generations w.sizes.passes) (own_entries 0 w.seen)

-- the table's words show the state of the history
pub record WordsShow (z : Sizes) (s : Shared) (words : List ℕ) : Type 0 where
  pub wide : length words ≡ words_before_pool z.passes + z.words
  pub current : slice_index words 0 ≡ s.generations.current
  pub small : s.generations.current + 1 < 18446744073709551616
  -- the word of a pass shows what it has announced
  pub pins : (v : ℕ) → v < z.passes → slice_index words (word_of_pass v) ≡ pin_word (pass_of s.passes (pass_id v)).announced
  -- each word of the cabinet has what the events that touched it leave
  pub pool : (i : ℕ) → i < z.words → slice_index words (words_before_pool z.passes + i) ≡ slice_index s.words i

-- the places of a generation end within the cabinet's words
abbrev pub PlacesFit : ℕ → Generation → Type 0
PlacesFit words x = Every (λ p. past p ≤ words) x.places

module _ {S : Type 0} where
  -- the slot is at home, with a value of which this holds
  abbrev pub HasAt : List (maybe.Option S) → ℕ → (S → Type 0) → Type 0
  HasAt homes i P = (y : S) × (get_elem? homes i ≡ some (some y)) × P y

  -- What the slots of pass v contain. The current number is c, the generations `gs` were published, the pass is entered
  -- in `inside`, and the writer holds a slot of pass `held - 1` for the generation `next`, or none where `held` is 0
  pub record PassSlots (Copy : ℕ → Generation → S → Type 0) (c : ℕ) (gs : List Generation) (k : PassTrack) (inside : Option ℕ) (held : ℕ) (next : Generation)
      (homes : List (maybe.Option S)) (v : ℕ) : Type 0 where
    -- each generation that the pass may still use is in its slot, but for the one that it is entered in
    pub kept : (g : ℕ) → k.lowest ≤ g → g ≤ c → inside ≢ Some g → HasAt homes (slot_of v g) (Copy g (slice_index_or gs g first_generation))
    -- the next generation is in its slot where the pass has its copy
    pub placed : k.placed ≡ true → HasAt homes (slot_of v (c + 1)) (Copy (c + 1) next)
    -- each slot is at home that neither the pass nor the writer holds
    pub home : (j : ℕ) → j < most_generations → ((g : ℕ) → inside ≡ Some g → j ≢ g % most_generations) → (held ≡ v + 1 → j ≢ (c + 1) % most_generations)
        → HasAt homes (slots_before v + j) (λ y. Unit {0})
    -- the writer holds a slot of the pass only for the next generation, and where the pass has no copy of it yet
    pub clear : held ≡ v + 1 → (c ≤ k.lowest + (most_generations - 2)) × (k.placed ≡ false)

  abbrev pub SlotsOfPass : (ℕ → Generation → S → Type 0) → Shared → List Generation → ℕ → Generation → List (maybe.Option S) → ℕ → Type 0
  SlotsOfPass Copy s gs held next homes v = PassSlots Copy s.generations.current gs (known_of s.generations (pass_id v))
      (pass_of s.passes (pass_id v)).entered held next homes v

  pub record AllSlots (Copy : ℕ → Generation → S → Type 0) (n : ℕ) (s : Shared) (gs : List Generation) (held : ℕ) (next : Generation)
      (homes : List (maybe.Option S)) : Type 0 where
    pub deep : length homes ≡ slots_before n
    pub each : (v : ℕ) → v < n → SlotsOfPass Copy s gs held next homes v

-- what seat j knows, where each actor's seat is the one that `owner` gives, and these passes are out
pub record SeatKnows (z : Sizes) (log : List HistoryEntry) (owner : ℕ → ℕ) (out : List Bool) (held : ℕ) (next : Picked) (j : ℕ) (v : View) : Type 0 where
  pub knows : (a : ℕ) → v.role ≡ Some a → v.sizes ≡ z
  pub begins : IsPrefix v.seen log
  -- what it had seen, and what it was told of, when it last met a note
  pub was : IsPrefix v.was v.seen
  pub told : IsPrefix v.told v.seen
  pub quiet : (a : ℕ) → v.role ≡ Some a → own_entries a v.was ≡ own_entries a v.seen
  -- of the passes that are not out, no entries came with a seat that was joined, but for those of the pass taken in
  pub stay : v.role ≡ Some 0 → (q : ℕ) → slice_index_or out q false ≡ false → v.came ≢ q + 1 → own_entries (q + 1) v.was ≡ own_entries (q + 1) v.seen
  pub brought : v.role ≡ Some 0 → (q : ℕ) → slice_index_or out q false ≡ false → v.came ≡ q + 1
      → own_entries (q + 1) v.told ≡ own_entries (q + 1) v.seen
  -- a pass that was just handed out is idle
  pub fresh : v.fresh ≡ true → (p : ℕ) → v.role ≡ Some (p + 1) → pass_seen p v ≡ idle
  -- an actor has one seat, which has seen all that the actor did
  pub sits : (a : ℕ) → v.role ≡ Some a → owner a ≡ j
  pub all : (a : ℕ) → v.role ≡ Some a → own_entries a v.seen ≡ own_entries a log
  pub goes : (p : ℕ) → v.role ≡ Some (p + 1) → slice_index_or out p false ≡ true
  pub counts : v.role ≡ Some 0 → (v.out ≡ out) × (v.held ≡ held) × (v.next ≡ next)
  -- and the writer has seen all that the passes did which are not out
  pub home : v.role ≡ Some 0 → (p : ℕ) → slice_index_or out p false ≡ false → own_entries (p + 1) v.seen ≡ own_entries (p + 1) log

-- There is one legal history. The table's words and slots show what it leaves, and what each seat has seen is a first
-- part of it
pub record IsRuled {S : Type 0} (Copy : ℕ → Generation → S → Type 0) (z : Sizes) (s : State S View) : Type 0 where
  pub log : List HistoryEntry
  pub lawful : IsLegal z log
  pub shown : WordsShow z (state_of z log) s.words
  pub roomy : Every (PlacesFit z.words) (generations_published log)
  pub owner : ℕ → ℕ
  pub out : List Bool
  -- a pass that is not out is idle
  pub rest : (p : ℕ) → slice_index_or out p false ≡ false → pass_after_all idle (own_entries (p + 1) log) ≡ idle
  pub held : ℕ
  pub next : Picked
  pub slots : AllSlots Copy z.passes (state_of z log) (generations_published log) held (generation_of_pick next) s.homes
  pub seats : (j : ℕ) (v : View) → get_elem? s.views j ≡ some v → SeatKnows z log owner out held next j v

-- of the passes that are not out, no entries were added
abbrev pub KeepsHome : List Bool → List HistoryEntry → List HistoryEntry → Type 0
KeepsHome out before after = (q : ℕ) → slice_index_or out q false ≡ false → own_entries (q + 1) after ≡ own_entries (q + 1) before

-- The actor's event came next in a legal history that begins with all that its seat had seen. What came between is of
-- other actors
pub record ComesNext (a : ℕ) (v : View) (e : Event) (x : Carried) (reply : ℕ) (w : View) : Type 0 where
  pub role : w.role ≡ v.role
  pub out : w.out ≡ v.out
  pub sizes : w.sizes ≡ v.sizes
  pub lawful : IsLegal v.sizes w.seen
  pub between : List HistoryEntry
  pub others : own_entries a between ≡ []
  pub seen : w.seen ≡ (v.seen ++ between) ++ history_entry e x reply ∷ []
  -- the writer had seen all that the passes did which are not out
  pub home : a ≡ 0 → KeepsHome v.out v.seen w.seen

-- the writer holds the same slot, if any, for the same generation
abbrev pub KeepsSlot : View → View → Type 0
KeepsSlot v w = (w.held ≡ v.held) × (w.next ≡ v.next)
