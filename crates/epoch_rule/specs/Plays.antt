-- What each step on the table tells the seat that makes it.
use Rattle.std.specs.Prelude.{◌≡◌, ◌≢◌, slice_index_or, ℕ, ◌+◌, ◌-◌, ◌<◌, true, false, [], ◌∷◌, replicate, slice_set, Some, None}
use Rattle.std.specs.Option.{unwrap_or}
use Rattle.mem_base.specs.map.Calls.{empty}
use Rattle.epoch_rule.specs.declared.views.Sizes.{Sizes}
use mathlib.Core.List.{IsPrefix}
use Rattle.atomic_table.specs.Table.{Me, Step}
use Rattle.mem_base.specs.declared.machine.events.Event.TheVariants as events
use Rattle.mem_base.specs.declared.machine.events.Carried.TheVariants.{Nothing}
use Rattle.mem_base.specs.machine.Passes.{idle}
use Rattle.mem_base.specs.machine.Generations.{Generation}
use Rattle.epoch_rule.specs.declared.views.Picked.{Picked}
use Rattle.epoch_rule.specs.declared.views.View.{View}
use Rattle.mem_base.specs.machine.Passes.{pass_id}
use Rattle.mem_base.specs.machine.Actors.{own_entries, generation_published}
use Rattle.epoch_rule.specs.Values.{first_free}
use Rattle.epoch_rule.specs.Wrote.{longer}
use Rattle.epoch_rule.specs.Rule.{IsLegal, carried_pick, generations_seen, pass_seen, PlacesFit, ComesNext, KeepsSlot}
use Rattle.epoch_rule.specs.Layout.{word_of_pass, slot_of}

module _ {S : Type 0} (Copy : ℕ → Generation → S → Type 0) where
  -- the pass looked at the current number
  abbrev pub looks : Step S → Me S View → ℕ → Me S View → Type 0
  looks st m r w = (w.1 ≡ m.1) × (r + 1 < 18446744073709551616)
      × ((p : ℕ) → m.0.role ≡ Some (p + 1) → ComesNext (p + 1) m.0 (events.Look (pass_id p)) Nothing r w.0)

  -- the pass announced the number that it looked at
  abbrev pub announces : Step S → Me S View → ℕ → Me S View → Type 0
  announces st m r w = (w.1 ≡ m.1) × ((p : ℕ) → m.0.role ≡ Some (p + 1) → ComesNext (p + 1) m.0 (events.Announce (pass_id p)) Nothing 0 w.0)

  -- the pass entered in the number that was found, and has taken its copy of that generation
  abbrev pub enters : Step S → Me S View → ℕ → Me S View → Type 0
  enters st m r w = (p : ℕ) → m.0.role ≡ Some (p + 1) → ComesNext (p + 1) m.0 (events.Enter (pass_id p)) Nothing r w.0
      × ((y : S) × (w.1 ≡ (slot_of p r, y) ∷ m.1) × Copy r (generation_published w.0.seen r) y) × PlacesFit m.0.sizes.words (generation_published w.0.seen r)

  -- the pass has left, and given back its slot
  abbrev pub leaves : Step S → Me S View → ℕ → Me S View → Type 0
  leaves st m r w = (w.1 ≡ []) × ((p : ℕ) → m.0.role ≡ Some (p + 1) → ComesNext (p + 1) m.0 (events.Leave (pass_id p)) Nothing 0 w.0)

  -- the writer found in a pass's word what the pass had announced
  abbrev pub sweeps : Step S → Me S View → ℕ → Me S View → Type 0
  sweeps st m r w = (w.1 ≡ m.1) × KeepsSlot m.0 w.0 × ((p : ℕ) → st.word ≡ word_of_pass p → ComesNext 0 m.0 (events.Sweep (pass_id p)) Nothing r w.0)

  -- the writer has taken the slot for the next generation of the pass whose word it loaded; this shows no event
  abbrev pub reaches : Step S → Me S View → ℕ → Me S View → Type 0
  reaches st m r w = (p : ℕ) → st.word ≡ word_of_pass p → (w.0 ≡ record m.0 { held = p + 1 })
      × ((y : S) × (w.1 ≡ (slot_of p ((generations_seen m.0).current + 1), y) ∷ []))

  -- the writer has given it back, with a copy of the next generation in it
  abbrev pub places : Picked → Step S → Me S View → ℕ → Me S View → Type 0
  places next st m r w = (w.1 ≡ []) × (w.0.held ≡ 0) × (w.0.next ≡ next)
      × ((p : ℕ) → st.word ≡ word_of_pass p → ComesNext 0 m.0 (events.Place (pass_id p)) Nothing 0 w.0)

  -- the next generation is the current one
  abbrev pub publishes : Step S → Me S View → ℕ → Me S View → Type 0
  publishes st m r w = (w.1 ≡ m.1) × KeepsSlot m.0 w.0 × ComesNext 0 m.0 events.Publish (carried_pick m.0.next) r w.0

-- the view of a note, and of a seat that is spent
abbrev pub note_view : View → View
note_view v = record v { role = None }

abbrev pub spent_view : View
spent_view = record {
  sizes = record { passes = 0; words = 0 };
  role = None;
  seen = [];
  was = [];
  told = [];
  came = 0;
  fresh = false;
  out = [];
  held = 0;
  next = record { forest = empty; places = [] };
}

-- the view of a seat that met a note: what it has seen is the longer one
abbrev pub met_view : View → View → View
met_view v w = record v { seen = longer v.seen w.seen; was = v.seen; told = w.seen; came = 0; fresh = false }

-- the writer's view after it handed out the least pass that is not out, and that pass's view
abbrev pub with_least_out : View → View
with_least_out v = record v { out = slice_set v.out (first_free v.out) true }

abbrev pub next_pass : View → View
next_pass v = record v { role = Some (first_free v.out + 1); was = v.seen; told = v.seen; fresh = true }

-- the writer's view after it took a pass in
abbrev pub taken_in : View → View → View
taken_in v w = record (met_view v w) { came = unwrap_or w.role 0; out = slice_set v.out (unwrap_or w.role 0 - 1) false }

-- the first seat's view
abbrev pub first_view : Sizes → View
first_view z = record {
  sizes = z;
  role = Some 0;
  seen = [];
  was = [];
  told = [];
  came = 0;
  fresh = false;
  out = replicate z.passes false;
  held = 0;
  next = record { forest = empty; places = [] };
}

-- After a load that shows no event: what was seen begins with what had been seen, and with what was told, when a note was
-- met; and a pass that was just handed out is idle
pub record IsSettled (a : ℕ) (v w : View) : Type 0 where
  pub same : w ≡ v
  pub was : IsPrefix v.was v.seen
  pub told : IsPrefix v.told v.seen
  pub quiet : own_entries a v.was ≡ own_entries a v.seen
  -- of passes that are not out, no entries came, but for those of the pass that was taken in
  pub stay : v.role ≡ Some 0 → (q : ℕ) → slice_index_or v.out q false ≡ false → v.came ≢ q + 1 → own_entries (q + 1) v.was ≡ own_entries (q + 1) v.seen
  pub brought : v.role ≡ Some 0 → (q : ℕ) → slice_index_or v.out q false ≡ false → v.came ≡ q + 1
      → own_entries (q + 1) v.told ≡ own_entries (q + 1) v.seen
  pub lawful : IsLegal v.sizes v.seen
  pub fresh : v.fresh ≡ true → (p : ℕ) → v.role ≡ Some (p + 1) → pass_seen p v ≡ idle

abbrev pub settles : {S : Type 0} → Me S View → Me S View → Type 0
settles m w = (w.1 ≡ m.1) × ((a : ℕ) → m.0.role ≡ Some a → IsSettled a m.0 w.0)
