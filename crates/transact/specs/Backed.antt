-- A desk whose regions have their words in a pool.
-- QEMU's core allocates the RAM of each region by itself (`qemu_ram_alloc`); that all regions have their words in one pool,
-- and the least hole that fits, is this project's own rule.
use Rattle.std.specs.Prelude.{◌≡◌, ℕ, ◌<◌, ◌&&◌, ◌==◌, not, if◌then◌else◌, is_none, Bool, List, [], ◌∷◌, ◌++◌, Option, Some, None, filter, Ok}
use Rattle.std.specs.Option.{option_or}
use Rattle.std.specs.declared.cmp.Ordering.{Ordering}
use Rattle.std.specs.Ordering.{nat_cmp}
use Rattle.mem_base.specs.declared.map.ids.RegionId.{RegionId}
use Rattle.mem_base.specs.declared.map.forests.Forest.{Forest}
use Rattle.mem_base.specs.declared.map.calls.Call.{Call}
use Rattle.mem_base.specs.declared.map.calls.Call.TheVariants as calls
use Rattle.mem_base.specs.declared.map.calls.Applied.{Applied}
use Rattle.mem_base.specs.declared.map.calls.Config.TheVariants as configs
use Rattle.mem_base.specs.declared.map.refusals.Refusal.{Refusal}
use Rattle.mem_base.specs.declared.map.refusals.Refusal.TheVariants.{NoBacking}
use Rattle.mem_base.specs.declared.access.cells.Place.{Place}
use Rattle.mem_base.specs.lists.Every.{Every}
use Rattle.mem_base.specs.map.Refusals.{refuse_if}
use Rattle.mem_base.specs.map.Calls.{refusal_of, after, answer_of}
use Rattle.mem_base.specs.machine.Committed.{transaction_after}
use Rattle.mem_base.specs.access.Places.{Extent, extent_of, words_of, place_from, notifiers_place, first_fit}
use Rattle.history_laws.specs.BackedForests.{BacksForest}
use Rattle.generation.specs.Published.{AscendByRegion}
use Rattle.transact.specs.Desks.{DeskState, first_state, with_state}
use Rattle.transact.specs.Preparing.{Readied, IsOfDesk}
use Rattle.backing_pool.specs.Backing.{Backing}

-- the desk, and the pool with its places
pub record BackedState : Type 0 where
  pub desk : DeskState
  pub backing : Backing

abbrev pub backed_state : DeskState → Backing → BackedState
backed_state desk backing = record { desk = desk; backing = backing }

abbrev pub backing_at : ℕ → List Place → Backing
backing_at words places = record { pool_words = words; places = places }

-- at first no region has a place
abbrev pub first_backed : ℕ → BackedState
first_backed words = backed_state first_state (backing_at words [])

-- the forest as the calls have made it
abbrev pub forest_at : BackedState → Forest
forest_at b = b.desk.state.forest

-- all places in which there are words: those of regions, in order of making, and after the pool the notifiers'
abbrev pub all_places : Backing → List Place
all_places b = b.places ++ notifiers_place b.pool_words ∷ []

-- what a region that a call makes has of data and registers; any other call makes none
abbrev pub extent_made : Call → Option Extent
extent_made (calls.Region kind size) = Some (extent_of kind size)
extent_made _ = None

abbrev pub words_made : Option Extent → ℕ
words_made None = 0
words_made (Some x) = words_of x

-- no hole of the pool has the words of a region that is to be made
abbrev pub no_backing : Backing → Call → Option Refusal
no_backing b call =
    let words = words_made (extent_made call) in
    refuse_if (not (words == 0) && is_none (first_fit b.pool_words b.places words)) (NoBacking words)

-- why a call is refused: the forest's first reason, and after all of these that no hole is large enough
abbrev pub refusal_at : BackedState → Call → Option Refusal
refusal_at b call = option_or (refusal_of (forest_at b) call) (no_backing b.backing call)

-- the place of a new region: the first words of the hole of least start that has as many
abbrev pub places_for : Backing → RegionId → Extent → Option ℕ → List Place
places_for b region x None = []
places_for b region x (Some start) = place_from region start x ∷ []

abbrev pub new_places : Backing → RegionId → Option Extent → List Place
new_places b region None = []
new_places b region (Some x) = if words_of x == 0 then [] else places_for b region x (first_fit b.pool_words b.places (words_of x))

-- the pool after an accepted call: a region that is made with words has its place there
abbrev pub backing_after : Forest → Backing → Call → Backing
backing_after f b call = backing_at b.pool_words (b.places ++ new_places b (record { 0 = f.made }) (extent_made call))

-- how the place of one region stands to that of another, in the order of ids
abbrev pub by_region : RegionId → Place → Ordering
by_region region p = nat_cmp p.region.0 region.0

abbrev pub is_place_of : RegionId → Place → Bool
is_place_of region p = p.region.0 == region.0

-- the places but that of a region
abbrev pub without : List Place → RegionId → List Place
without places region = filter (λ p. not (is_place_of region p)) places

-- the pool after the place of a region was given back
abbrev pub backing_without : Backing → RegionId → Backing
backing_without b region = backing_at b.pool_words (without b.places region)

-- what an accepted call that publishes nothing leaves and answers
pub record IsCalled (old : BackedState) (call : Call) (new : BackedState) (answer : Applied) : Type 0 where
  pub forest : after (forest_at old) call ≡ Ok (forest_at new)
  pub answered : answer ≡ answer_of (forest_at old) call
  pub backed : no_backing old.backing call ≡ None
  pub desk : new.desk ≡ with_state (transaction_after old.desk.state (configs.Call call)) old.desk
  pub backing : new.backing ≡ backing_after (forest_at old) old.backing call

-- what is prepared is of this desk as it stands, and makes no region
pub record IsOfBackedDesk (b : BackedState) (r : Readied) : Type 0 where
  pub of_desk : IsOfDesk b.desk r
  pub same_made : r.generation.forest.made ≡ (forest_at b).made
  pub backs : BacksForest b.backing.pool_words r.generation.forest b.backing.places

-- the places back the forest, in order of their regions, each of a region that was made; and the count of regions and the
-- list of all places are kept
pub record IsBackedDesk (b : BackedState) (made : ℕ) (all : List Place) : Type 0 where
  pub counted : made ≡ (forest_at b).made
  pub listed : all ≡ all_places b.backing
  pub backs : BacksForest b.backing.pool_words (forest_at b) b.backing.places
  pub ascending : AscendByRegion b.backing.places
  pub made_before : Every (λ p. p.region.0 < (forest_at b).made) b.backing.places
