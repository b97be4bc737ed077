-- Which dropped regions a reap releases, in every history of the pure machine.
use Rattle.std.specs.Prelude.{◌≡◌, ◌↔◌, ℕ, ◌<◌, true, List, Contains, IsSomeAnd, None}
use Rattle.mem_base.specs.declared.map.ids.RegionId.{RegionId}
use Rattle.mem_base.specs.declared.access.cells.Place.{Place}
use Rattle.mem_base.specs.lists.Every.{Every}
use Rattle.mem_base.specs.lists.Sorting.{IsRising}
use Rattle.mem_base.specs.map.Region.{node_of}
use Rattle.mem_base.specs.machine.Generations.{Generations, is_held, generation_of}
use Rattle.mem_base.specs.machine.Publishing.{current_forest}
use Rattle.mem_base.specs.machine.Desk.{region_order}
use Rattle.mem_base.specs.machine.Reaps.{Writer, released, reaped}
use Rattle.mem_base.specs.machine.Orders.{sweeps}
use Rattle.mem_base.specs.machine.World.{opening}
use Rattle.mem_base.specs.machine.History.{PureEntry, after_entries, run_events, IsLegal}
use Rattle.view_laws.specs.Named.{Names}

-- a generation that is held names the region: some address of one of its spaces has it as its leaf
abbrev pub HeldNames : Generations → RegionId → Type 0
HeldNames g region = (number : ℕ) × (is_held g number ≡ true) × IsSomeAnd (generation_of g number) (λ x. Names x.forest region)

-- a reap releases just the dropped regions that no held generation names, leaves just the others dropped, and takes
-- away just the places of those released
pub record ReleasesUnnamed (h : Writer) : Type 0 where
  pub members : (region : RegionId) → Contains (released h) region ↔ (Contains h.desk.dropped region × (HeldNames h.generations region → ⊥))
  pub still_dropped : (region : RegionId) → Contains (reaped h).dropped region ↔ (Contains h.desk.dropped region × HeldNames h.generations region)
  -- the places of the released regions are holes, and all others stay
  pub places : (p : Place) → Contains (reaped h).places p ↔ (Contains h.desk.places p × (Contains (released h) p.region → ⊥))

abbrev pub ReapsReleaseUnnamed : Type 0
ReapsReleaseUnnamed = (h : Writer) → ReleasesUnnamed h

-- the last sweep of each pass found it unannounced
abbrev pub AreFoundFree : Generations → Type 0
AreFoundFree g = Every (λ k. k.found ≡ None) g.passes

-- after a sweep of every pass that found each of them unannounced, just the dropped regions that the current forest
-- does not name are released
abbrev pub FreePassesReleaseAll : Type 0
FreePassesReleaseAll = (pool_words passes : ℕ) (xs : List PureEntry) → IsLegal pool_words passes xs →
    let w = after_entries (opening pool_words passes) xs in
    let h = (run_events w (sweeps w.writer.generations)).world.writer in
    AreFoundFree h.generations → (region : RegionId) →
    Contains (released h) region ↔ (Contains h.desk.dropped region × (Names (current_forest h.generations) region → ⊥))

-- the dropped regions ascend, each once; none is there any more, and none can come back, since regions are numbered on;
-- and what a reap releases ascends too
pub record DropsOnce (h : Writer) : Type 0 where
  pub rising : IsRising region_order h.desk.dropped
  pub gone : Every (λ r. (node_of h.desk.forest.nodes r ≡ None) × (r.0 < h.desk.forest.made)) h.desk.dropped
  pub released : IsRising region_order (released h)

abbrev pub RegionsAreDroppedOnce : Type 0
RegionsAreDroppedOnce = (pool_words passes : ℕ) (xs : List PureEntry) → IsLegal pool_words passes xs →
    DropsOnce (after_entries (opening pool_words passes) xs).writer
