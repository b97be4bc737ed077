-- The place of a region, as memory and as registers.
use Rattle.std.specs.Prelude.{◌≡◌, ℕ, ◌+◌, ◌%◌, ◌^◌, ◌<◌, ◌≤◌, [], ◌∷◌, true, IfSome}
use Rattle.mem_base.specs.declared.map.ids.RegionId.{RegionId}
use Rattle.mem_base.specs.declared.map.kinds.Device.{Device}
use Rattle.mem_base.specs.declared.access.cells.Place.{Place}
use Rattle.mem_base.specs.map.Limits.{notifier_count}
use Rattle.mem_base.specs.map.Region.{node_of}
use Rattle.mem_base.specs.access.PlacesByRegion.{notifiers}
use Rattle.mem_base.specs.access.Places.{data_words, is_data_or_register, pages_in}
use Rattle.mem_base.specs.access.Plans.{Request}
use Rattle.mem_base.specs.access.PlanSteps.{by_region, by_register}
use Rattle.access_cut.specs.Conditions.{IsGood}
use Rattle.generation.specs.Published.{Published}
use Rattle.access_reach.specs.Reaching.{IsPageOf}
use Rattle.access_run.specs.Hands.{IsPlaceOf}

-- the place is the region's, and has its bytes
pub record IsMemoryOf (g : Published) (r : RegionId) (p : Place) : Type 0 where
  pub placed : IsPlaceOf g p
  pub region : p.region ≡ r
  pub words : p.bytes % 8 ≡ 0
  pub few : p.bytes < 2 ^ 64
  pub pages : (page : ℕ) → IsPageOf g.forest r page → page < pages_in p
  pub within : (offset bytes : ℕ) → IfSome (node_of g.forest.nodes r) (λ n. offset + bytes ≤ n.size) → offset + bytes ≤ p.bytes

-- the place is the region's, and has the registers of its device, after its data
pub record AreRegistersOf (g : Published) (r : RegionId) (p : Place) (device : Device) : Type 0 where
  pub placed : IsPlaceOf g p
  pub region : p.region ≡ r
  pub regs : p.regs ≡ device.regs
  pub good : IsGood device
  pub does : (offset size : ℕ) (q : Request)
      → by_region (node_of g.forest.nodes r) offset size q ≡ by_register r device (data_words p.bytes) offset size q ∷ []

-- the place is the notifiers', and has a word for each
pub record AreNotifiersOf (g : Published) (p : Place) : Type 0 where
  pub placed : IsPlaceOf g p
  pub region : p.region ≡ notifiers
  pub words : (number : ℕ) → number < notifier_count → is_data_or_register p number ≡ true
