-- Where a place is the memory of a leaf of a generation.
use Rattle.std.specs.Prelude.{◌≡◌, ℕ, ◌+◌, ◌%◌, ◌≤◌, Bool, List}
use Rattle.mem_base.specs.declared.map.spots.Spot.{Spot}
use Rattle.mem_base.specs.declared.access.cells.Place.{Place}
use Rattle.mem_base.specs.map.Limits.{most_bytes, page_size}
use Rattle.mem_base.specs.map.Region.{of_region}
use Rattle.mem_base.specs.access.AccessSteps.{Transfer, is_write, AccessStep, unanswered}
use Rattle.mem_base.specs.access.MemoryAccess.{in_memory}
use Rattle.mem_base.specs.access.Access.{at_leaf}
use Rattle.generation.specs.Published.{Published}
use Rattle.access_base.specs.Leaves.{IsLeafRun}
use Rattle.access_run.specs.Hands.{IsPlaceOf}

-- a write, or a read, at the spot does just this
abbrev pub IsDoneBy : Published → Spot → Bool → (Transfer → List AccessStep) → Type 0
IsDoneBy g spot write does = (t : Transfer) → is_write t ≡ write → of_region g.forest.nodes spot.leaf (unanswered t) (λ n. at_leaf n.kind n spot t) ≡ does t

-- the place is the leaf's, and is whole pages of memory; bytes that lie in the region lie in its data
pub record IsMemoryAt (g : Published) (spot : Spot) (write : Bool) (p : Place) : Type 0 where
  pub does : IsDoneBy g spot write (in_memory spot)
  pub placed : IsPlaceOf g p
  pub region : p.region ≡ spot.leaf
  pub pages : p.bytes % page_size ≡ 0
  pub few : p.bytes ≤ most_bytes
  pub within : (bytes : ℕ) → IsLeafRun g.forest spot bytes → spot.offset + bytes ≤ p.bytes
