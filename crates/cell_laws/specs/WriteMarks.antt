-- The marks of a write, read off the definition of an access: in the same access, after the words of each chunk in RAM, the pages
-- that it touches are marked, each for the clients of the logging mask.
-- QEMU's core, `flatview_write_continue` and `invalidate_and_set_dirty`.
use Rattle.std.specs.Prelude.{◌≡◌, ◌⊎◌, ℕ, ◌+◌, ◌/◌, ◌<◌, ◌==◌, Bool, true, false, not, List, ◌∷◌, ◌++◌, length, map, Some, bit_and}
use Rattle.mem_base.specs.declared.map.ids.RegionId.{RegionId}
use Rattle.mem_base.specs.declared.map.ids.SpaceId.{SpaceId}
use Rattle.mem_base.specs.declared.map.forests.Node.{Node}
use Rattle.mem_base.specs.declared.map.forests.Forest.{Forest}
use Rattle.mem_base.specs.declared.map.kinds.Client.{Client}
use Rattle.mem_base.specs.declared.map.kinds.Kind.TheVariants.{Ram}
use Rattle.mem_base.specs.declared.map.spots.Spot.{Spot}
use Rattle.mem_base.specs.declared.access.accesses.Target.TheVariants.{Leaf}
use Rattle.mem_base.specs.lists.Every.{Every, EveryPair, HasElement}
use Rattle.mem_base.specs.lists.Runs.{Run}
use Rattle.mem_base.specs.map.Limits.{page_size}
use Rattle.mem_base.specs.map.Region.{node_of}
use Rattle.mem_base.specs.map.Clients.{bit_of}
use Rattle.mem_base.specs.access.Places.{number_of_client}
use Rattle.mem_base.specs.access.Trails.{chunks, trail_of}
use Rattle.mem_base.specs.access.AccessSteps.{AccessStep, blank, steps, marks, writing}
use Rattle.mem_base.specs.access.Access.{access}

-- a page and a client for whom it is marked
abbrev pub Mark : Type 0
Mark = ℕ × Client

-- of the bytes from an offset on, some byte lies in this page
abbrev pub IsTouchedPage : ℕ → ℕ → ℕ → Type 0
IsTouchedPage offset bytes page = (i : ℕ) × (i < bytes) × ((offset + i) / page_size ≡ page)

-- the client's bit stands in the logging mask
abbrev pub is_logging : ℕ → Client → Bool
is_logging log client = not (bit_and log (bit_of client) == 0)

-- pages ascending, and the clients of a page ascending
abbrev pub IsBefore : Mark → Mark → Type 0
IsBefore m n = (m.0 < n.0) ⊎ ((m.0 ≡ n.0) × (number_of_client m.1 < number_of_client n.1))

-- a step on a word of the region
abbrev pub IsOnRegion : RegionId → AccessStep → Type 0
IsOnRegion region (blank n result) = ⊥
IsOnRegion region (steps cell step x) = cell.region ≡ region
IsOnRegion region (marks other client page) = ⊥

-- what is done for a chunk of a write in RAM: steps on words, and then a mark of each touched page for each client whose bit stands
-- in the mask, and no other
pub record IsMarked (spot : Spot) (bytes : ℕ) (done : List AccessStep) : Type 0 where
  pub words : List AccessStep
  pub marked : List Mark
  pub parts : done ≡ words ++ map (λ m. marks spot.leaf m.1 m.0) marked
  pub on_words : Every (IsOnRegion spot.leaf) words
  pub all : (page : ℕ) (client : Client) → IsTouchedPage spot.offset bytes page → is_logging spot.attrs.log client ≡ true
      → HasElement marked (page, client)
  pub only : Every (λ m. IsTouchedPage spot.offset bytes m.0 × (is_logging spot.attrs.log m.1 ≡ true)) marked
  pub order : EveryPair IsBefore marked

-- what an access does, with what is done for one of its chunks in the middle
pub record HasMarkedChunk (all : List AccessStep) (spot : Spot) (bytes : ℕ) : Type 0 where
  pub before : List AccessStep
  pub done : List AccessStep
  pub after : List AccessStep
  pub parts : all ≡ before ++ (done ++ after)
  pub marked : IsMarked spot bytes done

-- so it is of each chunk of a write that ends in RAM which is not read-only
abbrev pub WritesAreMarked : Type 0
WritesAreMarked = (f : Forest) (space : SpaceId) (addr : ℕ) (bytes : List ℕ) (front back : List Run) (chunk : Run) (spot : Spot) (n : Node) →
    chunks f true space addr (length bytes) ≡ front ++ chunk ∷ back → (trail_of f true space chunk.start).target ≡ Leaf spot →
    node_of f.nodes spot.leaf ≡ Some n → n.kind ≡ Ram → spot.attrs.readonly ≡ false →
    HasMarkedChunk (access f space addr (writing bytes)) spot chunk.length
