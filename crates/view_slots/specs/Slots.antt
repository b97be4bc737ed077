-- Memory slots: the parts of memory between edges.
use Rattle.std.specs.Prelude.{◌≡◌, ℕ, ◌+◌, ◌-◌, ◌^◌, ◌<◌, ◌≤◌, ◌||◌, ◌==◌, Bool, true, false, if◌then◌else◌, List, [], ◌∷◌, ◌++◌, Option, Some, None}
use Rattle.std.specs.List.{list_any}
use Rattle.mem_base.specs.declared.map.ids.RegionId.{RegionId}
use Rattle.mem_base.specs.declared.map.kinds.Kind.{Kind}
use Rattle.mem_base.specs.declared.map.kinds.Kind.TheVariants.{Ram, Rom, RomDevice, Host}
use Rattle.mem_base.specs.declared.map.spots.Attrs.{Attrs}
use Rattle.mem_base.specs.declared.map.spots.Spot.{Spot}
use Rattle.mem_base.specs.declared.views.flat.FlatRange.{FlatRange}
use Rattle.mem_base.specs.lists.Every.{HasElement}
use Rattle.mem_base.specs.script.Named.{Names, kind_named}
use Rattle.mem_base.specs.views.View.{seen}
use Rattle.view_slots.specs.Edges.{HasEnds, NoEdge}

-- a kind that a guest reaches as memory; a ROM device only in its ROM mode
abbrev pub is_slot_kind : Option Kind → Bool → Bool
is_slot_kind (Some Ram) romd = true
is_slot_kind (Some Rom) romd = true
is_slot_kind (Some Host) romd = true
is_slot_kind (Some (RomDevice device)) romd = romd
is_slot_kind _ romd = false

-- a leaf that a guest reaches as memory: by its kind, or because the caller says so
abbrev pub is_slot : Names → List RegionId → RegionId → Attrs → Bool
is_slot names others leaf attrs = is_slot_kind (kind_named names leaf) attrs.romd || list_any (λ r. r.0 == leaf.0) others

-- what is shown, where it is memory
abbrev pub memory_alone : Names → List RegionId → Option Spot → Option Spot
memory_alone names others None = None
memory_alone names others (Some s) = if is_slot names others s.leaf s.attrs then Some s else None

-- the part of a range before an address in it, and the part from there on
abbrev pub before : FlatRange → ℕ → FlatRange
before r edge = record r { last = edge - 1 }

abbrev pub from_on : FlatRange → ℕ → FlatRange
from_on r edge = record r { start = edge; offset = r.offset + (edge - r.start) }

-- a range is cut at the edges into these pieces
abbrev pub CutsInto : List ℕ → FlatRange → List FlatRange → Type 0
CutsInto edges r [] = ⊥
CutsInto edges r (p ∷ []) = (p ≡ r) × NoEdge edges r.start r.last
CutsInto edges r (p ∷ q ∷ ps) =
    (p ≡ before r q.start) × NoEdge edges p.start p.last × HasElement edges q.start × (r.start < q.start) × (q.start ≤ r.last)
    × CutsInto edges (from_on r q.start) (q ∷ ps)

-- the pieces of a range were added, where it is memory; else nothing was
abbrev pub Adds : Bool → List ℕ → FlatRange → List FlatRange → List FlatRange → Type 0
Adds true edges r old new = (ps : List FlatRange) × (new ≡ old ++ ps) × CutsInto edges r ps
Adds false edges r old new = new ≡ old

-- a slot begins and ends at edges, and has none within
pub record IsPiece (edges : List ℕ) (r : FlatRange) : Type 0 where
  pub ends : HasEnds edges r
  pub whole : NoEdge edges r.start r.last

-- where two tables that are cut at the same edges show a page alike, it is in the same slot in both
abbrev pub AlikeKeep : Type 0
AlikeKeep =
    (edges : List ℕ) (r q : FlatRange) (a : ℕ) (s : Spot) → IsPiece edges r → IsPiece edges q → r.last < 2 ^ 64 → q.last < 2 ^ 64
    → seen r a ≡ Some s → seen q a ≡ Some s → r ≡ q
