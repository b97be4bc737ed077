-- Spans of offsets in regions, and what they keep to be closed upward.
use Rattle.std.specs.Prelude.{◌≡◌, ℕ, ◌+◌, ◌-◌, ◌^◌, ◌<◌, ◌≤◌, Bool, true, false, ◌==◌, ◌&&◌, ◌||◌, nat_le, List, [], ◌∷◌, Some, IfSome}
use Rattle.mem_base.specs.declared.map.ids.RegionId.{RegionId}
use Rattle.mem_base.specs.declared.map.ids.SpaceId.{SpaceId}
use Rattle.mem_base.specs.declared.map.forests.Node.{Node}
use Rattle.mem_base.specs.declared.map.forests.Forest.{Forest}
use Rattle.mem_base.specs.declared.map.kinds.Kind.TheVariants.{Alias}
use Rattle.mem_base.specs.map.Refusals.{targets}
use Rattle.mem_base.specs.map.Region.{node_of}
use Rattle.mem_base.specs.map.Search.{found_at, root_of}
use Rattle.change_laws.specs.Meeting.{Meeting}
use Rattle.change_laws.specs.Upward.{is_open}
use Rattle.change_spans.specs.declared.reaches.Reach.{Reach}
use Rattle.change_spans.specs.declared.reaches.Span.{Span}

abbrev pub is_in_reach : Reach → RegionId → ℕ → Bool
is_in_reach x r a = (x.region.0 == r.0) && (nat_le x.first a && nat_le a x.last)

-- one of the spans has the offset in the region
abbrev pub has_in : List Reach → Meeting
has_in [] r a = false
has_in (x ∷ xs) r a = is_in_reach x r a || has_in xs r a

-- each offset that they have of the region is in the span
abbrev pub IsOver : List Reach → RegionId → Span → Type 0
IsOver xs r s = (a : ℕ) → has_in xs r a ≡ true → (s.first ≤ a) × (a ≤ s.last)

-- wherever they have nothing of the root of a space, a search in it finds the same in both forests, on the same path
abbrev pub ShowsWithin : Forest → Forest → List Reach → Type 0
ShowsWithin f g xs =
    (s : SpaceId) (root : RegionId) → root_of f s ≡ Some root → root_of g s ≡ Some root → f.global ≡ g.global → (a : ℕ) → has_in xs root a ≡ false
    → found_at f s a ≡ found_at g s a

-- of an alias, the spans have what leads into those of its target
abbrev pub HasThrough : List Reach → Node → Type 0
HasThrough xs n = (target : RegionId) (offset : ℕ) → n.kind ≡ Alias target offset → (a : ℕ) → is_open n a ≡ true → has_in xs target (a + offset) ≡ true
    → has_in xs n.id a ≡ true

-- of the container of a region, they have what leads into those of the region
abbrev pub HasAbove : List Reach → Node → Type 0
HasAbove xs n = (p : RegionId) → n.parent ≡ Some p → (a : ℕ) → a < 2 ^ 64 → n.offset ≤ a → has_in xs n.id (a - n.offset) ≡ true → has_in xs p a ≡ true

-- what they have of a changed region: all of it or, where it changed in its place alone, of its container what leads to it
pub record Keeps (placed : Bool) (xs : List Reach) (n : Node) : Type 0 where
  pub own : placed ≡ false → (a : ℕ) → is_open n a ≡ true → has_in xs n.id a ≡ true
  pub place : placed ≡ true → (p : RegionId) → n.parent ≡ Some p → (a : ℕ) → a < 2 ^ 64 → n.offset ≤ a → is_open n (a - n.offset) ≡ true
      → has_in xs p a ≡ true
  pub through : HasThrough xs n
  pub above : HasAbove xs n

-- the same of a region, if it is among these
abbrev pub KeepsIn : List Node → Bool → List Reach → RegionId → Type 0
KeepsIn nodes placed xs r = IfSome (node_of nodes r) (Keeps placed xs)

-- what leads into a span of a region: of the region's container, and of its aliases
pub record KeepsSpan (nodes : List Node) (xs : List Reach) (r : RegionId) : Type 0 where
  pub above : IfSome (node_of nodes r) (HasAbove xs)
  pub through : (n : Node) → node_of nodes n.id ≡ Some n → targets r n.kind ≡ true → HasThrough xs n
