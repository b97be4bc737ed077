-- Why a region that a search tries answers an address, or why it does not.
-- QEMU's manual, "The memory API", "Visibility": the children of a region are tried in order; one that does not hold the
-- address is discarded, and so is one in which nothing is found; the first in which something is found ends the search.
use Rattle.std.specs.Prelude.{◌≡◌, ℕ, ◌+◌, ◌-◌, ◌<◌, ◌≤◌, Bool, true, false, ◌||◌, nat_le, if◌then◌else◌, List, [], ◌∷◌, map, Option, Some, None}
use Rattle.mem_base.specs.declared.map.ids.RegionId.{RegionId}
use Rattle.mem_base.specs.declared.map.forests.Node.{Node}
use Rattle.mem_base.specs.declared.map.forests.Forest.{Forest}
use Rattle.mem_base.specs.declared.map.kinds.Kind.{Kind}
use Rattle.mem_base.specs.declared.map.kinds.Kind.TheVariants.{Alias}
use Rattle.mem_base.specs.map.Region.{node_of}
use Rattle.mem_base.specs.map.Order.{children_of}
use Rattle.mem_base.specs.map.Search.{Found}
use Rattle.mem_base.specs.map.Paths.{Finds}
use Rattle.find_why.specs.declared.looks.Outcome.{Outcome}
use Rattle.find_why.specs.declared.looks.Outcome.TheVariants.{Answers, Hole, Disabled, BeginsAfter, EndsBefore, TriedLater}
use Rattle.find_why.specs.declared.looks.Tried.{Tried}

-- a region, and the offset in it on which an address falls: none where the region begins after the address
abbrev pub Place : Type 0
Place = RegionId × Option ℕ

-- a child, and where an offset in its container falls in it
abbrev pub place_in : ℕ → Node → Place
place_in a c = (c.id, if nat_le c.offset a then Some (a - c.offset) else None)

-- the regions inside a region in the order in which they are tried at an offset in it: the target of an alias, else the children
abbrev pub places : List Node → Kind → Node → ℕ → List Place
places nodes (Alias target offset) n a = (target, Some (a + offset)) ∷ []
places nodes _ n a = map (place_in a) (children_of nodes n.id)

-- the region is there, and this holds of it
abbrev pub IsThere : Forest → RegionId → (Node → Type 0) → Type 0
IsThere f r P = (n : Node) × (node_of f.nodes r ≡ Some n) × P n

-- the region is there and enabled, and the offset lies in it
abbrev pub HoldsOffset : Forest → RegionId → ℕ → Type 0
HoldsOffset f r a = IsThere f r (λ n. (n.enabled ≡ true) × (a < n.size))

-- the search from the region at this offset in it finds something, or finds nothing
abbrev pub IsFound : Forest → RegionId → ℕ → Bool → Type 0
IsFound f r a true = (x : Found) × Finds f r a (Some x)
IsFound f r a false = Finds f r a None

-- what came of a region is so; `answered` says whether one that is tried before it answers
abbrev pub IsSo : Forest → Bool → Place → Outcome → Type 0
IsSo f answered p BeginsAfter = p.1 ≡ None
IsSo f answered p EndsBefore = (a : ℕ) × (p.1 ≡ Some a) × IsThere f p.0 (λ n. n.size ≤ a)
IsSo f answered p Disabled = (a : ℕ) × (p.1 ≡ Some a) × IsThere f p.0 (λ n. (n.enabled ≡ false) × (a < n.size))
IsSo f answered p TriedLater = (answered ≡ true) × ((a : ℕ) × (p.1 ≡ Some a) × HoldsOffset f p.0 a)
IsSo f answered p (Hole a) = (answered ≡ false) × (p.1 ≡ Some a) × HoldsOffset f p.0 a × IsFound f p.0 a false
IsSo f answered p (Answers a) = (answered ≡ false) × (p.1 ≡ Some a) × HoldsOffset f p.0 a × IsFound f p.0 a true

-- the region, or one inside it, answers
abbrev pub is_answer : Outcome → Bool
is_answer (Answers a) = true
is_answer _ = false

-- just these regions are told, in this order, and what came of each is so
abbrev pub AreTried : Forest → Bool → List Place → List Tried → Type 0
AreTried f answered [] [] = Unit {0}
AreTried f answered (p ∷ ps) (t ∷ ts) = (t.region ≡ p.0) × IsSo f answered p t.outcome × AreTried f (answered || is_answer t.outcome) ps ts
AreTried f answered _ _ = ⊥
