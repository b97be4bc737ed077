-- The searches on the way of an address through IOMMU regions.
use Rattle.std.specs.Prelude.{◌≡◌, ◌⊎◌, ◌<◌, ◌-◌, ◌++◌, ℕ, false, if◌then◌else◌, List, [], ◌∷◌, Option, Some, None}
use Rattle.mem_base.specs.declared.map.ids.RegionId.{RegionId}
use Rattle.mem_base.specs.declared.map.ids.SpaceId.{SpaceId}
use Rattle.mem_base.specs.declared.map.forests.Forest.{Forest}
use Rattle.mem_base.specs.declared.map.spots.Spot.{Spot}
use Rattle.mem_base.specs.declared.map.translations.Entry.{Entry}
use Rattle.mem_base.specs.map.Search.{look, path_at, root_of}
use Rattle.mem_base.specs.access.Translations.{translates, entries_of, translation_at, translated_address}
use Rattle.find_why.specs.declared.looks.Tried.{Tried}
use Rattle.find_why.specs.declared.looks.Look.{Look}
use Rattle.find_why.specs.declared.hops.Hop.{Hop}
use Rattle.find_why.specs.Reasons.{AreTried}
use Rattle.find_why.specs.Looked.{AreLooked, IsFollowed, answering}

-- what came of the root of a space at an address: nothing where there is no such space
abbrev pub IsRoot : Forest → Option RegionId → ℕ → List Look → Option Tried → Type 0
IsRoot f None a looks tried = tried ≡ None
IsRoot f (Some root) a looks None = ⊥
IsRoot f (Some root) a looks (Some t) = AreTried f false ((root, Some a) ∷ []) (t ∷ []) × IsFollowed looks t.region t.outcome

-- the translation that covers the offset at which an IOMMU region answers
abbrev pub translation_of : Forest → Option Spot → Option Entry
translation_of f None = None
translation_of f (Some s) = if translates f s.leaf then translation_at (entries_of f s.leaf) s.offset else None

-- one search: what it finds and on which path, and why each region that it looks at answers or does not
pub record IsHop (f : Forest) (h : Hop) : Type 0 where
  pub answer : h.answer ≡ look f h.space h.addr
  pub path : answering h.looks ≡ path_at f h.space h.addr
  pub root : IsRoot f (root_of f h.space) h.addr h.looks h.root
  pub looked : AreLooked f h.looks
  pub used : h.used ≡ translation_of f h.answer

-- the second is at the address to which the first is translated
abbrev pub LeadsTo : Hop → SpaceId → ℕ → Type 0
LeadsTo h s a = (e : Entry) × (x : Spot) × (h.used ≡ Some e) × (h.answer ≡ Some x) × (s ≡ e.space) × (a ≡ translated_address e x.offset)

-- the searches from an address of a space on: each but the first is where the one before it leads, and the last leads
-- nowhere, or all translations that may be used are used
abbrev pub AreHops : Forest → ℕ → SpaceId → ℕ → List Hop → Type 0
AreHops f left s a [] = ⊥
AreHops f left s a (h ∷ []) = (h.space ≡ s) × (h.addr ≡ a) × IsHop f h × ((left ≡ 0) ⊎ (h.used ≡ None))
AreHops f left s a (h ∷ g ∷ hs) =
    (h.space ≡ s) × (h.addr ≡ a) × IsHop f h × (0 < left) × LeadsTo h g.space g.addr × AreHops f (left - 1) g.space g.addr (g ∷ hs)

-- where the way goes on after a search
abbrev pub Onward : Hop → Option (SpaceId × ℕ) → Type 0
Onward h None = (h.used ≡ None) ⊎ (h.answer ≡ None)
Onward h (Some p) = LeadsTo h p.0 p.1

-- the searches from an address of a space on were added
pub record Adds (f : Forest) (left : ℕ) (s : SpaceId) (a : ℕ) (old new : List Hop) : Type 0 where
  pub more : List Hop
  pub added : new ≡ old ++ more
  pub are : AreHops f left s a more
