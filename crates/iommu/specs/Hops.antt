-- One hop of a route: how far none or one translation is used, and what that makes of the route.
use Rattle.std.specs.Prelude.{◌≡◌, ℕ, ◌+◌, ◌<◌, ◌≤◌, ◌^◌, Bool, false, List, [], Some, None}
use Rattle.mem_base.specs.declared.map.forests.Forest.{Forest}
use Rattle.mem_base.specs.declared.map.translations.Entry.{Entry}
use Rattle.mem_base.specs.declared.access.accesses.Target.{Target}
use Rattle.mem_base.specs.declared.access.accesses.Target.TheVariants.{Leaf, Unassigned}
use Rattle.mem_base.specs.access.Translations.{translation_at, if_permitted, translated_address}
use Rattle.mem_base.specs.access.Trails.{Route, is_same_entry}
use Rattle.iommu.specs.Ways.{way, way_within, leads_through}
use Rattle.iommu.specs.declared.hops.Hop.{Hop}
use Rattle.iommu.specs.declared.hops.Hop.TheVariants.{End, On}

-- the offsets of this many bytes in a leaf have 64 bits
abbrev pub FitsLeaf : Target → ℕ → Type 0
FitsLeaf (Leaf spot) length = spot.offset + length ≤ 2 ^ 64
FitsLeaf Unassigned length = Unit {0}

-- no translation is used at the first n of `run` offsets, and one is after them where there are more
pub record IsShutFor (es : List Entry) (w : Bool) (o run n : ℕ) : Type 0 where
  pub some : 0 < n
  pub within : n ≤ run
  pub shut : (i : ℕ) → i < n → if_permitted w (translation_at es (o + i)) ≡ None
  pub apart : n < run → is_same_entry None (if_permitted w (translation_at es (o + n))) ≡ false

-- one translation is used at the first n of `run` offsets, which go on from the address b on, and another or none after them
pub record IsOpenFor (es : List Entry) (w : Bool) (o run : ℕ) (e : Entry) (b n : ℕ) : Type 0 where
  pub some : 0 < n
  pub within : n ≤ run
  pub uses : (i : ℕ) → i < n → if_permitted w (translation_at es (o + i)) ≡ Some e
  pub apart : n < run → is_same_entry (Some e) (if_permitted w (translation_at es (o + n))) ≡ false
  pub goes : (i : ℕ) → i < n → translated_address e (o + i) ≡ b + i
  pub ends : b + n ≤ 2 ^ 64

-- what a hop at an offset of an IOMMU region says of `run` offsets
abbrev pub IsThrough : List Entry → Bool → ℕ → ℕ → Hop → Type 0
IsThrough es w o run (End Unassigned n) = IsShutFor es w o run n
IsThrough es w o run (End (Leaf spot) n) = ⊥
IsThrough es w o run (On e b n) = IsOpenFor es w o run e b n

-- a route by its first hop, and by what goes on from there with one translation fewer
abbrev pub way_of : Forest → Bool → ℕ → Hop → Route
way_of f write left (End target n) = way target n []
way_of f write left (On e a n) = leads_through e (way_within f write left e.space a n)

-- the hop is one of some addresses, of `len` at most: in a leaf their offsets have 64 bits, and so have the addresses that
-- they go on at
abbrev pub Narrows : ℕ → Hop → Type 0
Narrows len (End target n) = (0 < n) × (n ≤ len) × FitsLeaf target n
Narrows len (On e a n) = (0 < n) × (n ≤ len) × (a + n ≤ 2 ^ 64)
