-- Flat views: ranges of addresses, what they show, and when two of them merge.
-- QEMU's core renders an address space to such a list and merges neighbours; the manual's search says what each
-- address shows. QEMU never merges ranges that are unmergeable; that they end where the path changes, and only there,
-- is this project's own rule.
use Rattle.std.specs.Prelude.{◌≡◌, ℕ, ◌+◌, ◌-◌, ◌^◌, ◌<◌, ◌≤◌, Bool, true, ◌&&◌, nat_le, if◌then◌else◌, List, [], ◌∷◌, Option, Some, None}
use Rattle.std.specs.Option.{option_or}
use Rattle.mem_base.specs.declared.map.spots.Spot.{Spot}
use Rattle.mem_base.specs.declared.map.forests.Forest.{Forest}
use Rattle.mem_base.specs.declared.map.ids.SpaceId.{SpaceId}
use Rattle.mem_base.specs.declared.map.ids.RegionId.{RegionId}
use Rattle.mem_base.specs.lists.Every.{Every}
use Rattle.mem_base.specs.map.Search.{look, path_at}
use Rattle.mem_base.specs.declared.views.flat.FlatRange.{FlatRange}

-- the address is in the range
abbrev pub holds : FlatRange → ℕ → Bool
holds r a = nat_le r.start a && nat_le a r.last

-- what one range shows at an address
abbrev pub seen : FlatRange → ℕ → Option Spot
seen r a = if holds r a then Some (record { leaf = r.leaf; offset = r.offset + (a - r.start); attrs = r.attrs }) else None

-- what is shown from one address to another, both inclusive
abbrev pub between : (ℕ → Option Spot) → ℕ → ℕ → ℕ → Option Spot
between show start last a = if nat_le start a && nat_le a last then show a else None

-- what a list of ranges shows at an address
abbrev pub shown : List FlatRange → ℕ → Option Spot
shown [] a = None
shown (r ∷ rs) a = option_or (seen r a) (shown rs a)

-- the ranges ascend, are disjoint and nonempty, have offsets below 2^64, and lie at `from` or after it and before `end`
abbrev pub IsRanges : ℕ → ℕ → List FlatRange → Type 0
IsRanges from end [] = from ≤ end
IsRanges from end (r ∷ rs) =
    (from ≤ r.start) × (r.start ≤ r.last) × (r.offset + (r.last - r.start) < 2 ^ 64) × IsRanges (r.last + 1) end rs

-- the path on which the leaf of an address is found
abbrev pub PathAt : Type 0
PathAt = ℕ → List RegionId

-- all addresses of an unmergeable range have one path
abbrev pub IsOnOnePath : PathAt → FlatRange → Type 0
IsOnOnePath path r = r.attrs.unmergeable ≡ true → (a : ℕ) → r.start ≤ a → a ≤ r.last → path a ≡ path r.start

-- the second goes on where the first ends: in addresses, leaf, offset and attributes
abbrev pub GoesOn : FlatRange → FlatRange → Type 0
GoesOn r q = (q.start ≡ r.last + 1) × (q.leaf ≡ r.leaf) × (q.offset ≡ r.offset + (q.start - r.start)) × (q.attrs ≡ r.attrs)

-- the second goes on where the first ends and, where they are unmergeable, on the same path
abbrev pub Merges : PathAt → FlatRange → FlatRange → Type 0
Merges path r q = GoesOn r q × (r.attrs.unmergeable ≡ true → path q.start ≡ path r.last)

-- the first of these ranges, if any, does not merge with the one before it
abbrev pub MergesNot : PathAt → FlatRange → List FlatRange → Type 0
MergesNot path r [] = Unit {0}
MergesNot path r (q ∷ qs) = Merges path r q → ⊥

-- no two neighbours merge
abbrev pub IsMerged : PathAt → List FlatRange → Type 0
IsMerged path [] = Unit {0}
IsMerged path (r ∷ rs) = MergesNot path r rs × IsMerged path rs

-- the ranges show at each address below 2^64 what the search finds there, and an unmergeable one is found on one path
pub record Agrees (f : Forest) (s : SpaceId) (rs : List FlatRange) : Type 0 where
  pub ranges : IsRanges 0 (2 ^ 64) rs
  pub shows : (a : ℕ) → a < 2 ^ 64 → shown rs a ≡ look f s a
  pub paths : Every (IsOnOnePath (path_at f s)) rs

-- the ranges are the view of the forest at the space
pub record IsView (f : Forest) (s : SpaceId) (rs : List FlatRange) : Type 0 where
  pub agrees : Agrees f s rs
  pub merged : IsMerged (path_at f s) rs
