-- Slices: ranges, each with the one path on which all its addresses are found, and what they tell.
use Rattle.std.specs.Prelude.{◌≡◌, ℕ, ◌^◌, ◌<◌, List, [], ◌∷◌, map, Option, None, option_map}
use Rattle.std.specs.Option.{option_or}
use Rattle.mem_base.specs.declared.map.forests.Forest.{Forest}
use Rattle.mem_base.specs.declared.map.ids.RegionId.{RegionId}
use Rattle.mem_base.specs.declared.map.ids.SpaceId.{SpaceId}
use Rattle.mem_base.specs.declared.views.flat.FlatRange.{FlatRange}
use Rattle.mem_base.specs.declared.views.flat.Slice.{Slice}
use Rattle.mem_base.specs.map.Search.{Found, found_at, path_of}
use Rattle.mem_base.specs.views.View.{seen, IsRanges, PathAt}

-- the ranges of some slices
abbrev pub ranges_of : List Slice → List FlatRange
ranges_of xs = map (λ (x : Slice). x.range) xs

-- ranges and paths side by side
abbrev pub slices_of : List FlatRange → List (List RegionId) → List Slice
slices_of [] ps = []
slices_of (r ∷ rs) [] = []
slices_of (r ∷ rs) (p ∷ ps) = record { range = r; path = p } ∷ slices_of rs ps

-- what some slices tell of an address: the spot, and the path to it
abbrev pub told : List Slice → ℕ → Option Found
told [] a = None
told (x ∷ xs) a = option_or (option_map (λ s. (s, x.path)) (seen x.range a)) (told xs a)

-- the path that they tell
abbrev pub path_told : List Slice → PathAt
path_told xs a = path_of (told xs a)

-- the slices tell at each address below 2^64 what the search finds there, and on which path
pub record Tells (f : Forest) (s : SpaceId) (xs : List Slice) : Type 0 where
  pub ranges : IsRanges 0 (2 ^ 64) (ranges_of xs)
  pub tells : (a : ℕ) → a < 2 ^ 64 → told xs a ≡ found_at f s a
