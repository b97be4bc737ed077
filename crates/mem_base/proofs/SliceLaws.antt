-- Laws of slices: what their ranges show, on which paths, and that they agree with the search where the slices do.
use Rattle.std.proofs.Common.{◌≡◌, ℕ, zero, suc, ◌+◌, ◌^◌, ◌<◌, ◌≤◌, List, [], ◌∷◌, length, Option, Some, None, refl, sym, ap, ◌∙◌, arith}
use Rattle.std.specs.Prelude.{option_map}
use Rattle.std.specs.Option.{option_or}
use Rattle.std.specs.List.{slice_get}
use Rattle.mem_base.specs.declared.map.forests.Forest.{Forest}
use Rattle.mem_base.specs.declared.map.ids.RegionId.{RegionId}
use Rattle.mem_base.specs.declared.map.ids.SpaceId.{SpaceId}
use Rattle.mem_base.specs.declared.map.spots.Spot.{Spot}
use Rattle.mem_base.specs.declared.views.flat.FlatRange.{FlatRange}
use Rattle.mem_base.specs.declared.views.flat.Slice.{Slice}
use Rattle.mem_base.specs.lists.Every.{Every}
use Rattle.mem_base.specs.map.Search.{Found, path_at, path_of, spot_of}
use Rattle.mem_base.specs.views.View.{seen, shown, IsRanges, PathAt, IsOnOnePath, Agrees}
use Rattle.mem_base.specs.views.Slices.{ranges_of, slices_of, told, Tells}
use Rattle.mem_base.proofs.ViewLaws.{seen-within, seen-before, seen-after, IsRanges-within}

-- the ranges of ranges and paths side by side
pub ranges_of-slices_of : (rs : List FlatRange) (ps : List (List RegionId)) → length ps ≡ length rs → ranges_of (slices_of rs ps) ≡ rs
ranges_of-slices_of [] ps e = refl
ranges_of-slices_of (r ∷ rs) [] e = absurd (omega arith)
ranges_of-slices_of (r ∷ rs) (p ∷ ps) e = ap (λ l. r ∷ l) (ranges_of-slices_of rs ps (omega arith))

-- the path of a slice of ranges and paths side by side
pub path_of_slice : (rs : List FlatRange) (ps : List (List RegionId)) (i : ℕ) → length ps ≡ length rs →
    option_map (λ (x : Slice). x.path) (slice_get (slices_of rs ps) i) ≡ slice_get ps i
path_of_slice [] [] i e = refl
path_of_slice [] (p ∷ ps) i e = absurd (omega arith)
path_of_slice (r ∷ rs) [] i e = absurd (omega arith)
path_of_slice (r ∷ rs) (p ∷ ps) zero e = refl
path_of_slice (r ∷ rs) (p ∷ ps) (suc i) e = path_of_slice rs ps i (omega arith)

-- the spots that slices tell are those that their ranges show
pub spot_of-told : (xs : List Slice) (a : ℕ) → spot_of (told xs a) ≡ shown (ranges_of xs) a
spot_of-told [] a = refl
spot_of-told (x ∷ xs) a = first (seen x.range a) x.path (told xs a) (shown (ranges_of xs) a) (spot_of-told xs a) where
  first : (s : Option Spot) (p : List RegionId) (t : Option Found) (u : Option Spot) → spot_of t ≡ u →
      spot_of (option_or (option_map (λ v. (v, p)) s) t) ≡ option_or s u
  first (Some s) p t u e = refl
  first None p t u e = e

-- nothing is told of an address before the first slice
pub told-before : (from end : ℕ) (xs : List Slice) (a : ℕ) → IsRanges from end (ranges_of xs) → a < from → told xs a ≡ None
told-before from end [] a h l = refl
told-before from end (x ∷ xs) a h l =
    let first : seen x.range a ≡ None = let k = h.0 in seen-before x.range a (omega arith) in
    let others = told-before (x.range.last + 1) end xs a h.3 (let k = h.0 in let m = h.1 in omega arith) in
    rw (first, others) refl

-- the path of each slice is told at each of its addresses
abbrev pub IsToldOn : PathAt → Slice → Type 0
IsToldOn path x = (a : ℕ) → x.range.start ≤ a → a ≤ x.range.last → path a ≡ x.path

told-later : (x : Slice) (xs : List Slice) (a : ℕ) → x.range.last < a → told (x ∷ xs) a ≡ told xs a
told-later x xs a l = let t = seen-after x.range a l in rw t refl

told-first : (x : Slice) (xs : List Slice) (a : ℕ) → x.range.start ≤ a → a ≤ x.range.last → path_of (told (x ∷ xs) a) ≡ x.path
told-first x xs a l k = let t = seen-within x.range a l k in rw t refl

-- a path that is told from one address on is the path of each slice there
pub told_on : (path : PathAt) (from end : ℕ) (xs : List Slice) → IsRanges from end (ranges_of xs) →
    ((a : ℕ) → from ≤ a → a < end → path a ≡ path_of (told xs a)) → Every (IsToldOn path) xs
told_on path from end [] h e = tt
told_on path from end (x ∷ xs) h e =
    let w = IsRanges-within (x.range.last + 1) end (ranges_of xs) h.3 in
    let k = h.0 in let l = h.1 in (
      λ a m n. e a (omega arith) (omega arith) ∙ told-first x xs a m n,
      told_on path (x.range.last + 1) end xs h.3 (λ a m n. e a (omega arith) n ∙ ap path_of (told-later x xs a (omega arith))),
    )

-- each range lies on one path
pub one_path : (path : PathAt) (xs : List Slice) (from end : ℕ) → IsRanges from end (ranges_of xs) → Every (IsToldOn path) xs →
    Every (IsOnOnePath path) (ranges_of xs)
one_path path [] from end h e = tt
one_path path (x ∷ xs) from end h e =
    (λ u a l k. e.0 a l k ∙ sym (e.0 x.range.start (omega arith) h.1), one_path path xs (x.range.last + 1) end h.3 e.1)

-- the ranges of slices that tell what the search finds agree with it
pub Tells-agrees : (f : Forest) (s : SpaceId) (xs : List Slice) → Tells f s xs → Agrees f s (ranges_of xs)
Tells-agrees f s xs t = record {
  ranges = t.ranges;
  shows = λ a l. sym (spot_of-told xs a) ∙ ap spot_of (t.tells a l);
  paths = one_path (path_at f s) xs 0 (2 ^ 64) t.ranges (told_on (path_at f s) 0 (2 ^ 64) xs t.ranges (λ a m l. ap path_of (sym (t.tells a l))));
}
