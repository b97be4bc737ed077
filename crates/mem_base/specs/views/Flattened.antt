-- The view of an address space as a function: the longest ranges of addresses that one leaf answers.
-- It is made address by address, from the last one down, so it is for reasoning and is never computed.
use Rattle.std.specs.Prelude.{◌≡◌, ℕ, zero, suc, ◌+◌, ◌^◌, Bool, true, false, not, ◌==◌, ◌&&◌, ◌||◌, if◌then◌else◌, List, [], ◌∷◌, Option, Some, None}
use Rattle.mem_base.specs.declared.map.spots.Spot.{Spot}
use Rattle.mem_base.specs.declared.map.forests.Forest.{Forest}
use Rattle.mem_base.specs.declared.map.ids.RegionId.{RegionId}
use Rattle.mem_base.specs.declared.map.ids.SpaceId.{SpaceId}
use Rattle.mem_base.specs.declared.views.flat.FlatRange.{FlatRange}
use Rattle.mem_base.specs.map.Attributes.{same_attrs}
use Rattle.mem_base.specs.map.Search.{look, path_at}
use Rattle.mem_base.specs.declared.map.calls.Call.{Call}
use Rattle.mem_base.specs.lists.Every.{Every}
use Rattle.mem_base.specs.map.Calls.{after_all, empty}
use Rattle.mem_base.specs.map.Forest.{FitsTypes}
use Rattle.mem_base.specs.views.View.{PathAt, IsView}

-- the range of one address
abbrev pub lone : ℕ → Spot → FlatRange
lone a s = record { start = a; last = a; leaf = s.leaf; offset = s.offset; attrs = s.attrs }

-- the same regions in the same order
abbrev pub same_path : List RegionId → List RegionId → Bool
same_path [] [] = true
same_path (r ∷ rs) (q ∷ qs) = (r.0 == q.0) && same_path rs qs
same_path _ _ = false

-- the range begins one past the address, in the same leaf, at the next offset, with the same attributes and, where these
-- are unmergeable, on the same path
abbrev pub goes_on : PathAt → ℕ → Spot → FlatRange → Bool
goes_on path a s r =
    (r.start == a + 1) && (r.leaf.0 == s.leaf.0) && (r.offset == s.offset + 1) && same_attrs r.attrs s.attrs
    && (not s.attrs.unmergeable || same_path (path r.start) (path a))

-- the ranges of the addresses after this one, with what is found at it
abbrev pub put_before : PathAt → ℕ → Option Spot → List FlatRange → List FlatRange
put_before path a None rs = rs
put_before path a (Some s) [] = lone a s ∷ []
put_before path a (Some s) (r ∷ rs) =
    if goes_on path a s r then record { start = a; last = r.last; leaf = s.leaf; offset = s.offset; attrs = s.attrs } ∷ rs
    else lone a s ∷ r ∷ rs

-- the longest ranges of the `n` addresses from `a` on, by what is found at each and on which path
unfoldable pub ranges_from : (ℕ → Option Spot) → PathAt → ℕ → ℕ → List FlatRange
ranges_from found path a zero = []
ranges_from found path a (suc n) = put_before path a (found a) (ranges_from found path (a + 1) n)

-- the view of the forest at a space
unfoldable pub view_of : Forest → SpaceId → List FlatRange
view_of f s = ranges_from (look f s) (path_at f s) 0 (2 ^ 64)

-- two views of a forest at a space are equal
abbrev pub HasOneView : Type 0
HasOneView = (f : Forest) (s : SpaceId) (rs qs : List FlatRange) → IsView f s rs → IsView f s qs → rs ≡ qs

-- in every forest that accepted calls make every space has a view, and `view_of` is it
abbrev pub HasViews : Type 0
HasViews = (calls : List Call) (s : SpaceId) → Every FitsTypes calls → IsView (after_all empty calls) s (view_of (after_all empty calls) s)
