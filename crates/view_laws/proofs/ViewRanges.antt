-- The ranges of every view stand apart.
use Rattle.std.proofs.Common.{ℕ, zero, suc, ◌+◌, ◌^◌, ◌<◌, ◌≤◌, Bool, true, false, List, [], ◌∷◌, arith, if◌then◌else◌, Option, Some, None}
use Rattle.mem_base.specs.declared.map.ids.SpaceId.{SpaceId}
use Rattle.mem_base.specs.declared.map.spots.Spot.{Spot}
use Rattle.mem_base.specs.declared.views.flat.FlatRange.{FlatRange}
use Rattle.mem_base.specs.declared.map.forests.Forest.{Forest}
use Rattle.mem_base.specs.lists.Every.{Every}
use Rattle.mem_base.specs.map.Search.{look, path_at}
use Rattle.mem_base.specs.views.View.{PathAt}
use Rattle.mem_base.specs.views.Flattened.{lone, goes_on, put_before, ranges_from, view_of}
use Rattle.mem_base.proofs.EveryLaws.{weaker}
use Rattle.view_laws.proofs.RangeLaws.{Apart}

-- ranges that stand apart and begin at a number or after it
abbrev ApartFrom : ℕ → List FlatRange → Type 0
ApartFrom a rs = Every (λ r. a ≤ r.start) rs × Apart rs

earlier : (a b : ℕ) → a ≤ b → (rs : List FlatRange) → ApartFrom b rs → ApartFrom a rs
earlier a b l rs h = (weaker (λ r. b ≤ r.start) (λ r. a ≤ r.start) (λ r m. omega arith) rs h.0, h.1)

put_apart : (path : PathAt) (a : ℕ) (o : Option Spot) (rs : List FlatRange) → ApartFrom (a + 1) rs → ApartFrom a (put_before path a o rs)
put_apart path a None rs h = earlier a (a + 1) (omega arith) rs h
put_apart path a (Some s) [] h = ((omega arith, tt), (omega arith, tt, tt))
put_apart path a (Some s) (r ∷ rs) h = go (goes_on path a s r)
  where
    go : (b : Bool) → ApartFrom a (if b then record { start = a; last = r.last; leaf = s.leaf; offset = s.offset; attrs = s.attrs } ∷ rs else lone a s ∷ r ∷ rs)
    go true = let l = h.0.0 in let m = h.1.0 in ((omega arith, (earlier a (a + 1) (omega arith) rs (h.0.1, h.1.2)).0), (omega arith, h.1.1, h.1.2))
    go false = (
      (omega arith, (earlier a (a + 1) (omega arith) (r ∷ rs) h).0),
      (omega arith, weaker (λ q. a + 1 ≤ q.start) (λ q. a < q.start) (λ q l. omega arith) (r ∷ rs) h.0, h.1),
    )

from_apart : (at : ℕ → Option Spot) (path : PathAt) (a n : ℕ) → ApartFrom a (ranges_from at path a n)
unfolding ranges_from
from_apart at path a zero = (tt, tt)
from_apart at path a (suc n) = put_apart path a (at a) (ranges_from at path (a + 1) n) (from_apart at path (a + 1) n)

pub view_apart : (f : Forest) (s : SpaceId) → Apart (view_of f s)
unfolding view_of
view_apart f s = (from_apart (look f s) (path_at f s) 0 (2 ^ 64)).1
