-- Laws of what a search finds: its offset is below 2^64, since no region is larger; so every space has a view.
use Rattle.std.proofs.Common.{◌≡◌, ℕ, zero, suc, ◌+◌, ◌-◌, ◌^◌, ◌<◌, ◌≤◌, Bool, true, false, ◌&&◌, cond, List, [], ◌∷◌, Option, Some, None, refl, subst, arith}
use Rattle.std.specs.Prelude.{nat_lt, nat_le, option_map, option_and_then}
use Rattle.std.specs.Option.{option_or}
use Rattle.std.proofs.lemmas.Bool.Decides.{nat_tests}
use Rattle.mem_base.specs.declared.map.ids.RegionId.{RegionId}
use Rattle.mem_base.specs.declared.map.ids.SpaceId.{SpaceId}
use Rattle.mem_base.specs.declared.map.forests.Node.{Node}
use Rattle.mem_base.specs.declared.map.forests.Forest.{Forest}
use Rattle.mem_base.specs.declared.map.spots.Spot.{Spot}
use Rattle.mem_base.specs.declared.map.calls.Call.{Call}
use Rattle.mem_base.specs.declared.map.kinds.Kind.{Kind}
use Rattle.mem_base.specs.declared.map.kinds.Kind.TheVariants.{Container, Alias}
use Rattle.mem_base.specs.lists.Every.{Every}
use Rattle.mem_base.specs.map.Limits.{most_depth}
use Rattle.mem_base.specs.map.Region.{node_of}
use Rattle.mem_base.specs.map.Order.{children_of}
use Rattle.mem_base.specs.map.Calls.{after_all, empty}
use Rattle.mem_base.specs.map.Forest.{IsRegion, IsClosedForest, FitsTypes}
use Rattle.mem_base.specs.map.Search.{Found, Search, passed, itself, inside, at_node, found_in, found_at, root_of, first_of_children, look, spot_of}
use Rattle.mem_base.specs.views.View.{IsView}
use Rattle.mem_base.specs.views.Flattened.{view_of}
use Rattle.mem_base.proofs.ForestLaws.{every_node_of}
use Rattle.map_laws.proofs.FlattenedLaws.{IsView-view_of}
use Rattle.map_laws.proofs.SoundCallLaws.{IsClosedForest-made}
use Rattle.mem_base.proofs.BoolLaws.{right_of}

-- what is found, if anything, has an offset below 2^64
abbrev IsBelow : Option Found → Type 0
IsBelow None = Unit {0}
IsBelow (Some x) = x.0.offset < 2 ^ 64

passed_below : (n : Node) (o : Option Found) → IsBelow o → IsBelow (option_map (passed n) o)
passed_below n None h = tt
passed_below n (Some x) h = h

itself_below : (n : Node) (global : Bool) (k : Kind) (a : ℕ) → a < 2 ^ 64 → IsBelow (itself global k n a)
itself_below n global Container a l = tt
itself_below n global (Alias target offset) a l = tt
itself_below n global _ a l = l

or_below : (o p : Option Found) → IsBelow o → IsBelow p → IsBelow (option_or o p)
or_below None p h k = k
or_below (Some x) p h k = h

children_below : (below : Search) → ((r : RegionId) (b : ℕ) → IsBelow (below r b)) → (cs : List Node) (a : ℕ) → IsBelow (first_of_children below cs a)
children_below below h [] a = tt
children_below below h (c ∷ cs) a =
    or_below (cond (nat_le c.offset a) (below c.id (a - c.offset)) None) (first_of_children below cs a)
    (if_held (nat_le c.offset a) (below c.id (a - c.offset)) (h c.id (a - c.offset))) (children_below below h cs a) where
      if_held : (b : Bool) (o : Option Found) → IsBelow o → IsBelow (cond b o None)
      if_held true o w = w
      if_held false o w = tt

inside_below : (f : Forest) (below : Search) → ((r : RegionId) (b : ℕ) → IsBelow (below r b)) → (k : Kind) (n : Node) (a : ℕ) → a < 2 ^ 64 →
    IsBelow (inside f below k n a)
inside_below f below h (Alias target offset) n a l = h target (a + offset)
inside_below f below h _ n a l =
    or_below (first_of_children below (children_of f.nodes n.id) a) (itself f.global n.kind n a) (children_below below h (children_of f.nodes n.id) a)
    (itself_below n f.global n.kind a l)

-- no region is larger than the whole space
abbrev IsSmall : Option Node → Type 0
IsSmall None = Unit {0}
IsSmall (Some n) = n.size ≤ 2 ^ 64

node_below : (f : Forest) (below : Search) → ((r : RegionId) (b : ℕ) → IsBelow (below r b)) → (o : Option Node) (a : ℕ) → IsSmall o →
    IsBelow (option_and_then (λ n. at_node f below n a) o)
node_below f below h None a s = tt
node_below f below h (Some n) a s = go (n.enabled && nat_lt a n.size)
    (λ t. let u : nat_lt a n.size ≡ true = right_of n.enabled (nat_lt a n.size) t in grind (arith, nat_tests)) where
      go : (b : Bool) → (b ≡ true → a < n.size) → IsBelow (cond b (option_map (passed n) (inside f below n.kind n a)) None)
      go true l = let k = l refl in passed_below n (inside f below n.kind n a) (inside_below f below h n.kind n a (omega (arith, s)))
      go false l = tt

found_in-below : (f : Forest) → ((r : RegionId) → IsSmall (node_of f.nodes r)) → (depth : ℕ) (r : RegionId) (a : ℕ) → IsBelow (found_in f depth r a)
unfolding found_in
found_in-below f s zero r a = tt
found_in-below f s (suc depth) r a = node_below f (found_in f depth) (λ q b. found_in-below f s depth q b) (node_of f.nodes r) a (s r)

small_nodes : (f : Forest) → IsClosedForest f → (r : RegionId) → IsSmall (node_of f.nodes r)
small_nodes f h r = go (node_of f.nodes r) (λ n e. (every_node_of (IsRegion f.nodes) f.nodes r n e h.regions).0) where
  go : (o : Option Node) → ((n : Node) → o ≡ Some n → IsRegion f.nodes n) → IsSmall o
  go None h = tt
  go (Some n) h = (h n refl).size

-- in every sound forest what the search finds has an offset below 2^64
pub look-below : (f : Forest) (s : SpaceId) → IsClosedForest f → (a : ℕ) (x : Spot) → look f s a ≡ Some x → x.offset < 2 ^ 64
look-below f s h a x e = go (found_at f s a) (root_found (root_of f s)) e where
  root_found : (o : Option RegionId) → IsBelow (option_and_then (λ r. found_in f most_depth r a) o)
  root_found None = tt
  root_found (Some r) = found_in-below f (small_nodes f h) most_depth r a

  go : (o : Option Found) → IsBelow o → spot_of o ≡ Some x → x.offset < 2 ^ 64
  go None w e = cc
  go (Some y) w e = let same : y.0 ≡ x = cc in subst (λ (z : Spot). z.offset < 2 ^ 64) same w

-- every space of every forest that accepted calls make has a view, and `view_of` is it
pub IsView-made : (list : List Call) (s : SpaceId) → Every FitsTypes list → IsView (after_all empty list) s (view_of (after_all empty list) s)
IsView-made list s h = IsView-view_of (after_all empty list) s (λ a x l e. look-below (after_all empty list) s (IsClosedForest-made list h) a x e)
