-- What a search finds lies in its region, and the address lies in the space.
use Rattle.std.proofs.Common.{◌≡◌, ℕ, zero, suc, ◌+◌, ◌-◌, ◌^◌, ◌<◌, ◌≤◌, ◌&&◌, nat_le, Bool, true, false, List, [], ◌∷◌, Option, Some}
use Rattle.std.proofs.Common.{None, option_map, if◌then◌else◌, refl, sym, ap, subst, ◌∙◌, arith}
use Rattle.std.specs.Prelude.{nat_lt, option_and_then, IsSomeAnd}
use Rattle.std.specs.Option.{option_or}
use Rattle.std.proofs.lemmas.Bool.{ltb-true}
use Rattle.mem_base.specs.declared.map.ids.RegionId.{RegionId}
use Rattle.mem_base.specs.declared.map.ids.SpaceId.{SpaceId}
use Rattle.mem_base.specs.declared.map.forests.Node.{Node}
use Rattle.mem_base.specs.declared.map.forests.Forest.{Forest}
use Rattle.mem_base.specs.declared.map.spots.Spot.{Spot}
use Rattle.mem_base.specs.declared.map.kinds.Kind.{Kind}
use Rattle.mem_base.specs.declared.map.kinds.Kind.TheVariants.{Container, Alias}
use Rattle.mem_base.specs.map.Limits.{most_depth}
use Rattle.mem_base.specs.map.Region.{node_of}
use Rattle.mem_base.specs.map.Order.{children_of}
use Rattle.mem_base.specs.map.Forest.{IsRegion, IsClosedForest}
use Rattle.mem_base.specs.map.Search.{Found, Search, passed, itself, first_of_children, inside, at_node, found_in, look, root_of}
use Rattle.mem_base.proofs.ForestLaws.{every_node_of, id_of}

-- what is found, if anything, lies in its leaf
abbrev pub Inside : List Node → Option Found → Type 0
Inside nodes None = Unit {0}
Inside nodes (Some x) = IsSomeAnd (node_of nodes x.0.leaf) (λ m. x.0.offset < m.size)

in_node : (nodes : List Node) (n : Node) (o : Option Node) (a : ℕ) → o ≡ Some n → a < n.size → IsSomeAnd o (λ m. a < m.size)
in_node nodes n None a e l = cc
in_node nodes n (Some m) a e l = let same : m ≡ n = cc in subst (λ (x : Node). a < x.size) (sym same) l

itself_inside : (nodes : List Node) (n : Node) (global : Bool) (k : Kind) (a : ℕ) → node_of nodes n.id ≡ Some n → a < n.size
    → Inside nodes (itself global k n a)
itself_inside nodes n global Container a e l = tt
itself_inside nodes n global (Alias target offset) a e l = tt
itself_inside nodes n global _ a e l = in_node nodes n (node_of nodes n.id) a e l

passed_inside : (nodes : List Node) (n : Node) (o : Option Found) → Inside nodes o → Inside nodes (option_map (passed n) o)
passed_inside nodes n None h = tt
passed_inside nodes n (Some x) h = h

or_inside : (nodes : List Node) (o p : Option Found) → Inside nodes o → Inside nodes p → Inside nodes (option_or o p)
or_inside nodes None p h k = k
or_inside nodes (Some x) p h k = h

if_inside : (nodes : List Node) (b : Bool) (o : Option Found) → Inside nodes o → Inside nodes (if b then o else None)
if_inside nodes true o h = h
if_inside nodes false o h = tt

children_inside : (nodes : List Node) (below : Search) → ((r : RegionId) (b : ℕ) → Inside nodes (below r b)) → (cs : List Node) (a : ℕ)
    → Inside nodes (first_of_children below cs a)
children_inside nodes below h [] a = tt
children_inside nodes below h (c ∷ cs) a =
    or_inside nodes (if nat_le c.offset a then below c.id (a - c.offset) else None) (first_of_children below cs a)
    (if_inside nodes (nat_le c.offset a) (below c.id (a - c.offset)) (h c.id (a - c.offset))) (children_inside nodes below h cs a)

within_inside : (f : Forest) (below : Search) → ((r : RegionId) (b : ℕ) → Inside f.nodes (below r b)) → (k : Kind) (n : Node) (a : ℕ)
    → node_of f.nodes n.id ≡ Some n → a < n.size → Inside f.nodes (inside f below k n a)
within_inside f below h (Alias target offset) n a e l = h target (a + offset)
within_inside f below h k n a e l =
    or_inside f.nodes (first_of_children below (children_of f.nodes n.id) a) (itself f.global n.kind n a)
    (children_inside f.nodes below h (children_of f.nodes n.id) a) (itself_inside f.nodes n f.global n.kind a e l)

found_inside : (f : Forest) (depth : ℕ) (r : RegionId) (a : ℕ) → Inside f.nodes (found_in f depth r a)
unfolding found_in
found_inside f zero r a = tt
found_inside f (suc depth) r a = go (node_of f.nodes r) refl (found_inside f depth)
  where
    go : (o : Option Node) → node_of f.nodes r ≡ o → ((r : RegionId) (b : ℕ) → Inside f.nodes (found_in f depth r b))
        → Inside f.nodes (option_and_then (λ n. at_node f (found_in f depth) n a) o)
    go None e h = tt
    go (Some n) e h = test (n.enabled && nat_lt a n.size) refl
      where
        here : node_of f.nodes n.id ≡ Some n
        here = ap (λ (q : RegionId). node_of f.nodes q) (id_of f.nodes r n e) ∙ e

        less : (x y : Bool) → (x && y) ≡ true → y ≡ true
        less true y h = h
        less false y h = cc

        test : (b : Bool) → (n.enabled && nat_lt a n.size) ≡ b
            → Inside f.nodes (if b then option_map (passed n) (inside f (found_in f depth) n.kind n a) else None)
        test false t = tt
        test true t =
            passed_inside f.nodes n (inside f (found_in f depth) n.kind n a)
            (within_inside f (found_in f depth) h n.kind n a here (ltb-true a n.size (less n.enabled (nat_lt a n.size) t)))

-- what an address shows lies in its leaf
pub shown_inside : (f : Forest) (s : SpaceId) (a : ℕ) (x : Spot) → look f s a ≡ Some x → IsSomeAnd (node_of f.nodes x.leaf) (λ m. x.offset < m.size)
shown_inside f s a x e = go (root_of f s) e
  where
    at : (o : Option Found) → Inside f.nodes o → option_map (λ p. p.0) o ≡ Some x → IsSomeAnd (node_of f.nodes x.leaf) (λ m. x.offset < m.size)
    at None h e = cc
    at (Some y) h e = let same : y.0 ≡ x = cc in subst (λ (z : Spot). IsSomeAnd (node_of f.nodes z.leaf) (λ m. z.offset < m.size)) same h

    go : (o : Option RegionId) → option_map (λ p. p.0) (option_and_then (λ r. found_in f most_depth r a) o) ≡ Some x
        → IsSomeAnd (node_of f.nodes x.leaf) (λ m. x.offset < m.size)
    go None e = cc
    go (Some r) e = at (found_in f most_depth r a) (found_inside f most_depth r a) e

-- a search that finds something began inside the region
began_inside : (f : Forest) (depth : ℕ) (r : RegionId) (a : ℕ) (x : Spot) → IsClosedForest f
    → option_map (λ p. p.0) (found_in f depth r a) ≡ Some x → a < 2 ^ 64
unfolding found_in
began_inside f zero r a x closed e = cc
began_inside f (suc depth) r a x closed e = go (node_of f.nodes r) refl e
  where
    go : (o : Option Node) → node_of f.nodes r ≡ o → option_map (λ p. p.0) (option_and_then (λ n. at_node f (found_in f depth) n a) o) ≡ Some x → a < 2 ^ 64
    go None i e = cc
    go (Some n) i e = test (n.enabled && nat_lt a n.size) refl e
      where
        less : (x y : Bool) → (x && y) ≡ true → y ≡ true
        less true y h = h
        less false y h = cc

        test : (b : Bool) → (n.enabled && nat_lt a n.size) ≡ b
            → option_map (λ p. p.0) (if b then option_map (passed n) (inside f (found_in f depth) n.kind n a) else None) ≡ Some x → a < 2 ^ 64
        test false t e = cc
        test true t e =
            let region : IsRegion f.nodes n = (every_node_of (IsRegion f.nodes) f.nodes r n i closed.regions).0 in
            let l : a < n.size = ltb-true a n.size (less n.enabled (nat_lt a n.size) t) in
            let most : n.size ≤ 2 ^ 64 = region.size in
            omega (arith, l, most)

-- an address that shows something is below 2^64
pub shown_below : (f : Forest) (s : SpaceId) (a : ℕ) (x : Spot) → IsClosedForest f → look f s a ≡ Some x → a < 2 ^ 64
shown_below f s a x closed e = go (root_of f s) e
  where
    go : (o : Option RegionId) → option_map (λ p. p.0) (option_and_then (λ r. found_in f most_depth r a) o) ≡ Some x → a < 2 ^ 64
    go None e = cc
    go (Some r) e = began_inside f most_depth r a x closed e
