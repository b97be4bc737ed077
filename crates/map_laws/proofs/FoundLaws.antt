-- Laws of what a search finds: the path ends at the leaf, and is no longer than the search went down.
use Rattle.std.proofs.Common.{ℕ, zero, suc, ◌+◌, ◌-◌, Bool, true, false, ◌&&◌, cond, List, [], ◌∷◌, Option, Some, None, refl, arith}
use Rattle.std.specs.Prelude.{nat_lt, nat_le, option_map, option_and_then}
use Rattle.std.specs.Option.{option_or}
use Rattle.mem_base.specs.declared.map.ids.RegionId.{RegionId}
use Rattle.mem_base.specs.declared.map.ids.SpaceId.{SpaceId}
use Rattle.mem_base.specs.declared.map.forests.Node.{Node}
use Rattle.mem_base.specs.declared.map.forests.Forest.{Forest}
use Rattle.mem_base.specs.declared.map.kinds.Kind.{Kind}
use Rattle.mem_base.specs.declared.map.kinds.Kind.TheVariants.{Container, Alias}
use Rattle.mem_base.specs.map.Limits.{most_depth}
use Rattle.mem_base.specs.map.Region.{node_of}
use Rattle.mem_base.specs.map.Order.{children_of}
use Rattle.mem_base.specs.map.Search.{Found, EndsAt, IsPathToLeaf, Search, passed, itself, inside, at_node, found_in, found_at, root_of, first_of_children}

passed_to_leaf : (n : Node) (most : ℕ) (o : Option Found) → IsPathToLeaf most o → IsPathToLeaf (suc most) (option_map (passed n) o)
passed_to_leaf n most None h = tt
passed_to_leaf n most (Some x) h = (let l = h.0 in omega arith, ends x.0.leaf n.id x.1 h.1) where
  ends : (leaf r : RegionId) (ps : List RegionId) → EndsAt leaf ps → EndsAt leaf (r ∷ ps)
  ends leaf r [] h = absurd h
  ends leaf r (p ∷ ps) h = h

itself_to_leaf : (n : Node) (most : ℕ) (global : Bool) (k : Kind) (a : ℕ) → IsPathToLeaf (suc most) (option_map (passed n) (itself global k n a))
itself_to_leaf n most global Container a = tt
itself_to_leaf n most global (Alias target offset) a = tt
itself_to_leaf n most global _ a = (omega arith, refl)

or_to_leaf : (most : ℕ) (o p : Option Found) → IsPathToLeaf most o → IsPathToLeaf most p → IsPathToLeaf most (option_or o p)
or_to_leaf most None p h k = k
or_to_leaf most (Some x) p h k = h

children_to_leaf : (below : Search) (most : ℕ) → ((r : RegionId) (b : ℕ) → IsPathToLeaf most (below r b)) → (cs : List Node) (a : ℕ) →
    IsPathToLeaf most (first_of_children below cs a)
children_to_leaf below most h [] a = tt
children_to_leaf below most h (c ∷ cs) a =
    or_to_leaf most (cond (nat_le c.offset a) (below c.id (a - c.offset)) None) (first_of_children below cs a)
    (if_held (nat_le c.offset a) (below c.id (a - c.offset)) (h c.id (a - c.offset))) (children_to_leaf below most h cs a) where
      if_held : (b : Bool) (o : Option Found) → IsPathToLeaf most o → IsPathToLeaf most (cond b o None)
      if_held true o w = w
      if_held false o w = tt

over_itself : (n : Node) (most : ℕ) (o p : Option Found) → IsPathToLeaf most o → IsPathToLeaf (suc most) (option_map (passed n) p) →
    IsPathToLeaf (suc most) (option_map (passed n) (option_or o p))
over_itself n most None p h k = k
over_itself n most (Some x) p h k = passed_to_leaf n most (Some x) h

inside_to_leaf : (f : Forest) (below : Search) (most : ℕ) → ((r : RegionId) (b : ℕ) → IsPathToLeaf most (below r b)) → (k : Kind) (n : Node) (a : ℕ) →
    IsPathToLeaf (suc most) (option_map (passed n) (inside f below k n a))
inside_to_leaf f below most h (Alias target offset) n a = passed_to_leaf n most (below target (a + offset)) (h target (a + offset))
inside_to_leaf f below most h _ n a =
    over_itself n most (first_of_children below (children_of f.nodes n.id) a) (itself f.global n.kind n a)
    (children_to_leaf below most h (children_of f.nodes n.id) a) (itself_to_leaf n most f.global n.kind a)

node_to_leaf : (f : Forest) (below : Search) (most : ℕ) → ((r : RegionId) (b : ℕ) → IsPathToLeaf most (below r b)) → (o : Option Node) (a : ℕ) →
    IsPathToLeaf (suc most) (option_and_then (λ n. at_node f below n a) o)
node_to_leaf f below most h None a = tt
node_to_leaf f below most h (Some n) a =
    elim (n.enabled && nat_lt a n.size) as (λ b. IsPathToLeaf (suc most) (cond b (option_map (passed n) (inside f below n.kind n a)) None)) [
      | true ↦ inside_to_leaf f below most h n.kind n a
      | false ↦ tt
    ]

-- from any region
pub found_in-to_leaf : (f : Forest) (depth : ℕ) (r : RegionId) (a : ℕ) → IsPathToLeaf depth (found_in f depth r a)
unfolding found_in
found_in-to_leaf f zero r a = tt
found_in-to_leaf f (suc depth) r a = node_to_leaf f (found_in f depth) depth (λ q b. found_in-to_leaf f depth q b) (node_of f.nodes r) a

-- in any space
pub found_at-to_leaf : (f : Forest) (s : SpaceId) (a : ℕ) → IsPathToLeaf most_depth (found_at f s a)
found_at-to_leaf f s a = elim (root_of f s) as (λ o. IsPathToLeaf most_depth (option_and_then (λ r. found_in f most_depth r a) o)) [
  | None ↦ tt
  | Some r ↦ found_in-to_leaf f most_depth r a
]
