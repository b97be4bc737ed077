-- Laws of the regions on the way of a search: those that it goes on to are there, and no path is longer than it goes down.
use Rattle.std.proofs.Common.{◌≡◌, ◌≢◌, ℕ, zero, suc, ◌+◌, ◌-◌, ◌<◌, true, false, List, [], ◌∷◌, ◌++◌, length, get_or, take, add-one, Some, refl, sym, ap, subst, ◌∙◌, arith}
use Rattle.std.specs.Prelude.{IsSome, find, option_map, cond}
use Rattle.mem_base.specs.declared.map.ids.RegionId.{RegionId}
use Rattle.mem_base.specs.declared.map.ids.SpaceId.{SpaceId}
use Rattle.mem_base.specs.declared.map.forests.Node.{Node}
use Rattle.mem_base.specs.declared.map.forests.Forest.{Forest}
use Rattle.mem_base.specs.declared.map.kinds.Kind.{Kind}
use Rattle.mem_base.specs.declared.map.kinds.Kind.TheVariants.{Alias}
use Rattle.mem_base.specs.lists.Every.{Every}
use Rattle.mem_base.specs.map.Kinds.{target_of}
use Rattle.mem_base.specs.map.Limits.{most_depth}
use Rattle.mem_base.specs.map.Region.{node_of, is_child_of}
use Rattle.mem_base.specs.map.Order.{children_of}
use Rattle.mem_base.specs.map.Search.{root_of, is_space}
use Rattle.mem_base.specs.map.Forest.{IsMade, IsRegion, HasTarget}
use Rattle.mem_base.proofs.EveryLaws.{weaker, both}
use Rattle.mem_base.proofs.ForestLaws.{every_child, every_node_of, node_of-itself}
use Rattle.mem_base.proofs.JoinLaws.{within_most_depth}
use Rattle.child_lists.specs.declared.siblings.Sibling.{Sibling}
use Rattle.child_lists.specs.Siblings.{siblings_of}
use Rattle.map_laws.proofs.MadeForests.{ordered_made, closed_made}
use Rattle.map_laws.proofs.SearchLaws.{StepsWithin}
use Rattle.map_laws.proofs.PathLaws.{paths_within}
use Rattle.find_why.specs.Seen.{IsShallow}

-- some path has a region
pub no_depth : (f : Forest) (depth : ℕ) (r : RegionId) → depth ≡ 0 → IsShallow f depth r → ⊥
unfolding IsShallow
no_depth f zero r e h = h
no_depth f (suc depth) r e h = absurd (omega arith)

-- paths after one step are one region shorter
pub step_within : (f : Forest) (depth : ℕ) (n : Node) → depth ≢ 0 → node_of f.nodes n.id ≡ Some n → IsShallow f depth n.id →
    StepsWithin f (IsShallow f (depth - 1)) n.kind n
unfolding IsShallow
step_within f zero n e k h = absurd h
step_within f (suc depth) n e k h =
    let less : depth ≡ suc depth - 1 = omega arith in subst (λ d. StepsWithin f (IsShallow f d) n.kind n) less (h n k)

-- from any region
pub whole_depth : (f : Forest) (r : RegionId) → IsMade f → IsShallow f most_depth r
unfolding IsShallow
whole_depth f r h = let o = ordered_made f h in paths_within f most_depth r (within_most_depth f o r)

-- the target of an alias
pub target_within : (f : Forest) (P : RegionId → Type 0) (k : Kind) (n : Node) (target : RegionId) (offset : ℕ) → k ≡ Alias target offset →
    StepsWithin f P k n → P target
target_within f P k n target offset e h = let Q : Kind → Type 0 = λ q. StepsWithin f P q n in subst Q e h

pub target_there : (f : Forest) (n : Node) (target : RegionId) (offset : ℕ) → IsMade f → node_of f.nodes n.id ≡ Some n → n.kind ≡ Alias target offset →
    IsSome (node_of f.nodes target)
target_there f n target offset made e k =
    let region = (every_node_of (IsRegion f.nodes) f.nodes n.id n e (closed_made f made).regions).0 in
    let Q : Kind → Type 0 = λ q. HasTarget f.nodes (target_of q) in subst Q k region.target

-- the children of a region that is no alias
pub children_within : (f : Forest) (P : RegionId → Type 0) (k : Kind) (n : Node) → ((target : RegionId) (offset : ℕ) → k ≡ Alias target offset → ⊥) →
    StepsWithin f P k n → Every (λ c. P c.id) (children_of f.nodes n.id)
children_within f P (Alias target offset) n e h = absurd (e target offset refl)
children_within f P _ n e h = h

-- a child is a region
pub children_there : (f : Forest) (r : RegionId) → IsMade f → Every (λ c. node_of f.nodes c.id ≡ Some c) (children_of f.nodes r)
children_there f r made =
    let known : Node → Type 0 = λ n. node_of f.nodes n.id ≡ Some n in
    every_child known r f.nodes (weaker known (λ n. is_child_of r n ≡ true → known n) (λ n e t. e) f.nodes
    (node_of-itself f.nodes (ordered_made f made).ascending))

-- the root of a space is there
pub root_there : (f : Forest) (s : SpaceId) (r : RegionId) → IsMade f → root_of f s ≡ Some r → IsSome (node_of f.nodes r)
root_there f s r made e = go f.spaces (closed_made f made).roots e where
  go : (ps : List (SpaceId × RegionId)) → Every (λ p. IsSome (node_of f.nodes p.1)) ps → option_map (λ p. p.1) (find (is_space s) ps) ≡ Some r →
      IsSome (node_of f.nodes r)
  go [] h e = cc
  go (p ∷ ps) h e =
      elim (is_space s p) as (λ b. is_space s p ≡ b → option_map (λ q. q.1) (cond b (Some p) (find (is_space s) ps)) ≡ Some r → IsSome (node_of f.nodes r)) [
        | true ↦ λ t w. let same : p.1 ≡ r = cc in subst (λ q. IsSome (node_of f.nodes q)) same h.0
        | false ↦ λ t w. go ps h.1 w
      ] refl e

-- the child at a place in the list
child_at : (P : Node → Type 0) (cs : List Node) (i : ℕ) (d : Sibling) → i < length (siblings_of cs) → Every P cs →
    (c : Node) × ((get_or (siblings_of cs) i d).id ≡ c.id) × (take (i + 1) cs ≡ take i cs ++ c ∷ []) × P c
child_at P cs i d l h =
    let here = go cs i l h in (here.0, here.1, subst (λ j. take j cs ≡ take i cs ++ here.0 ∷ []) (sym (add-one i)) here.2, here.3)
  where
    go : (cs : List Node) (i : ℕ) → i < length (siblings_of cs) → Every P cs →
        (c : Node) × ((get_or (siblings_of cs) i d).id ≡ c.id) × (take (suc i) cs ≡ take i cs ++ c ∷ []) × P c
    go [] i l h = absurd (omega arith)
    go (c ∷ cs) zero l h = (c, refl, refl, h.0)
    go (c ∷ cs) (suc i) l h = let rest = go cs i (omega arith) h.1 in (rest.0, rest.1, ap (λ ys. c ∷ ys) rest.2, rest.3)

-- a child that is there, and no path from it is longer
abbrev pub IsNext : Forest → ℕ → Node → Type 0
IsNext f depth c = (node_of f.nodes c.id ≡ Some c) × IsShallow f depth c.id

-- the child at a place in the list is there
pub next_at : (f : Forest) (depth : ℕ) (r : RegionId) (items : List Sibling) (i : ℕ) (d : Sibling) → IsMade f → items ≡ siblings_of (children_of f.nodes r) →
    i < length items → Every (λ c. IsShallow f depth c.id) (children_of f.nodes r) →
    (c : Node) × ((get_or items i d).id ≡ c.id) × (take (i + 1) (children_of f.nodes r) ≡ take i (children_of f.nodes r) ++ c ∷ []) × IsNext f depth c
next_at f depth r items i d made e l h =
    let cs = children_of f.nodes r in
    let here = child_at (IsNext f depth) cs i d (subst (λ (xs : List Sibling). i < length xs) e l)
    (both (λ c. node_of f.nodes c.id ≡ Some c) (λ c. IsShallow f depth c.id) cs (children_there f r made) h) in
    (here.0, ap (λ (xs : List Sibling). (get_or xs i d).id) e ∙ here.1, here.2, here.3)
