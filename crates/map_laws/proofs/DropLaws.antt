-- Laws of a region that is dropped: it was in no container, and nothing else changes.
use Rattle.std.proofs.Common.{◌≡◌, ◌≢◌, ℕ, ◌<◌, ◌≤◌, max, Bool, true, false, not, cond, eqb, List, [], ◌∷◌, map, Option, Some, None, refl}
use Rattle.std.proofs.Common.{sym, ap, subst, ◌∙◌, arith}
use Rattle.std.specs.Prelude.{filter}
use Rattle.std.proofs.lemmas.Bool.Decides.{nat_tests}
use Rattle.mem_base.specs.declared.map.ids.RegionId.{RegionId}
use Rattle.mem_base.specs.declared.map.forests.Node.{Node}
use Rattle.mem_base.specs.declared.map.forests.Forest.{Forest}
use Rattle.mem_base.specs.declared.map.calls.Call.TheVariants as calls
use Rattle.mem_base.specs.lists.Every.{Every}
use Rattle.mem_base.specs.map.Region.{has_id, node_of, is_in, is_child_of, IsAscending}
use Rattle.mem_base.specs.lists.Sorting.{sorted_by}
use Rattle.mem_base.specs.map.Order.{trial_order, children_of}
use Rattle.mem_base.specs.map.Forest.{IsOrderedForest, IsPlacedBefore, IsTargetBefore}
use Rattle.mem_base.specs.map.Steps.{longest, steps_of, steps_from, greatest, total, depth_of, weight_of, greatest_depth, greatest_weight}
use Rattle.mem_base.specs.map.Changes.{changed}
use Rattle.mem_base.specs.map.Calls.{counted}
use Rattle.mem_base.proofs.EveryLaws.{weaker}
use Rattle.mem_base.proofs.ForestLaws.{only_node}
use Rattle.mem_base.proofs.StepLaws.{Fewer, depth_by-fewer, weight_by-fewer}
use Rattle.mem_base.proofs.JoinLaws.{steps_alike}
use Rattle.map_laws.proofs.RefusalLaws.{IsUnused}

abbrev pub without : RegionId → List Node → List Node
without r nodes = filter (λ n. not (has_id r n)) nodes

pub every_without : (P : Node → Type 0) (r : RegionId) (nodes : List Node) → Every P nodes → Every P (without r nodes)
every_without P r [] h = tt
every_without P r (n ∷ ns) h = elim (has_id r n) as
    (λ b. Every P (cond (not b) (n ∷ without r ns) (without r ns))) [ true ↦ every_without P r ns h.1 | false ↦ (h.0, every_without P r ns h.1) ]

pub ascending_without : (r : RegionId) (nodes : List Node) → IsAscending nodes → IsAscending (without r nodes)
ascending_without r [] h = tt
ascending_without r (n ∷ ns) h =
    elim (has_id r n) as (λ b. IsAscending (cond (not b) (n ∷ without r ns) (without r ns))) [
      | true ↦ ascending_without r ns h.1
      | false ↦ (every_without (λ m. n.id.0 < m.id.0) r ns h.0, ascending_without r ns h.1)
    ]

-- the other regions are still there
pub node_of-without : (r : RegionId) (nodes : List Node) (q : RegionId) → q.0 ≢ r.0 → node_of (without r nodes) q ≡ node_of nodes q
node_of-without r [] q k = refl
node_of-without r (n ∷ ns) q k =
    let ih = node_of-without r ns q k in
    elim (has_id r n) as (λ b. has_id r n ≡ b → node_of (cond (not b) (n ∷ without r ns) (without r ns)) q ≡ node_of (n ∷ ns) q) [
      | true ↦ λ t. let other : has_id q n ≡ false = grind (arith, nat_tests) in rw other ih
      | false ↦ λ t. elim (has_id q n) as (λ b. cond b (Some n) (node_of (without r ns) q) ≡ cond b (Some n) (node_of ns q)) [ true ↦ refl | false ↦ ih ]
    ] refl

-- the dropped one is not
pub node_of-dropped : (r : RegionId) (nodes : List Node) → node_of (without r nodes) r ≡ None
node_of-dropped r [] = refl
node_of-dropped r (n ∷ ns) =
    let ih = node_of-dropped r ns in
    elim (has_id r n) as (λ b. has_id r n ≡ b → node_of (cond (not b) (n ∷ without r ns) (without r ns)) r ≡ None) [ true ↦ λ t. ih | false ↦ λ t. rw t ih ]
    refl

filter_without : (p : Node → Bool) (r : RegionId) (nodes : List Node) → Every (λ n. has_id r n ≡ true → p n ≡ false) nodes →
    filter p (without r nodes) ≡ filter p nodes
filter_without p r [] h = refl
filter_without p r (n ∷ ns) h =
    let ih = filter_without p r ns h.1 in
    elim (has_id r n) as (λ b. has_id r n ≡ b → filter p (cond (not b) (n ∷ without r ns) (without r ns)) ≡ filter p (n ∷ ns)) [
      | true ↦ λ t. let no = h.0 t in rw no ih
      | false ↦ λ t. elim (p n) as (λ b. cond b (n ∷ filter p (without r ns)) (filter p (without r ns)) ≡ cond b (n ∷ filter p ns) (filter p ns))
          [ true ↦ ap (λ l. n ∷ l) ih | false ↦ ih ]
    ] refl

-- a region in no container is nobody's child, so all children stay
pub children_of-without : (r : RegionId) (m : Node) (nodes : List Node) → IsAscending nodes → node_of nodes r ≡ Some m → m.parent ≡ None → (q : RegionId) →
    children_of (without r nodes) q ≡ children_of nodes q
children_of-without r m nodes h e free q =
    ap (sorted_by trial_order) (filter_without (is_child_of q) r nodes
    (weaker (λ n. has_id r n ≡ true → n ≡ m) (λ n. has_id r n ≡ true → is_child_of q n ≡ false) (λ n w t. ap (is_child_of q) (w t) ∙ ap (is_in q) free) nodes
    (only_node nodes r m h e)))

no_filtered : (p : Node → Bool) (nodes : List Node) → Every (λ n. p n ≡ false) nodes → filter p nodes ≡ []
no_filtered p [] h = refl
no_filtered p (n ∷ ns) h = let no = h.0 in rw no (no_filtered p ns h.1)

-- a region that may be dropped has no children
pub children_of-unused : (f : Forest) (r : RegionId) → IsUnused f r → children_of f.nodes r ≡ []
children_of-unused f r h = ap (sorted_by trial_order) (no_filtered (is_child_of r) f.nodes h.no_children)

fewer_by : {xs ys : List RegionId} → xs ≡ ys → Fewer xs ys
fewer_by e g = let d = ap (λ l. greatest (map g l)) e in let w = ap (λ l. total (map g l)) e in (omega arith, omega arith)

none_fewer : (xs : List RegionId) → Fewer [] xs
none_fewer xs g = (omega arith, omega arith)

greatest_without : (v w : Node → ℕ) (r : RegionId) (nodes : List Node) → ((n : Node) → v n ≤ w n) → greatest (map v (without r nodes)) ≤ greatest (map w nodes)
greatest_without v w r [] h = omega arith
greatest_without v w r (n ∷ ns) h =
    let ih = greatest_without v w r ns h in
    let here = h n in
    elim (has_id r n) as (λ b. greatest (map v (cond (not b) (n ∷ without r ns) (without r ns))) ≤ max (w n) (greatest (map w ns)))
    [ true ↦ omega arith | false ↦ omega arith ]

module _ (r : RegionId) (m : Node) (nodes : List Node) (h : IsAscending nodes) (e : node_of nodes r ≡ Some m) (free : m.parent ≡ None) where
  steps_from_without : (o : Option Node) → steps_from (without r nodes) o ≡ steps_from nodes o
  steps_from_without None = refl
  steps_from_without (Some n) = steps_alike (without r nodes) nodes n.kind n (children_of-without r m nodes h e free n.id)

  -- the other regions lead where they led
  pub steps_of-without : (q : RegionId) → q.0 ≢ r.0 → steps_of (without r nodes) q ≡ steps_of nodes q
  steps_of-without q k = ap (steps_from (without r nodes)) (node_of-without r nodes q k) ∙ steps_from_without (node_of nodes q)

  fewer_without : (q : RegionId) → Fewer (steps_of (without r nodes) q) (steps_of nodes q)
  fewer_without q =
      elim (eqb q.0 r.0) as (λ b. eqb q.0 r.0 ≡ b → Fewer (steps_of (without r nodes) q) (steps_of nodes q)) [
        | true ↦ λ t.
            let k : q.0 ≡ r.0 = grind (arith, nat_tests) in
            let same : q ≡ r = ap (λ (v : ℕ). let x : RegionId = record { 0 = v } in x) k in
            let gone : steps_of (without r nodes) q ≡ [] = ap (steps_of (without r nodes)) same ∙ ap (steps_from (without r nodes)) (node_of-dropped r nodes) in
            subst (λ xs. Fewer xs (steps_of nodes q)) (sym gone) (none_fewer (steps_of nodes q))
        | false ↦ λ t. fewer_by (steps_of-without q (λ k. grind (arith, nat_tests)))
      ] refl

  pub greatest_depth-without : greatest_depth (without r nodes) ≤ greatest_depth nodes
  greatest_depth-without = greatest_without (λ (n : Node). depth_of (without r nodes) n.id) (λ (n : Node). depth_of nodes n.id) r nodes
      (λ n. depth_by-fewer (steps_of (without r nodes)) (steps_of nodes) fewer_without longest n.id)

  pub greatest_weight-without : greatest_weight (without r nodes) ≤ greatest_weight nodes
  greatest_weight-without = greatest_without (λ (n : Node). weight_of (without r nodes) n.id) (λ (n : Node). weight_of nodes n.id) r nodes
      (λ n. weight_by-fewer (steps_of (without r nodes)) (steps_of nodes) fewer_without longest n.id)

pub drop_forest : (f : Forest) (r : RegionId) (m : Node) → IsOrderedForest f → node_of f.nodes r ≡ Some m → m.parent ≡ None →
    IsOrderedForest (counted (changed f (calls.Drop r)))
drop_forest f r m h e free = record {
  ascending = ascending_without r f.nodes h.ascending;
  made_before = every_without (λ n. n.id.0 < f.made) r f.nodes h.made_before;
  placed_before = every_without (λ n. IsPlacedBefore f.made f.placings n.parent n.placing) r f.nodes h.placed_before;
  few_placings = let few = h.few_placings in omega arith;
  targets_before = every_without (λ n. IsTargetBefore f.made n.kind) r f.nodes h.targets_before;
  shallow = let l = greatest_depth-without r m f.nodes h.ascending e free in let k = h.shallow in omega arith;
  narrow = let l = greatest_weight-without r m f.nodes h.ascending e free in let k = h.narrow in omega arith;
}
