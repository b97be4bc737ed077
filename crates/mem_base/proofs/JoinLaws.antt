-- Laws of a region that is placed in a container: what its steps and children are then.
use Rattle.std.proofs.Common.{◌≡◌, ◌≢◌, ℕ, zero, suc, ◌<◌, ◌≤◌, true, false, cond, eqb, ℤ, List, [], ◌∷◌, map, Option, Some, None, refl}
use Rattle.std.proofs.Common.{sym, ap, subst, ◌∙◌, arith}
use Rattle.std.specs.Prelude.{option_map}
use Rattle.std.proofs.lemmas.Bool.Decides.{nat_tests}
use Rattle.std.specs.declared.cmp.Ordering.TheVariants.{Equal}
use Rattle.mem_base.specs.declared.map.ids.RegionId.{RegionId}
use Rattle.mem_base.specs.declared.map.forests.Node.{Node}
use Rattle.mem_base.specs.declared.map.forests.Forest.{Forest}
use Rattle.mem_base.specs.declared.map.kinds.Kind.{Kind}
use Rattle.mem_base.specs.declared.map.kinds.Kind.TheVariants.{Alias}
use Rattle.mem_base.specs.lists.Every.{Every}
use Rattle.mem_base.specs.map.Kinds.{is_alias, target_of}
use Rattle.mem_base.specs.map.Region.{has_id, node_of, is_in, is_child_of}
use Rattle.mem_base.specs.lists.Sorting.{put_by, sorted_by}
use Rattle.mem_base.specs.map.Order.{trial_order, children_of}
use Rattle.mem_base.specs.map.Forest.{IsOrderedForest}
use Rattle.mem_base.specs.map.Changes.{placed, changed_at}
use Rattle.mem_base.specs.map.Steps.{steps_of, steps_from, steps_at, greatest, total, longest, depth_by, weight_by, reaches, weight_of, depth_of}
use Rattle.mem_base.specs.map.Limits.{most_depth, most_weight}
use Rattle.mem_base.proofs.EveryLaws.{weaker}
use Rattle.mem_base.proofs.ForestLaws.{trial_apart, filter-changed_at, children_of-joined, only_node, child_before, id_of, every_node_of}
use Rattle.mem_base.proofs.StepLaws.{Alike, joined_steps, alike-put_by, weight_by-bounded, depth_by-longer, IsWithin, IsWithin-depth_by, IsWithin-depth_at_most}

-- a change that keeps the id keeps where a region is found
pub node_of-changed_at : (r : RegionId) (g : Node → Node) → ((n : Node) → (g n).id ≡ n.id) → (nodes : List Node) (q : RegionId) →
    node_of (changed_at r g nodes) q ≡ option_map (λ n. cond (has_id r n) (g n) n) (node_of nodes q)
node_of-changed_at r g k [] q = refl
node_of-changed_at r g k (n ∷ ns) q =
    let here : (cond (has_id r n) (g n) n).id ≡ n.id = elim (has_id r n) as (λ b. (cond b (g n) n).id ≡ n.id) [ true ↦ k n | false ↦ refl ] in
    let same : has_id q (cond (has_id r n) (g n) n) ≡ has_id q n = ap (λ (x : RegionId). eqb x.0 q.0) here in
    let ih = node_of-changed_at r g k ns q in
    rw same (elim (has_id q n) as (λ b. cond b (Some (cond (has_id r n) (g n) n)) (node_of (changed_at r g ns) q) ≡ option_map
    (λ x. cond (has_id r x) (g x) x) (cond b (Some n) (node_of ns q))) [ true ↦ refl | false ↦ ih ])

-- the numbers of ids do not change
pub map_ids-changed_at : (h : RegionId → ℕ) (r : RegionId) (g : Node → Node) → ((n : Node) → (g n).id ≡ n.id) → (nodes : List Node) →
    map (λ (n : Node). h n.id) (changed_at r g nodes) ≡ map (λ (n : Node). h n.id) nodes
map_ids-changed_at h r g k [] = refl
map_ids-changed_at h r g k (n ∷ ns) =
    let here : (cond (has_id r n) (g n) n).id ≡ n.id = elim (has_id r n) as (λ b. (cond b (g n) n).id ≡ n.id) [ true ↦ k n | false ↦ refl ] in
    let a = ap h here in
    let b = map_ids-changed_at h r g k ns in
    cc

steps_by_id : (nodes : List Node) (k : Kind) (m n : Node) → m.id ≡ n.id → steps_at nodes k m ≡ steps_at nodes k n
steps_by_id nodes (Alias target offset) m n e = refl
steps_by_id nodes _ m n e = ap (λ q. map (λ (c : Node). c.id) (children_of nodes q)) e

-- where a region leads, by its target and its id
abbrev steps_by : List Node → Option RegionId → Node → List RegionId
steps_by nodes None n = map (λ (c : Node). c.id) (children_of nodes n.id)
steps_by nodes (Some target) n = target ∷ []

steps_by-target : (nodes : List Node) (k : Kind) (n : Node) → steps_at nodes k n ≡ steps_by nodes (target_of k) n
steps_by-target nodes (Alias target offset) n = refl
steps_by-target nodes _ n = refl

-- what the steps see of a region is its target and its id
pub steps_seen : (nodes : List Node) (r : RegionId) (g : Node → Node) → ((n : Node) → (g n).id ≡ n.id) →
    ((n : Node) → target_of (g n).kind ≡ target_of n.kind) → (o : Option Node) →
    steps_from nodes (option_map (λ n. cond (has_id r n) (g n) n) o) ≡ steps_from nodes o
steps_seen nodes r g k l None = refl
steps_seen nodes r g k l (Some n) =
    elim (has_id r n) as (λ b. steps_at nodes (cond b (g n) n).kind (cond b (g n) n) ≡ steps_at nodes n.kind n) [
      | true ↦ steps_by-target nodes (g n).kind (g n) ∙ ap (λ o. steps_by nodes o (g n)) (l n) ∙ sym (steps_by-target nodes n.kind (g n))
          ∙ steps_by_id nodes n.kind (g n) n (k n)
      | false ↦ refl
    ]

-- steps at a region with other lists of children
pub steps_alike : (new old : List Node) (k : Kind) (n : Node) → children_of new n.id ≡ children_of old n.id → steps_at new k n ≡ steps_at old k n
steps_alike new old (Alias target offset) n e = refl
steps_alike new old _ n e = ap (map (λ (c : Node). c.id)) e

pub steps_children : (nodes : List Node) (k : Kind) (n : Node) → is_alias k ≡ false → steps_at nodes k n ≡ map (λ (c : Node). c.id) (children_of nodes n.id)
steps_children nodes (Alias target offset) n e = cc
steps_children nodes _ n e = refl

pub alike_of : {xs ys : List RegionId} → xs ≡ ys → Alike xs ys
alike_of e g = (ap (λ l. greatest (map g l)) e, ap (λ l. total (map g l)) e)

module _ (f : Forest) (h : IsOrderedForest f) (parent : RegionId) (offset : ℕ) (child : RegionId) (priority : ℤ) (n m : Node)
    (at_parent : node_of f.nodes parent ≡ Some n) (no_alias : is_alias n.kind ≡ false)
    (at_child : node_of f.nodes child ≡ Some m) (free : m.parent ≡ None) where
  abbrev g : Node → Node
  g = placed parent offset priority f.placings

  abbrev after_nodes : List Node
  after_nodes = changed_at child g f.nodes

  pub children_other : (id : RegionId) → id.0 ≢ parent.0 → children_of after_nodes id ≡ children_of f.nodes id
  children_other id k =
      let only = only_node f.nodes child m h.ascending at_child in
      let other : is_in id (Some parent) ≡ false = grind (arith, nat_tests) in
      let unseen = weaker (λ x. has_id child x ≡ true → x ≡ m) (λ x. has_id child x ≡ true → (is_child_of id x ≡ false) × (is_child_of id (g x) ≡ false))
      (λ x w e. (ap (is_child_of id) (w e) ∙ ap (is_in id) free, other)) f.nodes only in
      ap (sorted_by trial_order) (filter-changed_at (is_child_of id) child g f.nodes unseen)

  pub children_here : children_of after_nodes parent ≡ put_by trial_order (g m) (children_of f.nodes parent)
  children_here =
      let itself : is_in parent (Some parent) ≡ true = grind (arith, nat_tests) in
      let before = weaker (λ x. is_child_of parent x ≡ true → (parent.0 < f.made) × (x.placing < f.placings))
      (λ x. is_child_of parent x ≡ true → trial_order x (g m) ≢ Equal) (λ x w e. trial_apart x (g m) (w e).1) f.nodes (child_before f parent h) in
      children_of-joined child parent g m f.nodes at_child (ap (is_in parent) free) itself h.ascending before

  new_steps : (q : RegionId) → steps_of after_nodes q ≡ steps_from after_nodes (node_of f.nodes q)
  new_steps q = ap (steps_from after_nodes) (node_of-changed_at child g (λ x. refl) f.nodes q)
      ∙ steps_seen after_nodes child g (λ x. refl) (λ x. refl) (node_of f.nodes q)

  steps_other : (q : RegionId) → q.0 ≢ parent.0 → (o : Option Node) → node_of f.nodes q ≡ o → steps_from after_nodes o ≡ steps_from f.nodes o
  steps_other q k None e = refl
  steps_other q k (Some x) e =
      let id = id_of f.nodes q x e in
      steps_alike after_nodes f.nodes x.kind x (subst (λ (r : RegionId). children_of after_nodes r ≡ children_of f.nodes r) (sym id) (children_other q k))

  steps_parent : Alike (steps_from after_nodes (node_of f.nodes parent)) (child ∷ steps_of f.nodes parent)
  steps_parent =
      let id = id_of f.nodes parent n at_parent in
      let new : steps_from after_nodes (node_of f.nodes parent) ≡ map (λ (c : Node). c.id) (put_by trial_order (g m) (children_of f.nodes parent)) =
      ap (steps_from after_nodes) at_parent ∙ steps_children after_nodes n.kind n no_alias
      ∙ ap (λ r. map (λ (c : Node). c.id) (children_of after_nodes r)) id ∙ ap (map (λ (c : Node). c.id)) children_here in
      let old : m.id ∷ map (λ (c : Node). c.id) (children_of f.nodes parent) ≡ child ∷ steps_of f.nodes parent =
      ap (λ r. r ∷ map (λ (c : Node). c.id) (children_of f.nodes parent)) (id_of f.nodes child m at_child)
      ∙ ap (λ l. child ∷ l) (sym (ap (steps_from f.nodes) at_parent ∙ steps_children f.nodes n.kind n no_alias
      ∙ ap (λ r. map (λ (c : Node). c.id) (children_of f.nodes r)) id)) in
      λ w. let a = alike-put_by trial_order (g m) (children_of f.nodes parent) w in
      let b = alike_of new w in
      let c = alike_of old w in
      (b.0 ∙ a.0 ∙ c.0, b.1 ∙ a.1 ∙ c.1)

  -- the steps after the call are those before it and one more
  pub steps_joined : (q : RegionId) → Alike (steps_of after_nodes q) (joined_steps (steps_of f.nodes) parent child q)
  steps_joined q =
      subst (λ xs. Alike xs (joined_steps (steps_of f.nodes) parent child q)) (sym (new_steps q))
      (elim (eqb q.0 parent.0) as (λ b. eqb q.0 parent.0 ≡ b →
      Alike (steps_from after_nodes (node_of f.nodes q)) (cond b (child ∷ steps_of f.nodes q) (steps_of f.nodes q))) [
        | true ↦ λ t.
            let k : parent.0 ≡ q.0 = grind (arith, nat_tests) in
            let same : parent ≡ q = ap (λ (v : ℕ). let r : RegionId = record { 0 = v } in r) k in
            subst (λ r. Alike (steps_from after_nodes (node_of f.nodes r)) (child ∷ steps_of f.nodes r)) same steps_parent
        | false ↦ λ t. alike_of (steps_other q (λ k. grind (arith, nat_tests)) (node_of f.nodes q) refl)
      ] refl)

each_at_most : {A : Type 0} (w : A → ℕ) (k : ℕ) (xs : List A) → greatest (map w xs) ≤ k → Every (λ x. w x ≤ k) xs
each_at_most w k [] l = tt
each_at_most w k (x ∷ xs) l = (omega arith, each_at_most w k xs (omega arith))

weight_missing : (nodes : List Node) (most : ℕ) (r : RegionId) → node_of nodes r ≡ None → weight_by (steps_of nodes) most r ≤ 1
unfolding weight_by
weight_missing nodes zero r e = omega arith
weight_missing nodes (suc most) r e = rw e (omega arith)

-- no region of a forest, and none that is not there, weighs more than the most
pub weight_at_most : (f : Forest) → IsOrderedForest f → (r : RegionId) → weight_by (steps_of f.nodes) longest r ≤ most_weight
weight_at_most f h r =
    elim (node_of f.nodes r) as (λ o. node_of f.nodes r ≡ o → weight_by (steps_of f.nodes) longest r ≤ most_weight) [
      | None ↦ λ e. let l = weight_missing f.nodes longest r e in omega arith
      | Some n ↦ λ e.
          let each = each_at_most (λ (x : Node). weight_of f.nodes x.id) most_weight f.nodes h.narrow in
          let l = (every_node_of (λ x. weight_of f.nodes x.id ≤ most_weight) f.nodes r n e each).0 in
          subst (λ q. weight_by (steps_of f.nodes) longest q ≤ most_weight) (id_of f.nodes r n e) l
    ] refl

-- with one more step that makes no loop, weights stay far below the range of numbers
pub weight_joined_bound : (f : Forest) → IsOrderedForest f → (parent child : RegionId) → reaches f.nodes child parent ≡ false → (k : ℕ) (q : RegionId) →
    k ≤ longest → weight_by (joined_steps (steps_of f.nodes) parent child) k q < 9223372036854775808
weight_joined_bound f h parent child e k q l =
    let b = weight_by-bounded (steps_of f.nodes) parent child most_weight longest (weight_at_most f h) e k q l in
    omega arith

depth_missing : (nodes : List Node) (most : ℕ) (r : RegionId) → node_of nodes r ≡ None → depth_by (steps_of nodes) most r ≤ 1
unfolding depth_by
depth_missing nodes zero r e = omega arith
depth_missing nodes (suc most) r e = rw e (omega arith)

pub depth_at_most : (f : Forest) → IsOrderedForest f → (r : RegionId) → depth_by (steps_of f.nodes) longest r ≤ most_depth
depth_at_most f h r =
    elim (node_of f.nodes r) as (λ o. node_of f.nodes r ≡ o → depth_by (steps_of f.nodes) longest r ≤ most_depth) [
      | None ↦ λ e. let l = depth_missing f.nodes longest r e in omega arith
      | Some n ↦ λ e.
          let each = each_at_most (λ (x : Node). depth_of f.nodes x.id) most_depth f.nodes h.shallow in
          let l = (every_node_of (λ x. depth_of f.nodes x.id ≤ most_depth) f.nodes r n e each).0 in
          subst (λ q. depth_by (steps_of f.nodes) longest q ≤ most_depth) (id_of f.nodes r n e) l
    ] refl

-- no path of a forest has more than 63 regions, so looking at longer ones changes nothing
pub within_forest : (f : Forest) → IsOrderedForest f → (r : RegionId) → IsWithin (steps_of f.nodes) 63 r
within_forest f h r =
    let a = depth_at_most f h r in
    let b = depth_by-longer (steps_of f.nodes) 63 longest r (omega arith) in
    IsWithin-depth_by (steps_of f.nodes) 63 r (omega arith)

-- no path of a forest has more than `most_depth` regions
pub within_most_depth : (f : Forest) → IsOrderedForest f → (r : RegionId) → IsWithin (steps_of f.nodes) most_depth r
within_most_depth f h r =
    let a = depth_at_most f h r in
    let b = depth_by-longer (steps_of f.nodes) 33 longest r (omega arith) in
    IsWithin-depth_at_most (steps_of f.nodes) most_depth r (omega arith)
