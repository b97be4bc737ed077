-- Laws of changes of one region that keep where each region leads: no depth and no weight changes.
use Rattle.std.proofs.Common.{◌≡◌, true, false, cond, List, [], ◌∷◌, map, Option, Some, None, refl, sym, ap, ◌∙◌}
use Rattle.std.specs.Prelude.{filter}
use Rattle.mem_base.specs.declared.map.ids.RegionId.{RegionId}
use Rattle.mem_base.specs.declared.map.forests.Node.{Node}
use Rattle.mem_base.specs.declared.map.kinds.Kind.{Kind}
use Rattle.mem_base.specs.declared.map.kinds.Kind.TheVariants.{Alias}
use Rattle.mem_base.specs.map.Kinds.{target_of}
use Rattle.mem_base.specs.map.Region.{has_id, node_of, is_in, is_child_of}
use Rattle.mem_base.specs.map.Order.{trial_order, children_of}
use Rattle.mem_base.specs.map.Changes.{changed_at}
use Rattle.mem_base.specs.map.Steps.{longest, steps_of, steps_from, steps_at, greatest, depth_of, weight_of, greatest_depth, greatest_weight}
use Rattle.mem_base.proofs.StepLaws.{Alike, alike-sorted_by, map_agree, every_of, depth_by-alike, weight_by-alike}
use Rattle.mem_base.proofs.JoinLaws.{node_of-changed_at, map_ids-changed_at, steps_seen, alike_of}

-- a change of one region that keeps its id, its container and its target
pub record KeepsSteps (g : Node → Node) : Type 0 where
  pub id : (n : Node) → (g n).id ≡ n.id
  pub parent : (n : Node) → (g n).parent ≡ n.parent
  pub target : (n : Node) → target_of (g n).kind ≡ target_of n.kind

alike_trans : (xs ys zs : List RegionId) → Alike xs ys → Alike ys zs → Alike xs zs
alike_trans xs ys zs h k g = ((h g).0 ∙ (k g).0, (h g).1 ∙ (k g).1)

alike_back : (xs ys : List RegionId) → Alike xs ys → Alike ys xs
alike_back xs ys h g = (sym (h g).0, sym (h g).1)

module _ (r : RegionId) (g : Node → Node) (keeps : KeepsSteps g) where
  abbrev one : Node → Node
  one n = cond (has_id r n) (g n) n

  one_id : (n : Node) → (one n).id ≡ n.id
  one_id n = elim (has_id r n) as (λ b. (cond b (g n) n).id ≡ n.id) [ true ↦ keeps.id n | false ↦ refl ]

  one_parent : (n : Node) → (one n).parent ≡ n.parent
  one_parent n = elim (has_id r n) as (λ b. (cond b (g n) n).parent ≡ n.parent) [ true ↦ keeps.parent n | false ↦ refl ]

  -- the same regions are in each container
  ids_kept : (q : RegionId) (nodes : List Node) →
      map (λ (n : Node). n.id) (filter (is_child_of q) (changed_at r g nodes)) ≡ map (λ (n : Node). n.id) (filter (is_child_of q) nodes)
  ids_kept q [] = refl
  ids_kept q (n ∷ ns) =
      let ih = ids_kept q ns in
      let same : is_child_of q (one n) ≡ is_child_of q n = ap (is_in q) (one_parent n) in
      let id = one_id n in
      rw same (elim (is_child_of q n) as (λ b. map (λ (m : Node). m.id)
      (cond b (one n ∷ filter (is_child_of q) (changed_at r g ns)) (filter (is_child_of q) (changed_at r g ns))) ≡ map (λ (m : Node). m.id)
      (cond b (n ∷ filter (is_child_of q) ns) (filter (is_child_of q) ns))) [ true ↦ cc | false ↦ ih ])

  children_alike : (q : RegionId) (nodes : List Node) →
      Alike (map (λ (n : Node). n.id) (children_of (changed_at r g nodes) q)) (map (λ (n : Node). n.id) (children_of nodes q))
  children_alike q nodes =
      let new = filter (is_child_of q) (changed_at r g nodes) in
      let old = filter (is_child_of q) nodes in
      alike_trans _ _ _ (alike-sorted_by trial_order new)
      (alike_trans _ _ _ (alike_of (ids_kept q nodes)) (alike_back _ _ (alike-sorted_by trial_order old)))

  steps_at_alike : (nodes : List Node) (k : Kind) (n : Node) → Alike (steps_at (changed_at r g nodes) k n) (steps_at nodes k n)
  steps_at_alike nodes (Alias target offset) n w = (refl, refl)
  steps_at_alike nodes _ n w = children_alike n.id nodes w

  steps_from_alike : (nodes : List Node) (o : Option Node) → Alike (steps_from (changed_at r g nodes) o) (steps_from nodes o)
  steps_from_alike nodes None w = (refl, refl)
  steps_from_alike nodes (Some n) w = steps_at_alike nodes n.kind n w

  -- each region leads to the same ones
  pub steps_alike_kept : (nodes : List Node) (q : RegionId) → Alike (steps_of (changed_at r g nodes) q) (steps_of nodes q)
  steps_alike_kept nodes q =
      alike_trans _ _ _
      (alike_of (ap (steps_from (changed_at r g nodes)) (node_of-changed_at r g keeps.id nodes q)
      ∙ steps_seen (changed_at r g nodes) r g keeps.id keeps.target (node_of nodes q)))
      (steps_from_alike nodes (node_of nodes q))

  pub depth_of-kept : (nodes : List Node) (q : RegionId) → depth_of (changed_at r g nodes) q ≡ depth_of nodes q
  depth_of-kept nodes q = depth_by-alike (steps_of (changed_at r g nodes)) (steps_of nodes) (steps_alike_kept nodes) longest q

  pub weight_of-kept : (nodes : List Node) (q : RegionId) → weight_of (changed_at r g nodes) q ≡ weight_of nodes q
  weight_of-kept nodes q = weight_by-alike (steps_of (changed_at r g nodes)) (steps_of nodes) (steps_alike_kept nodes) longest q

  pub greatest_depth-kept : (nodes : List Node) → greatest_depth (changed_at r g nodes) ≡ greatest_depth nodes
  greatest_depth-kept nodes =
      ap greatest (map_ids-changed_at (depth_of (changed_at r g nodes)) r g keeps.id nodes
      ∙ map_agree (λ (n : Node). depth_of (changed_at r g nodes) n.id) (λ (n : Node). depth_of nodes n.id) nodes
      (every_of _ (λ n. depth_of-kept nodes n.id) nodes))

  pub greatest_weight-kept : (nodes : List Node) → greatest_weight (changed_at r g nodes) ≡ greatest_weight nodes
  greatest_weight-kept nodes =
      ap greatest (map_ids-changed_at (weight_of (changed_at r g nodes)) r g keeps.id nodes
      ∙ map_agree (λ (n : Node). weight_of (changed_at r g nodes) n.id) (λ (n : Node). weight_of nodes n.id) nodes
      (every_of _ (λ n. weight_of-kept nodes n.id) nodes))
