-- Laws of a region that is made: it leads on as it should, and nothing leads to it.
use Rattle.std.proofs.Common.{◌≡◌, ℕ, ◌+◌, ◌<◌, ◌≤◌, max, true, false, cond, List, [], ◌∷◌, ◌++◌, map, Option, Some, None, refl, sym, ap, ◌∙◌, arith}
use Rattle.std.proofs.lemmas.Bool.Decides.{nat_tests}
use Rattle.mem_base.specs.declared.map.ids.RegionId.{RegionId}
use Rattle.mem_base.specs.declared.map.forests.Node.{Node}
use Rattle.mem_base.specs.declared.map.forests.Forest.{Forest}
use Rattle.mem_base.specs.declared.map.kinds.Kind.{Kind}
use Rattle.mem_base.specs.declared.map.kinds.Kind.TheVariants.{Alias}
use Rattle.mem_base.specs.lists.Every.{Every}
use Rattle.mem_base.specs.map.Kinds.{is_alias}
use Rattle.mem_base.specs.map.Region.{has_id, node_of, is_child_of}
use Rattle.mem_base.specs.map.Order.{children_of}
use Rattle.mem_base.specs.map.Forest.{IsOrderedForest, IsTargetBefore}
use Rattle.mem_base.specs.map.Steps.{longest, steps_of, steps_from, steps_at, greatest, depth_by, weight_by, depth_of, weight_of, greatest_depth, greatest_weight}
use Rattle.mem_base.proofs.EveryLaws.{weaker, every_map}
use Rattle.mem_base.proofs.ForestLaws.{children_of-made, every_node_of, every_child, no_children}
use Rattle.mem_base.proofs.StepLaws.{map_agree, depth_by-inside, weight_by-inside, depth_by-end, weight_by-end, depth_by-one, weight_by-one}
use Rattle.mem_base.proofs.StepLaws.{depth_by-further, weight_by-further, greatest_push}
use Rattle.mem_base.proofs.JoinLaws.{steps_alike, steps_children, within_forest}
use Rattle.mem_base.specs.map.Limits.{most_depth, most_weight}

node_of-push : (nodes : List Node) (n : Node) (q : RegionId) → has_id q n ≡ false → node_of (nodes ++ n ∷ []) q ≡ node_of nodes q
node_of-push [] n q e = rw e refl
node_of-push (m ∷ ms) n q e = let ih = node_of-push ms n q e in
    elim (has_id q m) as (λ b. cond b (Some m) (node_of (ms ++ n ∷ []) q) ≡ cond b (Some m) (node_of ms q)) [ true ↦ refl | false ↦ ih ]

node_of-last : (nodes : List Node) (n : Node) (q : RegionId) → has_id q n ≡ true → Every (λ m. has_id q m ≡ false) nodes → node_of (nodes ++ n ∷ []) q ≡ Some n
node_of-last [] n q e h = rw e refl
node_of-last (m ∷ ms) n q e h = let t = h.0 in rw t (node_of-last ms n q e h.1)

steps_before : (nodes : List Node) (made : ℕ) (k : Kind) (n : Node) → IsTargetBefore made k → Every (λ m. m.id.0 < made) nodes →
    Every (λ (r : RegionId). r.0 < made) (steps_at nodes k n)
steps_before nodes made (Alias target offset) n t h = (t, tt)
steps_before nodes made _ n t h = every_map (λ (r : RegionId). r.0 < made) (λ (c : Node). c.id) (children_of nodes n.id)
    (every_child (λ m. m.id.0 < made) n.id nodes (weaker (λ m. m.id.0 < made) (λ m. is_child_of n.id m ≡ true → m.id.0 < made) (λ m l e. l) nodes h))

module _ (f : Forest) (h : IsOrderedForest f) (n : Node) (fresh : n.id.0 ≡ f.made) (free : n.parent ≡ None) where
  abbrev new : List Node
  new = f.nodes ++ n ∷ []

  steps_from_made : (o : Option Node) → steps_from new o ≡ steps_from f.nodes o
  steps_from_made None = refl
  steps_from_made (Some m) = steps_alike new f.nodes m.kind m (children_of-made f.nodes n m.id free)

  same_steps : (q : RegionId) → q.0 < f.made → steps_of new q ≡ steps_of f.nodes q
  same_steps q l =
      let other : has_id q n ≡ false = grind (arith, nat_tests) in
      ap (steps_from new) (node_of-push f.nodes n q other) ∙ steps_from_made (node_of f.nodes q)

  closed_from : (q : RegionId) (o : Option Node) → node_of f.nodes q ≡ o → Every (λ (r : RegionId). r.0 < f.made) (steps_from f.nodes o)
  closed_from q None e = tt
  closed_from q (Some m) e = steps_before f.nodes f.made m.kind m
      (every_node_of (λ x. IsTargetBefore f.made x.kind) f.nodes q m e h.targets_before).0 h.made_before

  -- the regions from before stay as deep and as wide as they were
  pub depth_made : (most : ℕ) (q : RegionId) → q.0 < f.made → depth_by (steps_of new) most q ≡ depth_by (steps_of f.nodes) most q
  depth_made = depth_by-inside (steps_of new) (steps_of f.nodes) (λ r. r.0 < f.made) same_steps (λ q l. closed_from q (node_of f.nodes q) refl)

  pub weight_made : (most : ℕ) (q : RegionId) → q.0 < f.made → weight_by (steps_of new) most q ≡ weight_by (steps_of f.nodes) most q
  weight_made = weight_by-inside (steps_of new) (steps_of f.nodes) (λ r. r.0 < f.made) same_steps (λ q l. closed_from q (node_of f.nodes q) refl)

  pub greatest_depth_made : greatest_depth new ≡ max (greatest_depth f.nodes) (depth_of new n.id)
  greatest_depth_made =
      greatest_push (λ (m : Node). depth_of new m.id) f.nodes n
      ∙ ap (λ xs. max (greatest xs) (depth_of new n.id))
      (map_agree (λ (m : Node). depth_of new m.id) (λ (m : Node). depth_of f.nodes m.id) f.nodes
      (weaker (λ m. m.id.0 < f.made) _ (λ m l. depth_made longest m.id l) f.nodes h.made_before))

  pub greatest_weight_made : greatest_weight new ≡ max (greatest_weight f.nodes) (weight_of new n.id)
  greatest_weight_made =
      greatest_push (λ (m : Node). weight_of new m.id) f.nodes n
      ∙ ap (λ xs. max (greatest xs) (weight_of new n.id))
      (map_agree (λ (m : Node). weight_of new m.id) (λ (m : Node). weight_of f.nodes m.id) f.nodes
      (weaker (λ m. m.id.0 < f.made) _ (λ m l. weight_made longest m.id l) f.nodes h.made_before))

  found_made : node_of new n.id ≡ Some n
  found_made =
      let itself : has_id n.id n ≡ true = grind (arith, nat_tests) in
      node_of-last f.nodes n n.id itself (weaker (λ m. m.id.0 < f.made) (λ m. has_id n.id m ≡ false) (λ m l. grind (arith, nat_tests)) f.nodes h.made_before)

  -- a region that is no alias is made without steps
  no_steps : is_alias n.kind ≡ false → steps_of new n.id ≡ []
  no_steps e =
      ap (steps_from new) found_made ∙ steps_children new n.kind n e
      ∙ ap (map (λ (c : Node). c.id)) (children_of-made f.nodes n n.id free ∙ no_children f n.id h (omega arith))

  pub shallow_made : is_alias n.kind ≡ false → greatest_depth new ≤ most_depth
  shallow_made e = let a = greatest_depth_made in let b = depth_by-end (steps_of new) longest n.id (no_steps e) in let c = h.shallow in omega arith

  pub narrow_made : is_alias n.kind ≡ false → greatest_weight new ≤ most_weight
  narrow_made e = let a = greatest_weight_made in let b = weight_by-end (steps_of new) longest n.id (no_steps e) in let c = h.narrow in omega arith

  -- an alias is made one deeper and one wider than its target
  module _ (target : RegionId) (offset : ℕ) (kind : n.kind ≡ Alias target offset) (before : target.0 < f.made) where
    one_step : steps_of new n.id ≡ target ∷ []
    one_step = ap (steps_from new) found_made ∙ ap (λ k. steps_at new k n) kind

    pub depth_alias : depth_of new n.id ≡ depth_of f.nodes target + 1
    depth_alias =
        depth_by-one (steps_of new) 63 n.id target one_step
        ∙ ap (λ k. k + 1) (depth_made 63 target before ∙ sym (depth_by-further (steps_of f.nodes) 63 longest target (omega arith) (within_forest f h target)))

    pub weight_alias : weight_of new n.id ≡ weight_of f.nodes target + 1
    weight_alias =
        weight_by-one (steps_of new) 63 n.id target one_step
        ∙ ap (λ k. k + 1) (weight_made 63 target before ∙ sym (weight_by-further (steps_of f.nodes) 63 longest target (omega arith) (within_forest f h target)))
