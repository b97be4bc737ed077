-- Laws of a child that is moved in its container.
use Rattle.std.proofs.Common.{◌≡◌, ◌≢◌, ℕ, ◌+◌, ◌<◌, ◌≤◌, true, false, not, cond, eqb, List, [], ◌∷◌, Option, Some, None, refl, sym, ap, subst, ◌∙◌, arith}
use Rattle.std.specs.Prelude.{filter, option_map}
use Rattle.std.proofs.lemmas.Bool.Decides.{nat_tests}
use Rattle.std.specs.declared.cmp.Ordering.TheVariants.{Equal}
use Rattle.mem_base.specs.declared.map.ids.RegionId.{RegionId}
use Rattle.mem_base.specs.declared.map.forests.Node.{Node}
use Rattle.mem_base.specs.declared.map.forests.Forest.{Forest}
use Rattle.mem_base.specs.declared.map.calls.Call.TheVariants as calls
use Rattle.mem_base.specs.lists.Every.{Every}
use Rattle.mem_base.specs.map.Kinds.{target_of}
use Rattle.mem_base.specs.map.Region.{has_id, node_of, is_in, is_child_of}
use Rattle.mem_base.specs.lists.Sorting.{put_by, sorted_by}
use Rattle.mem_base.specs.map.Order.{trial_order, children_of}
use Rattle.mem_base.specs.map.Forest.{IsOrderedForest, IsPlacedBefore, IsTargetBefore}
use Rattle.mem_base.specs.map.Changes.{changed_at, changed, moved, moves}
use Rattle.mem_base.specs.map.Calls.{counted}
use Rattle.mem_base.proofs.EveryLaws.{weaker}
use Rattle.mem_base.proofs.ForestLaws.{every_changed_at, ascending_changed_at, only_node, every_node_of, child_before, trial_apart}
use Rattle.mem_base.proofs.ForestLaws.{children_of-joined, filter-changed_at}
use Rattle.mem_base.proofs.DelLaws.{children_of-left}
use Rattle.mem_base.proofs.JoinLaws.{node_of-changed_at}
use Rattle.map_laws.proofs.LeadLaws.{KeepsSteps, greatest_depth-kept, greatest_weight-kept}

-- what holds of each region, and of the changed one, holds after the change
pub every_changed_one : (P : Node → Type 0) (r : RegionId) (g : Node → Node) (m : Node) → P (g m) → (nodes : List Node) →
    Every (λ n. has_id r n ≡ true → n ≡ m) nodes → Every P nodes → Every P (changed_at r g nodes)
every_changed_one P r g m k [] only h = tt
every_changed_one P r g m k (n ∷ ns) only h = (
  elim (has_id r n) as (λ b. has_id r n ≡ b → P (cond b (g n) n)) [
    | true ↦ λ e. subst (λ x. P (g x)) (sym (only.0 e)) k
    | false ↦ λ e. h.0
  ] refl,
  every_changed_one P r g m k ns only.1 h.1,
)

-- two changes that agree on the region make one list
changed_at-agree : (r : RegionId) (g h : Node → Node) (m : Node) → g m ≡ h m → (nodes : List Node) → Every (λ n. has_id r n ≡ true → n ≡ m) nodes →
    changed_at r g nodes ≡ changed_at r h nodes
changed_at-agree r g h m e [] only = refl
changed_at-agree r g h m e (n ∷ ns) only =
    let ih = changed_at-agree r g h m e ns only.1 in
    elim (has_id r n) as (λ b. has_id r n ≡ b → cond b (g n) n ∷ changed_at r g ns ≡ cond b (h n) n ∷ changed_at r h ns) [
      | true ↦ λ t. let same = only.0 t in let x = ap g same in let y = ap h same in cc
      | false ↦ λ t. ap (λ l. n ∷ l) ih
    ] refl

changed_at-same : (r : RegionId) (nodes : List Node) → changed_at r (λ n. n) nodes ≡ nodes
changed_at-same r [] = refl
changed_at-same r (n ∷ ns) = let ih = changed_at-same r ns in
    elim (has_id r n) as (λ b. cond b n n ∷ changed_at r (λ x. x) ns ≡ n ∷ ns) [ true ↦ ap (λ l. n ∷ l) ih | false ↦ ap (λ l. n ∷ l) ih ]

-- two changes of one region, one after the other
changed_at-twice : (r : RegionId) (g h : Node → Node) → ((n : Node) → (g n).id ≡ n.id) → (nodes : List Node) →
    changed_at r h (changed_at r g nodes) ≡ changed_at r (λ n. h (g n)) nodes
changed_at-twice r g h k [] = refl
changed_at-twice r g h k (n ∷ ns) =
    let ih = changed_at-twice r g h k ns in
    let here : has_id r (g n) ≡ has_id r n = ap (λ (x : RegionId). eqb x.0 r.0) (k n) in
    elim (has_id r n) as (λ b. has_id r n ≡ b →
    cond (has_id r (cond b (g n) n)) (h (cond b (g n) n)) (cond b (g n) n) ∷ changed_at r h (changed_at r g ns) ≡ cond b (h (g n)) n ∷ changed_at r
    (λ x. h (g x)) ns) [
      | true ↦ λ t. let u : has_id r (g n) ≡ true = here ∙ t in rw u (ap (λ l. h (g n) ∷ l) ih)
      | false ↦ λ t. rw t (ap (λ l. n ∷ l) ih)
    ] refl

pub moved_id : (offset placing : ℕ) (n : Node) → (moved offset placing n).id ≡ n.id
moved_id offset placing n = elim (eqb n.offset offset) as
    (λ b. (cond b n (record n { offset = offset; placing = placing })).id ≡ n.id) [ true ↦ refl | false ↦ refl ]

moved_parent : (offset placing : ℕ) (n : Node) → (moved offset placing n).parent ≡ n.parent
moved_parent offset placing n = elim (eqb n.offset offset) as
    (λ b. (cond b n (record n { offset = offset; placing = placing })).parent ≡ n.parent) [ true ↦ refl | false ↦ refl ]

pub moved_kind : (offset placing : ℕ) (n : Node) → (moved offset placing n).kind ≡ n.kind
moved_kind offset placing n = elim (eqb n.offset offset) as
    (λ b. (cond b n (record n { offset = offset; placing = placing })).kind ≡ n.kind) [ true ↦ refl | false ↦ refl ]

pub moved_keeps : (offset placing : ℕ) → KeepsSteps (moved offset placing)
moved_keeps offset placing = record {
  id = moved_id offset placing;
  parent = moved_parent offset placing;
  target =
      λ n. ap target_of (moved_kind offset placing n);
}

few_moves : (offset : ℕ) (o : Option Node) → moves offset o ≤ 1
few_moves offset None = omega arith
few_moves offset (Some n) = elim (eqb n.offset offset) as (λ b. cond b 0 1 ≤ 1) [ true ↦ omega arith | false ↦ omega arith ]

sooner : (made placings placings' : ℕ) (p : Option RegionId) (placing : ℕ) → placings ≤ placings' → IsPlacedBefore made placings p placing →
    IsPlacedBefore made placings' p placing
sooner made placings placings' None placing l h = tt
sooner made placings placings' (Some p) placing l h = (h.0, omega arith)

-- a moved region has one of the placings that there are then
moved_before : (made placings offset : ℕ) (n : Node) → IsPlacedBefore made placings n.parent n.placing →
    IsPlacedBefore made (placings + moves offset (Some n)) (moved offset placings n).parent (moved offset placings n).placing
moved_before made placings offset n h =
    elim (eqb n.offset offset) as (λ b. IsPlacedBefore made (placings + cond b 0 1) (cond b n (record n { offset = offset; placing = placings })).parent
    (cond b n (record n { offset = offset; placing = placings })).placing) [
      | true ↦ sooner made placings (placings + 0) n.parent n.placing (omega arith) h
      | false ↦ latest made placings n.parent n.placing h
    ]
  where
    latest : (made placings : ℕ) (p : Option RegionId) (placing : ℕ) → IsPlacedBefore made placings p placing → IsPlacedBefore made (placings + 1) p placings
    latest made placings None placing h = tt
    latest made placings (Some p) placing h = (h.0, omega arith)

pub move_forest : (f : Forest) (child : RegionId) (offset : ℕ) (m : Node) → IsOrderedForest f → node_of f.nodes child ≡ Some m →
    IsOrderedForest (counted (changed f (calls.Move child offset)))
move_forest f child offset m h e =
    let g = moved offset f.placings in
    let keeps = moved_keeps offset f.placings in
    let only = only_node f.nodes child m h.ascending e in
    let few = few_moves offset (node_of f.nodes child) in
    let here = (every_node_of (λ n. IsPlacedBefore f.made f.placings n.parent n.placing) f.nodes child m e h.placed_before).0 in
    let then : IsPlacedBefore f.made (f.placings + moves offset (node_of f.nodes child)) (g m).parent (g m).placing =
    subst (λ o. IsPlacedBefore f.made (f.placings + moves offset o) (g m).parent (g m).placing) (sym e) (moved_before f.made f.placings offset m here) in
    record {
      ascending = ascending_changed_at child g keeps.id f.nodes h.ascending;
      made_before = every_changed_at (λ n. n.id.0 < f.made) child g (λ n l. subst (λ (q : RegionId). q.0 < f.made) (sym (keeps.id n)) l) f.nodes h.made_before;
      placed_before = every_changed_one (λ n. IsPlacedBefore f.made (f.placings + moves offset (node_of f.nodes child)) n.parent n.placing) child g m then
          f.nodes only (weaker (λ n. IsPlacedBefore f.made f.placings n.parent n.placing)
          (λ n. IsPlacedBefore f.made (f.placings + moves offset (node_of f.nodes child)) n.parent n.placing)
          (λ n w. sooner f.made f.placings (f.placings + moves offset (node_of f.nodes child)) n.parent n.placing (omega arith) w) f.nodes h.placed_before);
      few_placings = let l = h.few_placings in omega arith;
      targets_before = every_changed_at (λ n. IsTargetBefore f.made n.kind) child g
          (λ n w. subst (λ k. IsTargetBefore f.made k) (sym (moved_kind offset f.placings n)) w) f.nodes h.targets_before;
      shallow = let d = greatest_depth-kept child g keeps f.nodes in let l = h.shallow in omega arith;
      narrow = let w = greatest_weight-kept child g keeps f.nodes in let l = h.narrow in omega arith;
    }

-- a move to the offset where the region is changes nothing
pub unmoved : (f : Forest) (child : RegionId) (offset : ℕ) (m : Node) → IsOrderedForest f → node_of f.nodes child ≡ Some m → eqb m.offset offset ≡ true →
    changed_at child (moved offset f.placings) f.nodes ≡ f.nodes
unmoved f child offset m h e same =
    let here : moved offset f.placings m ≡ m = ap (λ b. cond b m (record m { offset = offset; placing = f.placings })) same in
    changed_at-agree child (moved offset f.placings) (λ n. n) m here f.nodes (only_node f.nodes child m h.ascending e) ∙ changed_at-same child f.nodes

module _ (f : Forest) (h : IsOrderedForest f) (child : RegionId) (offset : ℕ) (m : Node) (at_child : node_of f.nodes child ≡ Some m)
    (parent : RegionId) (in_parent : m.parent ≡ Some parent) where
  abbrev taken : Node → Node
  taken n = record n { parent = None }

  abbrev put : Node → Node
  put n = moved offset f.placings (record n { parent = m.parent })

  abbrev others : List Node
  others = changed_at child taken f.nodes

  -- a move is the region taken out, and put in at its new place
  two_steps : changed_at child put others ≡ changed_at child (moved offset f.placings) f.nodes
  two_steps =
      changed_at-twice child taken put (λ n. refl) f.nodes
      ∙ changed_at-agree child (λ n. put (taken n)) (moved offset f.placings) m refl f.nodes (only_node f.nodes child m h.ascending at_child)

  taken_there : node_of others child ≡ Some (taken m)
  taken_there =
      let found : has_id child m ≡ true = (every_node_of (λ n. n.id.0 < f.made) f.nodes child m at_child h.made_before).1 in
      node_of-changed_at child taken (λ n. refl) f.nodes child
      ∙ ap (option_map (λ (n : Node). cond (has_id child n) (taken n) n)) at_child
      ∙ ap (λ b. Some (cond b (taken m) m)) found

  -- the other containers keep their children
  pub children_elsewhere : (q : RegionId) → q.0 ≢ parent.0 → children_of (changed_at child (moved offset f.placings) f.nodes) q ≡ children_of f.nodes q
  children_elsewhere q k =
      let other : is_in q (Some parent) ≡ false = grind (arith, nat_tests) in
      let only = only_node f.nodes child m h.ascending at_child in
      let out : is_child_of q m ≡ false = ap (is_in q) in_parent ∙ other in
      ap (sorted_by trial_order) (filter-changed_at (is_child_of q) child (moved offset f.placings) f.nodes
      (weaker (λ n. has_id child n ≡ true → n ≡ m)
      (λ n. has_id child n ≡ true → (is_child_of q n ≡ false) × (is_child_of q (moved offset f.placings n) ≡ false))
      (λ n w t. (ap (is_child_of q) (w t) ∙ out, ap (is_in q) (moved_parent offset f.placings n) ∙ ap (is_child_of q) (w t) ∙ out)) f.nodes only))

  -- in its container the region is taken out, and put in at its place, the last placed of all
  pub children_there : eqb m.offset offset ≡ false →
      children_of (changed_at child (moved offset f.placings) f.nodes) parent ≡ put_by trial_order (moved offset f.placings m)
      (filter (λ n. not (has_id child n)) (children_of f.nodes parent))
  children_there differs =
      let inside : is_in parent (Some parent) ≡ true = grind (arith, nat_tests) in
      let joins : is_child_of parent (put (taken m)) ≡ true = ap (is_in parent) (moved_parent offset f.placings m ∙ in_parent) ∙ inside in
      let last : (put (taken m)).placing ≡ f.placings = ap (λ b. (cond b m (record m { offset = offset; placing = f.placings })).placing) differs in
      let before = weaker (λ x. is_child_of parent x ≡ true → (parent.0 < f.made) × (x.placing < f.placings))
      (λ x. is_child_of parent x ≡ true → x.placing < f.placings) (λ x w t. (w t).1) f.nodes (child_before f parent h) in
      let left = every_changed_at (λ x. is_child_of parent x ≡ true → x.placing < f.placings) child taken (λ n w t. cc) f.nodes before in
      let apart = weaker (λ x. is_child_of parent x ≡ true → x.placing < f.placings)
      (λ x. is_child_of parent x ≡ true → trial_order x (put (taken m)) ≢ Equal)
      (λ x w t. trial_apart x (put (taken m)) (let l = w t in omega arith)) others left in
      ap (λ l. children_of l parent) (sym two_steps)
      ∙ children_of-joined child parent put (taken m) others taken_there refl joins (ascending_changed_at child taken (λ n. refl) f.nodes h.ascending) apart
      ∙ ap (put_by trial_order (moved offset f.placings m)) (children_of-left child taken (λ n. refl) f.nodes parent)
