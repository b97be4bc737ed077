-- Laws of calls that change one region but not its place: the children of each region stay.
use Rattle.std.proofs.Common.{◌≡◌, true, false, cond, List, [], ◌∷◌, map, refl, ap, ◌∙◌}
use Rattle.std.specs.Prelude.{filter}
use Rattle.std.specs.Ordering.{is_lt}
use Rattle.mem_base.specs.declared.map.ids.RegionId.{RegionId}
use Rattle.mem_base.specs.declared.map.forests.Node.{Node}
use Rattle.mem_base.specs.map.Kinds.{target_of}
use Rattle.mem_base.specs.map.Region.{has_id, is_in, is_child_of}
use Rattle.mem_base.specs.lists.Sorting.{put_by, sorted_by}
use Rattle.mem_base.specs.map.Order.{trial_order, children_of}
use Rattle.mem_base.specs.map.Changes.{changed_at}

-- a change of one region that keeps its id, its place and its target
pub record IsField (g : Node → Node) : Type 0 where
  pub id : (n : Node) → (g n).id ≡ n.id
  pub parent : (n : Node) → (g n).parent ≡ n.parent
  pub priority : (n : Node) → (g n).priority ≡ n.priority
  pub placing : (n : Node) → (g n).placing ≡ n.placing
  pub target : (n : Node) → target_of (g n).kind ≡ target_of n.kind

module _ (r : RegionId) (g : Node → Node) (field : IsField g) where
  abbrev one : Node → Node
  one n = cond (has_id r n) (g n) n

  one_id : (n : Node) → (one n).id ≡ n.id
  one_id n = elim (has_id r n) as (λ b. (cond b (g n) n).id ≡ n.id) [ true ↦ field.id n | false ↦ refl ]

  one_parent : (n : Node) → (one n).parent ≡ n.parent
  one_parent n = elim (has_id r n) as (λ b. (cond b (g n) n).parent ≡ n.parent) [ true ↦ field.parent n | false ↦ refl ]

  one_priority : (n : Node) → (one n).priority ≡ n.priority
  one_priority n = elim (has_id r n) as (λ b. (cond b (g n) n).priority ≡ n.priority) [ true ↦ field.priority n | false ↦ refl ]

  one_placing : (n : Node) → (one n).placing ≡ n.placing
  one_placing n = elim (has_id r n) as (λ b. (cond b (g n) n).placing ≡ n.placing) [ true ↦ field.placing n | false ↦ refl ]

  one_order : (x y : Node) → trial_order (one x) (one y) ≡ trial_order x y
  one_order x y =
      let a = one_priority x in
      let b = one_priority y in
      let c = one_placing x in
      let d = one_placing y in
      simp (a, b, c, d)

  put_one : (x : Node) (l : List Node) → put_by trial_order (one x) (map one l) ≡ map one (put_by trial_order x l)
  put_one x [] = refl
  put_one x (y ∷ ys) =
      let same = ap is_lt (one_order x y) in
      let ih = put_one x ys in
      rw same (elim (is_lt (trial_order x y)) as
      (λ b. cond b (one x ∷ one y ∷ map one ys) (one y ∷ put_by trial_order (one x) (map one ys)) ≡ map one
      (cond b (x ∷ y ∷ ys) (y ∷ put_by trial_order x ys))) [ true ↦ refl | false ↦ ap (λ l. one y ∷ l) ih ])

  sorted_one : (l : List Node) → sorted_by trial_order (map one l) ≡ map one (sorted_by trial_order l)
  sorted_one [] = refl
  sorted_one (x ∷ xs) = ap (put_by trial_order (one x)) (sorted_one xs) ∙ put_one x (sorted_by trial_order xs)

  filter_one : (q : RegionId) (l : List Node) → filter (is_child_of q) (map one l) ≡ map one (filter (is_child_of q) l)
  filter_one q [] = refl
  filter_one q (x ∷ xs) =
      let ih = filter_one q xs in
      let same : is_child_of q (one x) ≡ is_child_of q x = ap (is_in q) (one_parent x) in
      rw same (elim (is_child_of q x) as (λ b. cond b (one x ∷ filter (is_child_of q) (map one xs)) (filter (is_child_of q) (map one xs)) ≡ map one
      (cond b (x ∷ filter (is_child_of q) xs) (filter (is_child_of q) xs))) [ true ↦ ap (λ l. one x ∷ l) ih | false ↦ ih ])

  -- the children are the same regions in the same order
  pub children_field : (nodes : List Node) (q : RegionId) → children_of (changed_at r g nodes) q ≡ map one (children_of nodes q)
  children_field nodes q = ap (sorted_by trial_order) (filter_one q nodes) ∙ sorted_one (filter (is_child_of q) nodes)

  ids_one : (l : List Node) → map (λ (c : Node). c.id) (map one l) ≡ map (λ (c : Node). c.id) l
  ids_one [] = refl
  ids_one (x ∷ xs) = let a = one_id x in let b = ids_one xs in cc

  pub child_ids_field : (nodes : List Node) (q : RegionId) →
      map (λ (c : Node). c.id) (children_of (changed_at r g nodes) q) ≡ map (λ (c : Node). c.id) (children_of nodes q)
  child_ids_field nodes q = ap (map (λ (c : Node). c.id)) (children_field nodes q) ∙ ids_one (children_of nodes q)
