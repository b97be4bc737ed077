-- Laws of forests and of what a call makes of them.
use Rattle.std.proofs.Common.{◌≡◌, ◌≢◌, ℕ, zero, suc, ◌+◌, ◌<◌, ◌≤◌, Bool, true, false, cond, ℤ, List, [], ◌∷◌, ◌++◌, length, get_or, set}
use Rattle.std.proofs.Common.{drop, map, Option, Some, None, refl, sym, ap, subst, ◌∙◌, arith, add-one}
use Rattle.std.proofs.lemmas.Bool.Decides.{nat_tests}
use Rattle.std.specs.Prelude.{filter, is_some}
use Rattle.std.specs.declared.cmp.Ordering.{Ordering}
use Rattle.std.specs.declared.cmp.Ordering.TheVariants.{Less, Equal, Greater}
use Rattle.std.specs.Ordering.{nat_cmp, int_cmp, ordering_then, is_lt}
use Rattle.std.specs.Cmp.{IsTotalOrder}
use Rattle.std.proofs.lemmas.Cmp.{then_total, on_total, back_total, nat_cmp_total, int_cmp_total}
use Rattle.mem_base.specs.declared.map.ids.RegionId.{RegionId}
use Rattle.mem_base.specs.declared.map.forests.Node.{Node}
use Rattle.mem_base.specs.declared.map.forests.Forest.{Forest}
use Rattle.mem_base.specs.lists.Every.{Every}
use Rattle.mem_base.specs.map.Region.{has_id, node_of, is_in, is_child_of, IsAscending}
use Rattle.mem_base.specs.lists.Sorting.{put_by, sorted_by}
use Rattle.mem_base.specs.map.Order.{trial_order, children_of}
use Rattle.mem_base.specs.map.Forest.{IsPlacedBefore, IsTargetBefore, IsOrderedForest}
use Rattle.mem_base.specs.declared.map.kinds.Kind.TheVariants.{Alias}
use Rattle.std.specs.Prelude.{if◌then◌else◌}
use Rattle.mem_base.specs.declared.map.kinds.Kind.{Kind}
use Rattle.mem_base.specs.declared.map.calls.Call.TheVariants as calls
use Rattle.mem_base.specs.map.Changes.{changed_at, changed, placed}
use Rattle.mem_base.specs.map.Calls.{counted}
use Rattle.mem_base.specs.map.Steps.{greatest_depth, greatest_weight}
use Rattle.mem_base.specs.map.Limits.{most_depth, most_weight}
use Rattle.mem_base.proofs.EveryLaws.{weaker, both, every_push, every_at}
use Rattle.mem_base.proofs.SortingLaws.{put_by-swap}

pub trial_total : IsTotalOrder trial_order
trial_total = then_total (back_total (on_total (λ (n : Node). n.priority) int_cmp_total)) (back_total (on_total (λ (n : Node). n.placing) nat_cmp_total))

apart_then : (o q : Ordering) → q ≡ Greater → ordering_then o q ≢ Equal
apart_then Less q e h = cc
apart_then Equal q e h = cc
apart_then Greater q e h = cc

-- a region placed earlier does not tie with one placed later
pub trial_apart : (x y : Node) → x.placing < y.placing → trial_order x y ≢ Equal
trial_apart x y l = apart_then (int_cmp y.priority x.priority) (nat_cmp y.placing x.placing) (grind (arith, nat_tests))

-- no region has this id
abbrev pub IsAbsent : RegionId → List Node → Type 0
IsAbsent r nodes = Every (λ n. has_id r n ≡ false) nodes

pub changed_at-absent : (r : RegionId) (g : Node → Node) (nodes : List Node) → IsAbsent r nodes → changed_at r g nodes ≡ nodes
changed_at-absent r g [] h = refl
changed_at-absent r g (n ∷ ns) h = let e = h.0 in let t = changed_at-absent r g ns h.1 in simp (e, t)

-- the regions after one have other ids
pub absent_after : (r : RegionId) (n : Node) (ns : List Node) → has_id r n ≡ true → Every (λ m. n.id.0 < m.id.0) ns → IsAbsent r ns
absent_after r n ns e h = weaker (λ m. n.id.0 < m.id.0) (λ m. has_id r m ≡ false) (λ m l. grind (arith, nat_tests)) ns h

pub changed_at-set : (r : RegionId) (g : Node → Node) (nodes : List Node) (i : ℕ) (d : Node) → i < length nodes → has_id r (get_or nodes i d) ≡ true →
    IsAscending nodes → changed_at r g nodes ≡ set nodes i (g (get_or nodes i d))
changed_at-set r g [] i d l e h = absurd (omega arith)
changed_at-set r g (n ∷ ns) zero d l e h = let t = changed_at-absent r g ns (absent_after r n ns e h.0) in simp (e, t)
changed_at-set r g (n ∷ ns) (suc i) d l e h =
    let in_rest : i < length ns = omega arith in
    let above = every_at (λ m. n.id.0 < m.id.0) ns i d in_rest h.0 in
    let other : has_id r n ≡ false = grind (arith, nat_tests) in
    let t = changed_at-set r g ns i d in_rest e h.1 in
    simp (other, t)

-- a change that no test sees keeps what passes it
pub filter-changed_at : (p : Node → Bool) (r : RegionId) (g : Node → Node) (nodes : List Node) →
    Every (λ n. has_id r n ≡ true → (p n ≡ false) × (p (g n) ≡ false)) nodes → filter p (changed_at r g nodes) ≡ filter p nodes
filter-changed_at p r g [] h = refl
filter-changed_at p r g (n ∷ ns) h =
    let t = filter-changed_at p r g ns h.1 in
    elim (has_id r n) as (λ b. has_id r n ≡ b → filter p (cond b (g n) n ∷ changed_at r g ns) ≡ filter p (n ∷ ns)) [
      | true ↦ λ e. let q = h.0 e in let q0 = q.0 in let q1 = q.1 in simp (q0, q1, t)
      | false ↦ λ e. simp t
    ] refl

joined_here : (c p : RegionId) (g : Node → Node) (m : Node) (ms : List Node) → has_id c m ≡ true → is_child_of p m ≡ false → is_child_of p (g m) ≡ true →
    IsAscending (m ∷ ms) → children_of (changed_at c g (m ∷ ms)) p ≡ put_by trial_order (g m) (children_of (m ∷ ms) p)
joined_here c p g m ms t u v h =
    let rest = changed_at-absent c g ms (absent_after c m ms t h.0) in
    simp (t, u, v, rest)

joined_past : (c p : RegionId) (g : Node → Node) (n m : Node) (ms : List Node) → has_id c m ≡ false →
    (is_child_of p m ≡ true → trial_order m (g n) ≢ Equal) → children_of (changed_at c g ms) p ≡ put_by trial_order (g n) (children_of ms p) →
    children_of (changed_at c g (m ∷ ms)) p ≡ put_by trial_order (g n) (children_of (m ∷ ms) p)
joined_past c p g n m ms t k ih =
    elim (is_child_of p m) as (λ b. is_child_of p m ≡ b → children_of (changed_at c g (m ∷ ms)) p ≡ put_by trial_order (g n) (children_of (m ∷ ms) p)) [
      | true ↦ λ u. let swap = put_by-swap trial_order trial_total m (g n) (k u) (children_of ms p) in simp (t, u, ih) swap
      | false ↦ λ u. simp (t, u) ih
    ] refl

-- a region that is placed in a container joins the children there
pub children_of-joined : (c p : RegionId) (g : Node → Node) (n : Node) (nodes : List Node) → node_of nodes c ≡ Some n → is_child_of p n ≡ false →
    is_child_of p (g n) ≡ true → IsAscending nodes → Every (λ m. is_child_of p m ≡ true → trial_order m (g n) ≢ Equal) nodes →
    children_of (changed_at c g nodes) p ≡ put_by trial_order (g n) (children_of nodes p)
children_of-joined c p g n [] e u v h k = cc
children_of-joined c p g n (m ∷ ms) e u v h k =
    elim (has_id c m) as (λ b. has_id c m ≡ b → cond b (Some m) (node_of ms c) ≡ Some n →
    children_of (changed_at c g (m ∷ ms)) p ≡ put_by trial_order (g n) (children_of (m ∷ ms) p)) [
      | true ↦ λ t w.
          let same : n ≡ m = cc in
          let u' : is_child_of p m ≡ false = subst (λ v. is_child_of p v ≡ false) same u in
          let v' : is_child_of p (g m) ≡ true = subst (λ v. is_child_of p (g v) ≡ true) same v in
          subst (λ v. children_of (changed_at c g (m ∷ ms)) p ≡ put_by trial_order (g v) (children_of (m ∷ ms) p)) (sym same) (joined_here c p g m ms t u' v' h)
      | false ↦ λ t w. joined_past c p g n m ms t k.0 (children_of-joined c p g n ms w u v h.1 k.1)
    ] refl e

filter_made : (nodes : List Node) (n : Node) (r : RegionId) → n.parent ≡ None → filter (is_child_of r) (nodes ++ n ∷ []) ≡ filter (is_child_of r) nodes
filter_made [] n r e = simp e
filter_made (m ∷ ms) n r e = let ih = filter_made ms n r e in simp ih

-- a region that is made has no container
pub children_of-made : (nodes : List Node) (n : Node) (r : RegionId) → n.parent ≡ None → children_of (nodes ++ n ∷ []) r ≡ children_of nodes r
children_of-made nodes n r e = ap (sorted_by trial_order) (filter_made nodes n r e)

-- what holds of each region and of each as it would be changed holds after a change
pub every_changed_at : (P : Node → Type 0) (r : RegionId) (g : Node → Node) → ((n : Node) → P n → P (g n)) → (nodes : List Node) → Every P nodes →
    Every P (changed_at r g nodes)
every_changed_at P r g k [] h = tt
every_changed_at P r g k (n ∷ ns) h =
    (elim (has_id r n) as (λ b. P (cond b (g n) n)) [ true ↦ k n h.0 | false ↦ h.0 ], every_changed_at P r g k ns h.1)

ascending_push : (nodes : List Node) (n : Node) → Every (λ m. m.id.0 < n.id.0) nodes → IsAscending nodes → IsAscending (nodes ++ n ∷ [])
ascending_push [] n h k = (tt, tt)
ascending_push (m ∷ ms) n h k = (every_push (λ x. m.id.0 < x.id.0) ms n k.0 h.0, ascending_push ms n h.1 k.1)

-- a change that keeps ids keeps their order
pub ascending_changed_at : (r : RegionId) (g : Node → Node) → ((n : Node) → (g n).id ≡ n.id) → (nodes : List Node) → IsAscending nodes →
    IsAscending (changed_at r g nodes)
ascending_changed_at r g k [] h = tt
ascending_changed_at r g k (n ∷ ns) h =
    let keeps = every_changed_at (λ m. n.id.0 < m.id.0) r g (λ m l. let e = k m in subst (λ (q : RegionId). n.id.0 < q.0) (sym e) l) ns h.0 in
    let same : (if has_id r n then g n else n).id ≡ n.id = elim (has_id r n) as (λ b. (cond b (g n) n).id ≡ n.id) [ true ↦ k n | false ↦ refl ] in
    (subst (λ (q : RegionId). Every (λ m. q.0 < m.id.0) (changed_at r g ns)) (sym same) keeps, ascending_changed_at r g k ns h.1)

-- what holds of each region holds of the one with an id
pub every_node_of : (P : Node → Type 0) (nodes : List Node) (r : RegionId) (n : Node) → node_of nodes r ≡ Some n → Every P nodes → P n × (has_id r n ≡ true)
every_node_of P [] r n e h = cc
every_node_of P (m ∷ ms) r n e h =
    elim (has_id r m) as (λ b. has_id r m ≡ b → cond b (Some m) (node_of ms r) ≡ Some n → P n × (has_id r n ≡ true)) [
      | true ↦ λ t w. let same : m ≡ n = cc in subst (λ v. P v × (has_id r v ≡ true)) same (h.0, t)
      | false ↦ λ t w. every_node_of P ms r n w h.1
    ] refl e

later : (made made' placings placings' : ℕ) (p : Option RegionId) (placing : ℕ) → made ≤ made' → placings ≤ placings' →
    IsPlacedBefore made placings p placing → IsPlacedBefore made' placings' p placing
later made made' placings placings' None placing l k h = tt
later made made' placings placings' (Some p) placing l k h = (omega arith, omega arith)

later_target : (made : ℕ) (k : Kind) → IsTargetBefore made k → IsTargetBefore (made + 1) k
later_target made (Alias target offset) h = omega arith
later_target made _ h = tt

pub known_below : (f : Forest) (r : RegionId) → IsOrderedForest f → is_some (node_of f.nodes r) ≡ true → r.0 < f.made
known_below f r h e =
    elim (node_of f.nodes r) as (λ o. node_of f.nodes r ≡ o → is_some o ≡ true → r.0 < f.made) [
      | None ↦ λ q w. cc
      | Some n ↦ λ q w. let at_r = every_node_of (λ m. m.id.0 < f.made) f.nodes r n q h.made_before in grind (arith, nat_tests)
    ] refl e

pub added_forest : (f : Forest) (parent : RegionId) (offset : ℕ) (child : RegionId) (priority : ℤ) → IsOrderedForest f → parent.0 < f.made →
    greatest_depth (changed f (calls.Add parent offset child priority)).nodes ≤ most_depth →
    greatest_weight (changed f (calls.Add parent offset child priority)).nodes ≤ most_weight →
    IsOrderedForest (counted (changed f (calls.Add parent offset child priority)))
added_forest f parent offset child priority h l deep wide =
    let g = placed parent offset priority f.placings in
    record {
      ascending = ascending_changed_at child g (λ n. refl) f.nodes h.ascending;
      made_before = every_changed_at (λ n. n.id.0 < f.made) child g (λ n l. l) f.nodes h.made_before;
      placed_before = every_changed_at (λ n. IsPlacedBefore f.made (f.placings + 1) n.parent n.placing) child g (λ n w. (l, omega arith)) f.nodes
          (weaker (λ n. IsPlacedBefore f.made f.placings n.parent n.placing) (λ n. IsPlacedBefore f.made (f.placings + 1) n.parent n.placing)
          (λ n w. later f.made f.made f.placings (f.placings + 1) n.parent n.placing (omega arith) (omega arith) w) f.nodes h.placed_before);
      targets_before = every_changed_at (λ n. IsTargetBefore f.made n.kind) child g (λ n w. w) f.nodes h.targets_before;
      shallow = deep;
      narrow = wide;
      few_placings = let few = h.few_placings in omega arith;
    }

-- one more region without a container, of the next id
pub pushed_forest : (f : Forest) (n : Node) → IsOrderedForest f → n.id.0 ≡ f.made → n.parent ≡ None → IsTargetBefore f.made n.kind →
    greatest_depth (f.nodes ++ n ∷ []) ≤ most_depth → greatest_weight (f.nodes ++ n ∷ []) ≤ most_weight →
    IsOrderedForest (record f { nodes = f.nodes ++ n ∷ []; made = f.made + 1; calls = f.calls + 1 })
pushed_forest f n h e k t deep wide = record {
  ascending = ascending_push f.nodes n (weaker (λ m. m.id.0 < f.made) (λ m. m.id.0 < n.id.0) (λ m l. omega arith) f.nodes h.made_before) h.ascending;
  made_before = every_push (λ m. m.id.0 < f.made + 1) f.nodes n
      (weaker (λ m. m.id.0 < f.made) (λ m. m.id.0 < f.made + 1) (λ m l. omega arith) f.nodes h.made_before) (omega arith);
  placed_before = every_push (λ m. IsPlacedBefore (f.made + 1) f.placings m.parent m.placing) f.nodes n
      (weaker (λ m. IsPlacedBefore f.made f.placings m.parent m.placing) (λ m. IsPlacedBefore (f.made + 1) f.placings m.parent m.placing)
      (λ m l. later f.made (f.made + 1) f.placings f.placings m.parent m.placing (omega arith) (omega arith) l) f.nodes h.placed_before)
      (let P : Option RegionId → Type 0 = λ q. IsPlacedBefore (f.made + 1) f.placings q n.placing in subst P (sym k) tt);
  targets_before = every_push (λ m. IsTargetBefore (f.made + 1) m.kind) f.nodes n
      (weaker (λ m. IsTargetBefore f.made m.kind) (λ m. IsTargetBefore (f.made + 1) m.kind) (λ m w. later_target f.made m.kind w) f.nodes h.targets_before)
      (later_target f.made n.kind t);
  shallow = deep;
  narrow = wide;
  few_placings = let few = h.few_placings in omega arith;
}

-- only one region has an id
pub only_node : (nodes : List Node) (r : RegionId) (n : Node) → IsAscending nodes → node_of nodes r ≡ Some n → Every (λ m. has_id r m ≡ true → m ≡ n) nodes
only_node [] r n h e = tt
only_node (m ∷ ms) r n h e =
    elim (has_id r m) as (λ b. has_id r m ≡ b → cond b (Some m) (node_of ms r) ≡ Some n → Every (λ x. has_id r x ≡ true → x ≡ n) (m ∷ ms)) [
      | true ↦ λ t w. (λ u. cc, weaker (λ x. has_id r x ≡ false) (λ x. has_id r x ≡ true → x ≡ n) (λ x u v. cc) ms (absent_after r m ms t h.0))
      | false ↦ λ t w. (λ u. cc, only_node ms r n h.1 w)
    ] refl e

-- a region is the one with its id
pub node_of-itself : (nodes : List Node) → IsAscending nodes → Every (λ n. node_of nodes n.id ≡ Some n) nodes
node_of-itself [] h = tt
node_of-itself (m ∷ ms) h =
    let same : has_id m.id m ≡ true = grind (arith, nat_tests) in (
      simp same,
      weaker (λ n. (node_of ms n.id ≡ Some n) × (m.id.0 < n.id.0)) (λ n. node_of (m ∷ ms) n.id ≡ Some n)
          (λ n w. let l = w.1 in let e = w.0 in let other : has_id n.id m ≡ false = grind (arith, nat_tests) in simp other e) ms
          (both (λ n. node_of ms n.id ≡ Some n) (λ n. m.id.0 < n.id.0) ms (node_of-itself ms h.1) h.0),
    )

pub every_put : {K : Type 0} (P : K → Type 0) (R : K → K → Ordering) (x : K) (xs : List K) → P x → Every P xs → Every P (put_by R x xs)
every_put P R x [] k h = (k, tt)
every_put P R x (y ∷ ys) k h = elim (is_lt (R x y)) as
    (λ b. Every P (cond b (x ∷ y ∷ ys) (y ∷ put_by R x ys))) [ true ↦ (k, h) | false ↦ (h.0, every_put P R x ys k h.1) ]

pub every_sorted : {K : Type 0} (P : K → Type 0) (R : K → K → Ordering) (xs : List K) → Every P xs → Every P (sorted_by R xs)
every_sorted P R [] h = tt
every_sorted P R (x ∷ xs) h = every_put P R x (sorted_by R xs) h.0 (every_sorted P R xs h.1)

every_passing : {K : Type 0} (P : K → Type 0) (p : K → Bool) (xs : List K) → Every (λ x. p x ≡ true → P x) xs → Every P (filter p xs)
every_passing P p [] h = tt
every_passing P p (x ∷ xs) h = elim (p x) as
    (λ b. p x ≡ b → Every P (cond b (x ∷ filter p xs) (filter p xs)))
    [ true ↦ λ e. (h.0 e, every_passing P p xs h.1) | false ↦ λ e. every_passing P p xs h.1 ] refl

-- what holds of each region in a container holds of its children in order
pub every_child : (P : Node → Type 0) (r : RegionId) (nodes : List Node) → Every (λ n. is_child_of r n ≡ true → P n) nodes → Every P (children_of nodes r)
every_child P r nodes h = every_sorted P trial_order _ (every_passing P (is_child_of r) nodes h)

in_one : (r : RegionId) (p : Option RegionId) (made placings placing : ℕ) → is_in r p ≡ true → IsPlacedBefore made placings p placing → (r.0 < made)
    × (placing < placings)
in_one r None made placings placing e h = cc
in_one r (Some p) made placings placing e h = let l = h.0 in (grind (arith, nat_tests), h.1)

-- a child was placed before now, in a region made before now
pub child_before : (f : Forest) (r : RegionId) → IsOrderedForest f → Every (λ n. is_child_of r n ≡ true → (r.0 < f.made) × (n.placing < f.placings)) f.nodes
child_before f r h = weaker (λ n. IsPlacedBefore f.made f.placings n.parent n.placing)
    (λ n. is_child_of r n ≡ true → (r.0 < f.made) × (n.placing < f.placings))
    (λ n w e. in_one r n.parent f.made f.placings n.placing e w) f.nodes h.placed_before

no_filter : {K : Type 0} (p : K → Bool) (xs : List K) → Every (λ x. p x ≡ true → ⊥) xs → filter p xs ≡ []
no_filter p [] h = refl
no_filter p (x ∷ xs) h = elim (p x) as (λ b. p x ≡ b → cond b (x ∷ filter p xs) (filter p xs) ≡ [])
    [ true ↦ λ e. absurd (h.0 e) | false ↦ λ e. no_filter p xs h.1 ] refl

-- a region that is not yet made has no children
pub no_children : (f : Forest) (r : RegionId) → IsOrderedForest f → f.made ≤ r.0 → children_of f.nodes r ≡ []
no_children f r h l = ap (sorted_by trial_order)
    (no_filter (is_child_of r) f.nodes (weaker (λ n. is_child_of r n ≡ true → (r.0 < f.made) × (n.placing < f.placings)) (λ n. is_child_of r n ≡ true → ⊥)
    (λ n w e. let b = (w e).0 in absurd (omega arith)) f.nodes (child_before f r h)))

abbrev IsAny : Node → Type 0
IsAny n = Unit {0}

every_any : (xs : List Node) → Every IsAny xs
every_any [] = tt
every_any (x ∷ xs) = (tt, every_any xs)

same_id : (r : RegionId) (n : Node) → has_id r n ≡ true → n.id ≡ r
same_id r n e = let q : n.id.0 ≡ r.0 = grind (arith, nat_tests) in ap (λ (v : ℕ). let r' : RegionId = record { 0 = v } in r') q

-- the region that is found has the id that was sought
pub id_of : (nodes : List Node) (r : RegionId) (n : Node) → node_of nodes r ≡ Some n → n.id ≡ r
id_of nodes r n e = same_id r n (every_node_of IsAny nodes r n e (every_any nodes)).1

pub found_by_id : (nodes : List Node) (r : RegionId) (n : Node) → Some n ≡ node_of nodes r → is_some (node_of nodes n.id) ≡ true
found_by_id nodes r n e = ap (λ q. is_some (node_of nodes q)) (id_of nodes r n (sym e)) ∙ ap is_some (sym e)

in_list : (nodes cs : List Node) (i : ℕ) (d : RegionId) → i < length (map (λ (n : Node). n.id) cs) → Every (λ n. node_of nodes n.id ≡ Some n) cs → (c : Node)
    × (node_of nodes (get_or (map (λ (n : Node). n.id) cs) i d) ≡ Some c) × (drop i cs ≡ c ∷ drop (suc i) cs)
in_list nodes [] i d l h = absurd (omega arith)
in_list nodes (c ∷ cs) zero d l h = (c, h.0, refl)
in_list nodes (c ∷ cs) (suc i) d l h = let l' : i < length (map (λ (n : Node). n.id) cs) = omega arith in in_list nodes cs i d l' h.1

-- the child at a place in the list of ids
pub child_at : (f : Forest) → IsOrderedForest f → (r : RegionId) (i : ℕ) (d : RegionId) → i < length (map (λ (n : Node). n.id) (children_of f.nodes r)) →
    (c : Node) × (node_of f.nodes (get_or (map (λ (n : Node). n.id) (children_of f.nodes r)) i d) ≡ Some c)
    × (drop i (children_of f.nodes r) ≡ c ∷ drop (suc i) (children_of f.nodes r))
child_at f h r i d l = in_list f.nodes (children_of f.nodes r) i d l
    (every_child (λ n. node_of f.nodes n.id ≡ Some n) r f.nodes
    (weaker (λ n. node_of f.nodes n.id ≡ Some n) (λ n. is_child_of r n ≡ true → node_of f.nodes n.id ≡ Some n) (λ n e t. e) f.nodes
    (node_of-itself f.nodes h.ascending)))

-- the next child in the list of ids
pub next_child : (f : Forest) → IsOrderedForest f → (r : RegionId) (i : ℕ) (items : List RegionId) (d : RegionId) →
    items ≡ map (λ (n : Node). n.id) (children_of f.nodes r) → i < length items → (n : Node) → Some n ≡ node_of f.nodes (get_or items i d) →
    drop i (children_of f.nodes r) ≡ n ∷ drop (i + 1) (children_of f.nodes r)
next_child f h r i items d e l n w =
    let l' : i < length (map (λ (m : Node). m.id) (children_of f.nodes r)) = subst (λ (xs : List RegionId). i < length xs) e l in
    let here = child_at f h r i d l' in
    let known = here.1 in
    let w' : Some n ≡ node_of f.nodes (get_or (map (λ (m : Node). m.id) (children_of f.nodes r)) i d) =
    subst (λ (xs : List RegionId). Some n ≡ node_of f.nodes (get_or xs i d)) e w in
    let same : n ≡ here.0 = cc in
    rw add-one (subst (λ m. drop i (children_of f.nodes r) ≡ m ∷ drop (suc i) (children_of f.nodes r)) (sym same) here.2)
