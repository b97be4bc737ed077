-- Laws of calls that take a child out of its container.
use Rattle.std.proofs.Common.{◌≡◌, ℕ, ◌≤◌, Bool, true, false, not, cond, List, [], ◌∷◌, map, Option, Some, None, refl, sym, ap, subst, ◌∙◌, arith}
use Rattle.std.specs.Prelude.{filter}
use Rattle.std.specs.declared.cmp.Ordering.{Ordering}
use Rattle.std.specs.declared.cmp.Ordering.TheVariants.{Less, Equal, Greater}
use Rattle.std.specs.Ordering.{is_lt, ordering_reverse}
use Rattle.std.specs.Cmp.{IsTotalOrder}
use Rattle.mem_base.specs.declared.map.ids.RegionId.{RegionId}
use Rattle.mem_base.specs.declared.map.forests.Node.{Node}
use Rattle.mem_base.specs.declared.map.kinds.Kind.{Kind}
use Rattle.mem_base.specs.declared.map.kinds.Kind.TheVariants.{Alias}
use Rattle.mem_base.specs.lists.Every.{Every}
use Rattle.mem_base.specs.map.Kinds.{target_of}
use Rattle.mem_base.specs.map.Region.{has_id, node_of, is_in, is_child_of}
use Rattle.mem_base.specs.lists.Sorting.{put_by, sorted_by}
use Rattle.mem_base.specs.map.Order.{trial_order, children_of}
use Rattle.mem_base.specs.map.Changes.{changed_at}
use Rattle.mem_base.specs.map.Steps.{steps_of, steps_from, steps_at, greatest, total, depth_of, weight_of, greatest_depth, greatest_weight}
use Rattle.mem_base.proofs.EveryLaws.{weaker}
use Rattle.mem_base.proofs.StepLaws.{Fewer, depth_by-fewer, weight_by-fewer}
use Rattle.mem_base.proofs.ForestLaws.{trial_total, every_put}
use Rattle.mem_base.proofs.JoinLaws.{node_of-changed_at, steps_seen, map_ids-changed_at}
use Rattle.mem_base.proofs.SortingLaws.{lt_less}

-- what is before one is before each that is not before that one
before_all : {K : Type 0} (R : K → K → Ordering) (o : IsTotalOrder R) (x y z : K) → is_lt (R x y) ≡ true → is_lt (R z y) ≡ false → is_lt (R x z) ≡ true
before_all R o x y z e f =
    elim (R y z) as (λ q. R y z ≡ q → is_lt (R x z) ≡ true) [
      | Less ↦ λ w. ap is_lt (o.trans x y z (lt_less (R x y) e) w)
      | Equal ↦ λ w.
          let back : R y x ≡ R z x = o.congr y z x w in
          ap is_lt (o.antisymm x z ∙ ap ordering_reverse (sym back) ∙ sym (o.antisymm x y)) ∙ e
      | Greater ↦ λ w. let g : is_lt (R z y) ≡ true = ap is_lt (o.antisymm z y ∙ ap ordering_reverse w) in cc
    ] refl

-- no element is before an earlier one
abbrev pub InOrder : {K : Type 0} → (K → K → Ordering) → List K → Type 0
InOrder R [] = Unit {0}
InOrder R (x ∷ xs) = Every (λ z. is_lt (R z x) ≡ false) xs × InOrder R xs

not_before : {K : Type 0} (R : K → K → Ordering) (o : IsTotalOrder R) (x y : K) → is_lt (R x y) ≡ true → is_lt (R y x) ≡ false
not_before R o x y e = ap is_lt (o.antisymm y x ∙ ap ordering_reverse (lt_less (R x y) e))

in_order-put_by : {K : Type 0} (R : K → K → Ordering) (o : IsTotalOrder R) (x : K) (l : List K) → InOrder R l → InOrder R (put_by R x l)
in_order-put_by R o x [] h = (tt, tt)
in_order-put_by R o x (y ∷ ys) h =
    elim (is_lt (R x y)) as (λ b. is_lt (R x y) ≡ b → InOrder R (cond b (x ∷ y ∷ ys) (y ∷ put_by R x ys))) [
      | true ↦ λ e. (
        (
          not_before R o x y e,
          weaker (λ z. is_lt (R z y) ≡ false) (λ z. is_lt (R z x) ≡ false)
              (λ z f. not_before R o x z (before_all R o x y z e f)) ys h.0,
        ),
        h,
      )
      | false ↦ λ e. (every_put (λ z. is_lt (R z y) ≡ false) R x ys e h.0, in_order-put_by R o x ys h.1)
    ] refl

pub in_order-sorted_by : {K : Type 0} (R : K → K → Ordering) (o : IsTotalOrder R) (l : List K) → InOrder R (sorted_by R l)
in_order-sorted_by R o [] = tt
in_order-sorted_by R o (x ∷ xs) = in_order-put_by R o x (sorted_by R xs) (in_order-sorted_by R o xs)

-- an element that is before all goes first
put_front : {K : Type 0} (R : K → K → Ordering) (p : K → Bool) (x : K) (l : List K) → Every (λ z. is_lt (R x z) ≡ true) l →
    put_by R x (filter p l) ≡ x ∷ filter p l
put_front R p x [] h = refl
put_front R p x (y ∷ ys) h =
    let t = h.0 in
    elim (p y) as (λ b. put_by R x (cond b (y ∷ filter p ys) (filter p ys)) ≡ x ∷ cond b (y ∷ filter p ys) (filter p ys))
    [ true ↦ rw t refl | false ↦ put_front R p x ys h.1 ]

filter-put_by : {K : Type 0} (R : K → K → Ordering) (o : IsTotalOrder R) (p : K → Bool) (x : K) (l : List K) → InOrder R l →
    filter p (put_by R x l) ≡ cond (p x) (put_by R x (filter p l)) (filter p l)
filter-put_by R o p x [] h = elim (p x) as (λ b. cond b (x ∷ []) [] ≡ cond b (x ∷ []) []) [ true ↦ refl | false ↦ refl ]
filter-put_by R o p x (y ∷ ys) h =
    let ih = filter-put_by R o p x ys h.1 in
    elim (is_lt (R x y)) as (λ b. is_lt (R x y) ≡ b →
    filter p (cond b (x ∷ y ∷ ys) (y ∷ put_by R x ys)) ≡ cond (p x) (put_by R x (filter p (y ∷ ys))) (filter p (y ∷ ys))) [
      | true ↦ λ e.
          let front = put_front R p x (y ∷ ys) (e, weaker (λ z. is_lt (R z y) ≡ false) (λ z. is_lt (R x z) ≡ true) (λ z f. before_all R o x y z e f) ys h.0) in
          elim (p x) as (λ b. cond b (x ∷ filter p (y ∷ ys)) (filter p (y ∷ ys)) ≡ cond b (put_by R x (filter p (y ∷ ys))) (filter p (y ∷ ys)))
          [ true ↦ sym front | false ↦ refl ]
      | false ↦ λ e.
          elim (p y) as (λ b. cond b (y ∷ filter p (put_by R x ys)) (filter p (put_by R x ys)) ≡ cond (p x)
          (put_by R x (cond b (y ∷ filter p ys) (filter p ys))) (cond b (y ∷ filter p ys) (filter p ys))) [
            | true ↦ ap (λ l. y ∷ l) ih ∙ elim (p x) as
                (λ b. y ∷ cond b (put_by R x (filter p ys)) (filter p ys) ≡ cond b (put_by R x (y ∷ filter p ys)) (y ∷ filter p ys))
                [ true ↦ rw e refl | false ↦ refl ]
            | false ↦ ih
          ]
    ] refl

-- what is taken out before sorting may be taken out after it
pub filter-sorted_by : {K : Type 0} (R : K → K → Ordering) (o : IsTotalOrder R) (p : K → Bool) (l : List K) →
    filter p (sorted_by R l) ≡ sorted_by R (filter p l)
filter-sorted_by R o p [] = refl
filter-sorted_by R o p (x ∷ xs) =
    let ih = filter-sorted_by R o p xs in
    filter-put_by R o p x (sorted_by R xs) (in_order-sorted_by R o xs)
    ∙ elim (p x) as (λ b. cond b (put_by R x (filter p (sorted_by R xs))) (filter p (sorted_by R xs)) ≡ sorted_by R (cond b (x ∷ filter p xs) (filter p xs)))
    [ true ↦ ap (put_by R x) ih | false ↦ ih ]

filter_left : (c : RegionId) (g : Node → Node) → ((n : Node) → (g n).parent ≡ None) → (q : RegionId) (nodes : List Node) →
    filter (is_child_of q) (changed_at c g nodes) ≡ filter (λ n. not (has_id c n)) (filter (is_child_of q) nodes)
filter_left c g k q [] = refl
filter_left c g k q (n ∷ ns) =
    let ih = filter_left c g k q ns in
    let gone : is_child_of q (g n) ≡ false = ap (is_in q) (k n) in
    elim (has_id c n) as (λ b. has_id c n ≡ b →
    filter (is_child_of q) (cond b (g n) n ∷ changed_at c g ns) ≡ filter (λ x. not (has_id c x)) (filter (is_child_of q) (n ∷ ns))) [
      | true ↦ λ e. elim (is_child_of q n) as (λ b. is_child_of q n ≡ b →
          filter (is_child_of q) (g n ∷ changed_at c g ns) ≡ filter (λ x. not (has_id c x))
          (cond b (n ∷ filter (is_child_of q) ns) (filter (is_child_of q) ns))) [ true ↦ λ f. simp (gone, e) ih | false ↦ λ f. simp gone ih ] refl
      | false ↦ λ e. elim (is_child_of q n) as
          (λ b. cond b (n ∷ filter (is_child_of q) (changed_at c g ns)) (filter (is_child_of q) (changed_at c g ns)) ≡ filter (λ x. not (has_id c x))
          (cond b (n ∷ filter (is_child_of q) ns) (filter (is_child_of q) ns))) [ true ↦ simp (e, ih) | false ↦ ih ]
    ] refl

-- a region that loses its container is no child of any
pub children_of-left : (c : RegionId) (g : Node → Node) → ((n : Node) → (g n).parent ≡ None) → (nodes : List Node) (q : RegionId) →
    children_of (changed_at c g nodes) q ≡ filter (λ n. not (has_id c n)) (children_of nodes q)
children_of-left c g k nodes q = ap (sorted_by trial_order) (filter_left c g k q nodes)
    ∙ sym (filter-sorted_by trial_order trial_total (λ n. not (has_id c n)) (filter (is_child_of q) nodes))

fewer_filter : (p : Node → Bool) (l : List Node) → Fewer (map (λ (n : Node). n.id) (filter p l)) (map (λ (n : Node). n.id) l)
fewer_filter p [] w = (omega arith, omega arith)
fewer_filter p (n ∷ ns) w =
    let ih = fewer_filter p ns w in
    let a = ih.0 in
    let b = ih.1 in
    elim (p n) as (λ c. (greatest (map w (map (λ (x : Node). x.id) (cond c (n ∷ filter p ns) (filter p ns)))) ≤ greatest
    (map w (map (λ (x : Node). x.id) (n ∷ ns))))
    × (total (map w (map (λ (x : Node). x.id) (cond c (n ∷ filter p ns) (filter p ns)))) ≤ total (map w (map (λ (x : Node). x.id) (n ∷ ns)))))
    [ true ↦ (omega arith, omega arith) | false ↦ (omega arith, omega arith) ]

same_steps : (new old : List Node) (k : Kind) (n : Node) (p : Node → Bool) → children_of new n.id ≡ filter p (children_of old n.id) →
    Fewer (steps_at new k n) (steps_at old k n)
same_steps new old (Alias target offset) n p e w = (omega arith, omega arith)
same_steps new old _ n p e w = subst (λ l.
    (greatest (map w (map (λ (x : Node). x.id) l)) ≤ greatest (map w (map (λ (x : Node). x.id) (children_of old n.id))))
    × (total (map w (map (λ (x : Node). x.id) l)) ≤ total (map w (map (λ (x : Node). x.id) (children_of old n.id))))) (sym e)
    (fewer_filter p (children_of old n.id) w)

greatest_at_most_by : {A : Type 0} (v w : A → ℕ) (xs : List A) → ((x : A) → v x ≤ w x) → greatest (map v xs) ≤ greatest (map w xs)
greatest_at_most_by v w [] h = omega arith
greatest_at_most_by v w (x ∷ xs) h = let a = h x in let b = greatest_at_most_by v w xs h in omega arith

-- a region taken out of its container leaves no region deeper or wider
module _ (c : RegionId) (g : Node → Node) (ids : (n : Node) → (g n).id ≡ n.id) (targets : (n : Node) → target_of (g n).kind ≡ target_of n.kind)
    (lost : (n : Node) → (g n).parent ≡ None) (nodes : List Node) where
  fewer_from : (o : Option Node) → Fewer (steps_from (changed_at c g nodes) o) (steps_from nodes o)
  fewer_from None w = (omega arith, omega arith)
  fewer_from (Some n) w = same_steps (changed_at c g nodes) nodes n.kind n (λ x. not (has_id c x)) (children_of-left c g lost nodes n.id) w

  fewer_left : (q : RegionId) → Fewer (steps_of (changed_at c g nodes) q) (steps_of nodes q)
  fewer_left q =
      let seen = ap (steps_from (changed_at c g nodes)) (node_of-changed_at c g ids nodes q)
      ∙ steps_seen (changed_at c g nodes) c g ids targets (node_of nodes q) in
      subst (λ xs. Fewer xs (steps_of nodes q)) (sym seen) (fewer_from (node_of nodes q))

  pub greatest_depth_left : greatest_depth (changed_at c g nodes) ≤ greatest_depth nodes
  greatest_depth_left =
      let e = ap greatest (map_ids-changed_at (depth_of (changed_at c g nodes)) c g ids nodes) in
      let l = greatest_at_most_by (λ (n : Node). depth_of (changed_at c g nodes) n.id) (λ (n : Node). depth_of nodes n.id) nodes
      (λ n. depth_by-fewer (steps_of (changed_at c g nodes)) (steps_of nodes) fewer_left 64 n.id) in
      omega arith

  pub greatest_weight_left : greatest_weight (changed_at c g nodes) ≤ greatest_weight nodes
  greatest_weight_left =
      let e = ap greatest (map_ids-changed_at (weight_of (changed_at c g nodes)) c g ids nodes) in
      let l = greatest_at_most_by (λ (n : Node). weight_of (changed_at c g nodes) n.id) (λ (n : Node). weight_of nodes n.id) nodes
      (λ n. weight_by-fewer (steps_of (changed_at c g nodes)) (steps_of nodes) fewer_left 64 n.id) in
      omega arith
