-- Laws of the regions whose steps lead to a region: its container and its aliases.
use Rattle.std.proofs.Common.{◌≡◌, ◌≢◌, ℕ, ◌<◌, Bool, true, false, cond, eqb, ◌||◌, List, [], ◌∷◌, length}
use Rattle.std.proofs.Common.{get_or, filter, Option, Some, None, refl, sym, ap, subst, ◌∙◌, arith}
use Rattle.std.specs.Prelude.{IfSome}
use Rattle.std.specs.List.{list_any}
use Rattle.std.specs.Ordering.{is_lt}
use Rattle.std.specs.declared.cmp.Ordering.{Ordering}
use Rattle.std.proofs.lemmas.Bool.Decides.{nat_tests}
use Rattle.mem_base.specs.declared.map.ids.RegionId.{RegionId}
use Rattle.mem_base.specs.declared.map.forests.Node.{Node}
use Rattle.mem_base.specs.declared.map.kinds.Kind.{Kind}
use Rattle.mem_base.specs.declared.map.kinds.Kind.TheVariants.{Alias}
use Rattle.mem_base.specs.lists.Every.{Every}
use Rattle.mem_base.specs.map.Region.{node_of, has_id, is_in, is_child_of}
use Rattle.mem_base.specs.lists.Sorting.{put_by, sorted_by}
use Rattle.mem_base.specs.map.Order.{trial_order, children_of, ids_of}
use Rattle.mem_base.specs.map.Refusals.{targets}
use Rattle.mem_base.specs.map.Region.{IsAscending}
use Rattle.mem_base.specs.map.Steps.{steps_of, steps_from, steps_at}
use Rattle.mem_base.proofs.ForestLaws.{id_of, only_node}
use Rattle.std.proofs.lemmas.List.{get_or-map}
use Rattle.region_slots.specs.declared.slots.Slot.{Slot}
use Rattle.region_slots.specs.Slots.{nodes_of}
use Rattle.region_extents.specs.declared.extents.Join.{Join}
use Rattle.region_extents.specs.Kept.{listed, aliases_of, steps_plus, container_list, aliases_in}
use Rattle.std.proofs.lemmas.Bool.{or_right, or_left, false_from_ne_true}
use Rattle.region_slots.proofs.PlaceLaws.{length_nodes}

-- one of the regions passes a test, and has this id
any_id : (r : RegionId) (ns : List Node) → listed r (ids_of ns) ≡ list_any (has_id r) ns
any_id r [] = refl
any_id r (n ∷ ns) = ap (λ b. has_id r n || b) (any_id r ns)

swap_or : (a b c : Bool) → a || (b || c) ≡ b || (a || c)
swap_or true true c = refl
swap_or true false c = refl
swap_or false true c = refl
swap_or false false c = refl

any_put_by : (p : Node → Bool) (R : Node → Node → Ordering) (x : Node) (l : List Node) → list_any p (put_by R x l) ≡ p x || list_any p l
any_put_by p R x [] = refl
any_put_by p R x (y ∷ ys) =
    let ih = any_put_by p R x ys in
    elim (is_lt (R x y)) as (λ b. list_any p (cond b (x ∷ y ∷ ys) (y ∷ put_by R x ys)) ≡ p x || (p y || list_any p ys)) [
      | true ↦ refl
      | false ↦ ap (λ b. p y || b) ih ∙ swap_or (p y) (p x) (list_any p ys)
    ]

any_sorted_by : (p : Node → Bool) (R : Node → Node → Ordering) (l : List Node) → list_any p (sorted_by R l) ≡ list_any p l
any_sorted_by p R [] = refl
any_sorted_by p R (x ∷ xs) = any_put_by p R x (sorted_by R xs) ∙ ap (λ b. p x || b) (any_sorted_by p R xs)

-- one that passes two tests: what holds of all that pass the first, one after another
any_filter : (p q : Node → Bool) (b : Bool) (ns : List Node) → Every (λ n. p n ≡ true → q n ≡ true → b ≡ true) ns → list_any p (filter q ns) ≡ true → b ≡ true
any_filter p q b [] h e = cc
any_filter p q b (n ∷ ns) h e =
    elim (q n) as (λ t. q n ≡ t → list_any p (cond t (n ∷ filter q ns) (filter q ns)) ≡ true → b ≡ true) [
      | true ↦ λ t. λ k. elim (p n) as (λ u. p n ≡ u → u || list_any p (filter q ns) ≡ true → b ≡ true)
          [ true ↦ λ u. λ w. h.0 u t | false ↦ λ u. λ w. any_filter p q b ns h.1 w ] refl k
      | false ↦ λ t. λ k. any_filter p q b ns h.1 k
    ] refl e

eq_in : (r : RegionId) (p : Option RegionId) → is_in r p ≡ true → listed r (container_list p) ≡ true
eq_in r None h = cc
eq_in r (Some p) h = let t : eqb p.0 r.0 ≡ true = h in rw t refl

-- a child's container
children_users : (nodes : List Node) (r v : RegionId) (n : Node) → IsAscending nodes → node_of nodes r ≡ Some n →
    listed r (ids_of (children_of nodes v)) ≡ true → listed v (container_list n.parent) ≡ true
children_users nodes r v n a there e =
    let only = only_node nodes r n a there in
    let here = sym (any_sorted_by (has_id r) trial_order (filter (is_child_of v) nodes)) ∙ sym (any_id r (children_of nodes v)) ∙ e in
    any_filter (has_id r) (is_child_of v) (listed v (container_list n.parent)) nodes (of_all nodes only) here
  where
    of_all : (ms : List Node) → Every (λ m. has_id r m ≡ true → m ≡ n) ms →
        Every (λ m. has_id r m ≡ true → is_child_of v m ≡ true → listed v (container_list n.parent) ≡ true) ms
    of_all [] h = tt
    of_all (m ∷ ms) h = ((λ t u. let same = h.0 t in subst (λ (x : Node). listed v (container_list x.parent) ≡ true) same (eq_in v m.parent u)), of_all ms h.1)

-- an alias is one of the aliases of its target
alias_users : (r v : RegionId) (m : Node) (nodes : List Node) → node_of nodes v ≡ Some m → targets r m.kind ≡ true → listed v (aliases_of nodes r) ≡ true
alias_users r v m [] there t = cc
alias_users r v m (n ∷ ns) there t =
    elim (has_id v n) as (λ b. has_id v n ≡ b → cond b (Some n) (node_of ns v) ≡ Some m → listed v (aliases_of (n ∷ ns) r) ≡ true) [
      | true ↦ λ u. λ k.
          let same : n ≡ m = cc in
          let w : targets r n.kind ≡ true = ap (λ (x : Node). targets r x.kind) same ∙ t in
          rw w (or_left (has_id v n) (listed v (aliases_of ns r)) u)
      | false ↦ λ u. λ k.
          let ih = alias_users r v m ns k t in
          elim (targets r n.kind) as (λ b. listed v (ids_of (cond b (n ∷ filter (λ x. targets r x.kind) ns) (filter (λ x. targets r x.kind) ns))) ≡ true)
          [ true ↦ or_right (has_id v n) (listed v (aliases_of ns r)) ih | false ↦ ih ]
    ] refl there

one_or_none : (a : Bool) → a || false ≡ true → a ≡ true
one_or_none true h = refl
one_or_none false h = h

steps_users : (nodes : List Node) (r v : RegionId) (n m : Node) (k : Kind) → IsAscending nodes → node_of nodes r ≡ Some n → m.id ≡ v →
    (targets r k ≡ true → listed v (aliases_of nodes r) ≡ true) → listed r (steps_at nodes k m) ≡ true → listed v (container_list n.parent)
    || listed v (aliases_of nodes r) ≡ true
steps_users nodes r v n m (Alias target offset) a there id h e =
    or_right (listed v (container_list n.parent)) (listed v (aliases_of nodes r)) (h (one_or_none (eqb target.0 r.0) e))
steps_users nodes r v n m _ a there id h e =
    or_left (listed v (container_list n.parent)) (listed v (aliases_of nodes r))
    (children_users nodes r v n a there (subst (λ q. listed r (ids_of (children_of nodes q)) ≡ true) id e))

-- whose steps lead to a region is its container or one of its aliases
pub users_all : (nodes : List Node) (r v : RegionId) (n : Node) → IsAscending nodes → node_of nodes r ≡ Some n → listed r (steps_of nodes v) ≡ true →
    listed v (container_list n.parent) || listed v (aliases_of nodes r) ≡ true
users_all nodes r v n a there e =
    elim (node_of nodes v) as (λ o. node_of nodes v ≡ o → listed r (steps_from nodes o) ≡ true → listed v (container_list n.parent)
    || listed v (aliases_of nodes r) ≡ true) [
      | None ↦ λ k. λ h. cc
      | Some m ↦ λ k. λ h. steps_users nodes r v n m m.kind a there (id_of nodes v m k) (λ t. alias_users r v m nodes k t) h
    ] refl e

-- those that are none of them do not lead to it
pub users_apart : (nodes : List Node) (r v : RegionId) (n : Node) → IsAscending nodes → node_of nodes r ≡ Some n →
    listed v (container_list n.parent) ≡ false → listed v (aliases_of nodes r) ≡ false → listed r (steps_of nodes v) ≡ false
users_apart nodes r v n a there p q = false_from_ne_true (listed r (steps_of nodes v)) (λ e. let t = users_all nodes r v n a there e in cc)

-- a region that none of those leads to that wait for another is not led to by them
pub apart_plus : (nodes : List Node) (extra : Option Join) (r v : RegionId) (n : Node) → IsAscending nodes → node_of nodes r ≡ Some n →
    IfSome extra (λ join. r.0 ≢ join.child.0) → listed v (container_list n.parent) ≡ false → listed v (aliases_of nodes r) ≡ false →
    listed r (steps_plus nodes extra v) ≡ false
apart_plus nodes None r v n a there k p q = users_apart nodes r v n a there p q
apart_plus nodes (Some join) r v n a there k p q =
    let t : eqb join.child.0 r.0 ≡ false = false_from_ne_true (eqb join.child.0 r.0) (λ e. k (grind (arith, nat_tests))) in
    let h = users_apart nodes r v n a there p q in
    elim (eqb v.0 join.parent.0) as (λ b. listed r (cond b (join.child ∷ steps_of nodes v) (steps_of nodes v)) ≡ false) [ true ↦ rw t h | false ↦ h ]

-- the aliases that stand at a place
pub aliases_at : (slots : List Slot) (lists : List (List RegionId)) (i : ℕ) (d : Slot) (x : List RegionId) (r : RegionId) →
    lists ≡ aliases_in (nodes_of slots) → i < length slots → node_of (nodes_of slots) r ≡ Some (get_or slots i d).node →
    get_or lists i x ≡ aliases_of (nodes_of slots) r
aliases_at slots lists i d x r same l there =
    ap (λ ls. get_or ls i x) same
    ∙ get_or-map (λ (n : Node). aliases_of (nodes_of slots) n.id) (nodes_of slots) i d.node x (omega (arith, length_nodes slots))
    ∙ ap (λ (n : Node). aliases_of (nodes_of slots) n.id) (get_or-map (λ (s : Slot). s.node) slots i d d.node l)
    ∙ ap (aliases_of (nodes_of slots)) (id_of (nodes_of slots) r (get_or slots i d).node there)
