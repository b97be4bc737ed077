-- Laws of the extents of slots.
use Rattle.std.proofs.Common.{◌≡◌, ◌≢◌, ℕ, zero, suc, ◌+◌, ◌-◌, replicate, ◌<◌, ◌≤◌, Bool, true, false, cond, eqb, List, [], ◌∷◌, length}
use Rattle.std.proofs.Common.{get_or, map, drop, max, Some, None, refl, sym, ap, subst, ◌∙◌, arith, add-one}
use Rattle.std.specs.Prelude.{is_some, ◌&&◌}
use Rattle.std.specs.Cmp.Lexicographic.{pointwise}
use Rattle.std.proofs.lemmas.Bool.Decides.{nat_tests}
use Rattle.std.proofs.lemmas.List.{get_or-map}
use Rattle.mem_base.specs.declared.map.ids.RegionId.{RegionId}
use Rattle.mem_base.specs.declared.map.forests.Node.{Node}
use Rattle.mem_base.specs.lists.Every.{Every}
use Rattle.mem_base.specs.map.Region.{node_of}
use Rattle.mem_base.specs.map.Steps.{Steps, steps_of, steps_from, greatest, total, depth_by, weight_by}
use Rattle.mem_base.proofs.StepLaws.{map_agree, every_of}
use Rattle.region_slots.specs.declared.slots.Slot.{Slot}
use Rattle.region_extents.specs.declared.extents.Extent.{Extent}
use Rattle.region_extents.specs.declared.extents.Join.{Join}
use Rattle.region_slots.specs.Slots.{nodes_of}
use Rattle.region_extents.specs.Extents.{steps_with, extent_by, extents_by}
use Rattle.mem_base.proofs.ForestLaws.{id_of, node_of-itself, every_node_of}
use Rattle.mem_base.proofs.EveryLaws.{every_at}
use Rattle.mem_base.specs.map.Kinds.{target_of}
use Rattle.mem_base.specs.map.Order.{children_of}
use Rattle.mem_base.specs.map.Region.{IsAscending}
use Rattle.region_slots.specs.Slots.{HasItsChildren, ids_in}
use Rattle.region_slots.proofs.SlotsLaws.{ids_placed}
use Rattle.std.proofs.lemmas.Bool.{and_parts}
use Rattle.mem_base.proofs.NodeLaws.{steps_to_children, steps_to_target}
use Rattle.region_slots.proofs.PlaceLaws.{length_nodes}

-- the known extent of a region that is found
pub extent_found : (slots : List Slot) (join : Join) (round i : ℕ) (r : RegionId) (e : Extent) (d : Slot) → i < length slots →
    node_of (nodes_of slots) r ≡ Some (get_or slots i d).node →
    get_or (extents_by (nodes_of slots) join round slots) i e ≡ extent_by (nodes_of slots) join round r
extent_found slots join round i r e d l h =
    get_or-map (λ (s : Slot). extent_by (nodes_of slots) join round s.node.id) slots i d e l
    ∙ ap (extent_by (nodes_of slots) join round) (id_of (nodes_of slots) r (get_or slots i d).node h)

pub other_parent : (nodes : List Node) (p r : RegionId) → is_some (node_of nodes p) ≡ true → node_of nodes r ≡ None → eqb r.0 p.0 ≡ false
other_parent nodes p r k h =
    elim (eqb r.0 p.0) as (λ b. eqb r.0 p.0 ≡ b → b ≡ false) [
      | true ↦ λ t.
          let q : r.0 ≡ p.0 = grind (arith, nat_tests) in
          let same : r ≡ p = ap (λ (v : ℕ). let r' : RegionId = record { 0 = v } in r') q in
          let w : is_some (node_of nodes p) ≡ false = ap (λ x. is_some (node_of nodes x)) (sym same) ∙ ap is_some h in
          cc
      | false ↦ λ t. refl
    ] refl

-- a region that is not there leads nowhere
pub extent_missing : (nodes : List Node) (join : Join) (round : ℕ) (r : RegionId) → 1 ≤ round → is_some (node_of nodes join.parent) ≡ true →
    node_of nodes r ≡ None → extent_by nodes join round r ≡ record { depth = 1; weight = 1 }
unfolding extent_by depth_by weight_by
extent_missing nodes join zero r l k h = absurd (omega arith)
extent_missing nodes join (suc round) r l k h =
    let t = other_parent nodes join.parent r k h in
    let none : steps_with nodes join r ≡ [] = rw t (ap (steps_from nodes) h) in
    ap (λ xs. let e : Extent = record {
      depth = greatest (map (depth_by (steps_with nodes join) round) xs) + 1;
      weight =
          total (map (weight_by (steps_with nodes join) round) xs) + 1;
    } in e) none

greatest_at_most : (g : RegionId → ℕ) (k : ℕ) → ((r : RegionId) → g r ≤ k) → (xs : List RegionId) → greatest (map g xs) ≤ k
greatest_at_most g k h [] = omega arith
greatest_at_most g k h (x ∷ xs) = let a = h x in let b = greatest_at_most g k h xs in omega arith

all_zero : (s : Steps) (xs : List RegionId) → (greatest (map (depth_by s 0) xs) ≡ 0) × (total (map (weight_by s 0) xs) ≡ 0)
unfolding depth_by weight_by
all_zero s [] = (refl, refl)
all_zero s (x ∷ xs) = let h = all_zero s xs in let a = h.0 in let b = h.1 in (omega arith, omega arith)

pub total_le : (g : RegionId → ℕ) (xs : List RegionId) (i : ℕ) (d : RegionId) → i < length xs → g (get_or xs i d) ≤ total (map g (drop i xs))
total_le g [] i d l = absurd (omega arith)
total_le g (x ∷ xs) zero d l = omega arith
total_le g (x ∷ xs) (suc i) d l = total_le g xs i d (omega arith)

-- the steps of the region at a place
module _ (slots : List Slot) (i : ℕ) (d : Slot) (l : i < length slots) (ascending : IsAscending (nodes_of slots)) where
  known_itself : node_of (nodes_of slots) (get_or slots i d).node.id ≡ Some (get_or slots i d).node
  known_itself =
      let e = get_or-map (λ (s : Slot). s.node) slots i d d.node l in
      subst (λ n. node_of (nodes_of slots) n.id ≡ Some n) e
      (every_at (λ n. node_of (nodes_of slots) n.id ≡ Some n) (nodes_of slots) i d.node (omega (arith, length_nodes slots))
      (node_of-itself (nodes_of slots) ascending))

  pub steps_alias : (t : RegionId) → target_of (get_or slots i d).node.kind ≡ Some t → steps_of (nodes_of slots) (get_or slots i d).node.id ≡ t ∷ []
  steps_alias t e = ap (steps_from (nodes_of slots)) known_itself ∙ steps_to_target (nodes_of slots) (get_or slots i d).node.kind (get_or slots i d).node t e

  pub steps_listed : Every (HasItsChildren (nodes_of slots)) slots → target_of (get_or slots i d).node.kind ≡ None →
      steps_of (nodes_of slots) (get_or slots i d).node.id ≡ ids_in (get_or slots i d).children
  steps_listed h e =
      ap (steps_from (nodes_of slots)) known_itself
      ∙ steps_to_children (nodes_of slots) (get_or slots i d).node.kind (get_or slots i d).node e
      ∙ sym (ap ids_in (every_at (HasItsChildren (nodes_of slots)) slots i d l h) ∙ ids_placed (children_of (nodes_of slots) (get_or slots i d).node.id))

-- one more round at a region, with or without the step that is added
next_elsewhere : (nodes : List Node) (join : Join) (round : ℕ) (r : RegionId) (e : Extent) → r.0 ≢ join.parent.0 →
    e.depth ≡ greatest (map (depth_by (steps_with nodes join) round) (steps_of nodes r)) →
    e.weight ≡ total (map (weight_by (steps_with nodes join) round) (steps_of nodes r)) →
    record { depth = e.depth + 1; weight = e.weight + 1 } ≡ extent_by nodes join (suc round) r
unfolding extent_by depth_by weight_by
next_elsewhere nodes join round r e h d w =
    let t : eqb r.0 join.parent.0 ≡ false = grind (arith, nat_tests) in
    simp (t, d, w)

next_here : (nodes : List Node) (join : Join) (round : ℕ) (r : RegionId) (e f : Extent) → r.0 ≡ join.parent.0 →
    e.depth ≡ greatest (map (depth_by (steps_with nodes join) round) (steps_of nodes r)) →
    e.weight ≡ total (map (weight_by (steps_with nodes join) round) (steps_of nodes r)) → f ≡ extent_by nodes join round join.child →
    record { depth = max f.depth e.depth + 1; weight = f.weight + e.weight + 1 } ≡ extent_by nodes join (suc round) r
unfolding extent_by depth_by weight_by
next_here nodes join round r e f h d w c =
    let t : eqb r.0 join.parent.0 ≡ true = grind (arith, nat_tests) in
    simp (t, d, w, c)

pub extent_elsewhere : (nodes : List Node) (join : Join) (round : ℕ) (r : RegionId) (e : Extent) → r.0 ≢ join.parent.0 →
    e.depth ≡ greatest (map (depth_by (steps_with nodes join) round) (steps_of nodes r)) →
    e.weight ≡ total (map (weight_by (steps_with nodes join) round) (steps_of nodes r)) →
    record { depth = e.depth + 1; weight = e.weight + 1 } ≡ extent_by nodes join (round + 1) r
extent_elsewhere nodes join round r e h d w = next_elsewhere nodes join round r e h d w ∙ ap (λ k. extent_by nodes join k r) (sym (add-one round))

pub extent_here : (nodes : List Node) (join : Join) (round : ℕ) (r : RegionId) (e f : Extent) → r.0 ≡ join.parent.0 →
    e.depth ≡ greatest (map (depth_by (steps_with nodes join) round) (steps_of nodes r)) →
    e.weight ≡ total (map (weight_by (steps_with nodes join) round) (steps_of nodes r)) → f ≡ extent_by nodes join round join.child →
    record { depth = max f.depth e.depth + 1; weight = f.weight + e.weight + 1 } ≡ extent_by nodes join (round + 1) r
extent_here nodes join round r e f h d w c = next_here nodes join round r e f h d w c ∙ ap (λ k. extent_by nodes join k r) (sym (add-one round))

-- no depth is above the rounds
pub depth_by-le : (s : Steps) (round : ℕ) (r : RegionId) → depth_by s round r ≤ round
unfolding depth_by
depth_by-le s zero r = omega arith
depth_by-le s (suc round) r = let h = greatest_at_most (depth_by s round) round (depth_by-le s round) (s r) in omega arith

-- what a region leads to weighs less than the region
next_total : (nodes : List Node) (join : Join) (round : ℕ) (r : RegionId) →
    total (map (weight_by (steps_with nodes join) round) (steps_of nodes r)) < weight_by (steps_with nodes join) (suc round) r
unfolding weight_by
next_total nodes join round r =
    elim (eqb r.0 join.parent.0) as (λ b. total (map (weight_by (steps_with nodes join) round) (steps_of nodes r)) < total
    (map (weight_by (steps_with nodes join) round) (cond b (join.child ∷ steps_of nodes r) (steps_of nodes r))) + 1)
    [ true ↦ omega arith | false ↦ omega arith ]

pub total_within : (nodes : List Node) (join : Join) (round : ℕ) (r : RegionId) →
    total (map (weight_by (steps_with nodes join) round) (steps_of nodes r)) < weight_by (steps_with nodes join) (round + 1) r
total_within nodes join round r = subst (λ k. total (map (weight_by (steps_with nodes join) round) (steps_of nodes r)) < weight_by
    (steps_with nodes join) k r) (sym (add-one round)) (next_total nodes join round r)

next_total_here : (nodes : List Node) (join : Join) (round : ℕ) (r : RegionId) → r.0 ≡ join.parent.0 →
    weight_by (steps_with nodes join) round join.child + total (map (weight_by (steps_with nodes join) round) (steps_of nodes r)) < weight_by
    (steps_with nodes join) (suc round) r
unfolding weight_by
next_total_here nodes join round r h =
    let t : eqb r.0 join.parent.0 ≡ true = grind (arith, nat_tests) in
    rw t (omega arith)

pub total_here : (nodes : List Node) (join : Join) (round : ℕ) (r : RegionId) → r.0 ≡ join.parent.0 →
    weight_by (steps_with nodes join) round join.child + total (map (weight_by (steps_with nodes join) round) (steps_of nodes r)) < weight_by
    (steps_with nodes join) (round + 1) r
total_here nodes join round r h = subst (λ k. weight_by (steps_with nodes join) round join.child + total
    (map (weight_by (steps_with nodes join) round) (steps_of nodes r)) < weight_by (steps_with nodes join) k r) (sym (add-one round))
    (next_total_here nodes join round r h)

-- rounds that change nothing are the last
module _ (nodes : List Node) (join : Join) (round : ℕ) (l : 1 ≤ round) (parent : is_some (node_of nodes join.parent) ≡ true)
    (settled : (r : RegionId) (n : Node) → node_of nodes r ≡ Some n → extent_by nodes join (round + 1) r ≡ extent_by nodes join round r) where
  settled_at : (r : RegionId) → extent_by nodes join (round + 1) r ≡ extent_by nodes join round r
  settled_at r =
      elim (node_of nodes r) as (λ o. node_of nodes r ≡ o → extent_by nodes join (round + 1) r ≡ extent_by nodes join round r) [
        | Some n ↦ λ e. settled r n e
        | None ↦ λ e. extent_missing nodes join (round + 1) r (omega arith) parent e ∙ sym (extent_missing nodes join round r l parent e)
      ] refl

  -- one more round of equal extents
  next_same : (k m : ℕ) → ((r : RegionId) → extent_by nodes join k r ≡ extent_by nodes join m r) → (r : RegionId) →
      extent_by nodes join (suc k) r ≡ extent_by nodes join (suc m) r
  unfolding extent_by depth_by weight_by
  next_same k m h r =
      let d = map_agree (depth_by (steps_with nodes join) k) (depth_by (steps_with nodes join) m) (steps_with nodes join r)
      (every_of _ (λ q. ap (λ (e : Extent). e.depth) (h q)) (steps_with nodes join r)) in
      let w = map_agree (weight_by (steps_with nodes join) k) (weight_by (steps_with nodes join) m) (steps_with nodes join r)
      (every_of _ (λ q. ap (λ (e : Extent). e.weight) (h q)) (steps_with nodes join r)) in
      ap (λ xs. let e : Extent = record {
        depth = greatest xs + 1;
        weight =
            total (map (weight_by (steps_with nodes join) k) (steps_with nodes join r)) + 1;
      } in e) d
      ∙ ap (λ xs. let e : Extent = record {
        depth = greatest (map (depth_by (steps_with nodes join) m) (steps_with nodes join r)) + 1;
        weight =
            total xs + 1;
      } in e) w

  pub settled_after : (more : ℕ) (r : RegionId) → extent_by nodes join (more + round) r ≡ extent_by nodes join round r
  settled_after zero r = ap (λ k. extent_by nodes join k r) (omega arith)
  settled_after (suc more) r =
      ap (λ k. extent_by nodes join k r) (omega arith)
      ∙ next_same (more + round) round (settled_after more) r
      ∙ ap (λ k. extent_by nodes join k r) (sym (add-one round))
      ∙ settled_at r

pub greatest_within : (s : Steps) (round : ℕ) (xs : List RegionId) → greatest (map (depth_by s round) xs) ≤ round
greatest_within s round xs = greatest_at_most (depth_by s round) round (depth_by-le s round) xs

pub extent_by-depth : (nodes : List Node) (join : Join) (round : ℕ) (r : RegionId) (e : Extent) → e ≡ extent_by nodes join round r → e.depth ≤ round
unfolding extent_by
extent_by-depth nodes join round r e h = let d = ap (λ (x : Extent). x.depth) h in let l = depth_by-le (steps_with nodes join) round r in
    subst (λ k. k ≤ round) (sym d) l

pub extent_by-weight : (nodes : List Node) (join : Join) (round : ℕ) (r : RegionId) (e : Extent) → e ≡ extent_by nodes join round r →
    e.weight ≡ weight_by (steps_with nodes join) round r
unfolding extent_by
extent_by-weight nodes join round r e h = ap (λ (x : Extent). x.weight) h

-- paths of one region
one_round : (nodes : List Node) (join : Join) (r : RegionId) → extent_by nodes join 1 r ≡ record { depth = 1; weight = 1 }
unfolding extent_by depth_by weight_by
one_round nodes join r =
    let d = all_zero (steps_with nodes join) (steps_with nodes join r) in
    let e = d.0 in
    let w = d.1 in
    simp (e, w)

pub extents_one : (nodes : List Node) (join : Join) (slots : List Slot) (n : ℕ) → n ≡ length slots →
    replicate n (record { depth = 1; weight = 1 }) ≡ extents_by nodes join 1 slots
extents_one nodes join [] n l = subst (λ k. replicate k (let e : Extent = record { depth = 1; weight = 1 } in e) ≡ []) (sym l) refl
extents_one nodes join (s ∷ ss) n l =
    subst (λ k. replicate k (let e : Extent = record { depth = 1; weight = 1 } in e) ≡ extents_by nodes join 1 (s ∷ ss)) (sym l)
    (let h = extents_one nodes join ss (length ss) refl in let one = one_round nodes join s.node.id in cc)

extents_agree : (nodes : List Node) (join : Join) (k m : ℕ) → ((r : RegionId) → extent_by nodes join k r ≡ extent_by nodes join m r) → (slots : List Slot) →
    extents_by nodes join k slots ≡ extents_by nodes join m slots
extents_agree nodes join k m h [] = refl
extents_agree nodes join k m h (s ∷ ss) = let a = h s.node.id in let b = extents_agree nodes join k m h ss in cc

each_agrees : (nodes : List Node) (join : Join) (k m : ℕ) (slots : List Slot) → extents_by nodes join k slots ≡ extents_by nodes join m slots →
    Every (λ n. extent_by nodes join k n.id ≡ extent_by nodes join m n.id) (nodes_of slots)
each_agrees nodes join k m [] h = tt
each_agrees nodes join k m (s ∷ ss) h = (cc, each_agrees nodes join k m ss (cc))

-- extents that one more round does not change are those of all rounds
pub extents_settled : (slots : List Slot) (join : Join) (round all : ℕ) → 1 ≤ round → round ≤ all → is_some (node_of (nodes_of slots) join.parent) ≡ true →
    extents_by (nodes_of slots) join (round + 1) slots ≡ extents_by (nodes_of slots) join round slots →
    extents_by (nodes_of slots) join all slots ≡ extents_by (nodes_of slots) join round slots
extents_settled slots join round all l m parent h =
    let nodes = nodes_of slots in
    let each = each_agrees nodes join (round + 1) round slots h in
    let settled : (r : RegionId) (n : Node) → node_of nodes r ≡ Some n → extent_by nodes join (round + 1) r ≡ extent_by nodes join round r = λ r n e.
    subst (λ q. extent_by nodes join (round + 1) q ≡ extent_by nodes join round q) (id_of nodes r n e)
    (every_node_of (λ x. extent_by nodes join (round + 1) x.id ≡ extent_by nodes join round x.id) nodes r n e each).0 in
    let later = settled_after nodes join round l parent settled (all - round) in
    let sum : (all - round) + round ≡ all = omega arith in
    extents_agree nodes join all round (subst (λ k. (r : RegionId) → extent_by nodes join k r ≡ extent_by nodes join round r) sum later) slots

pub extent_eq : (a b : Extent) → (eqb a.depth b.depth && eqb a.weight b.weight) ≡ true → a ≡ b
extent_eq a b e =
    let h = and_parts (eqb a.depth b.depth) (eqb a.weight b.weight) e in
    let h0 = h.0 in
    let h1 = h.1 in
    let d : a.depth ≡ b.depth = grind (arith, nat_tests) in
    let w : a.weight ≡ b.weight = grind (arith, nat_tests) in
    ap (λ (k : ℕ). let x : Extent = record { depth = k; weight = a.weight } in x) d
    ∙ ap (λ (k : ℕ). let x : Extent = record { depth = b.depth; weight = k } in x) w

pub same_pointwise : {A : Type 0} (E : A → A → Bool) → ((a b : A) → E a b ≡ true → a ≡ b) → (xs ys : List A) → pointwise E xs ys ≡ true → xs ≡ ys
same_pointwise E h [] [] e = refl
same_pointwise E h [] (y ∷ ys) e = cc
same_pointwise E h (x ∷ xs) [] e = cc
same_pointwise E h (x ∷ xs) (y ∷ ys) e = let t = and_parts (E x y) (pointwise E xs ys) e in let a = h x y t.0 in let b = same_pointwise E h xs ys t.1 in cc
