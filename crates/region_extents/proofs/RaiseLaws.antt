-- Laws of extents that are set right upward from a region whose steps changed.
use Rattle.std.proofs.Common.{◌≡◌, ◌≢◌, ℕ, zero, suc, ◌+◌, ◌<◌, ◌≤◌, max, Bool, true, false, cond, eqb, List, [], ◌∷◌, ◌++◌, length}
use Rattle.std.proofs.Common.{get_or, set, insert, take, map, Option, Some, None, refl, sym, ap, subst, ◌∙◌, arith}
use Rattle.std.specs.Prelude.{IfSome, ◌-◌}
use Rattle.std.proofs.lemmas.Bool.Decides.{nat_tests}
use Rattle.mem_base.specs.declared.map.ids.RegionId.{RegionId}
use Rattle.mem_base.specs.declared.map.forests.Node.{Node}
use Rattle.mem_base.specs.lists.Every.{Every}
use Rattle.mem_base.specs.map.Region.{node_of, has_id}
use Rattle.mem_base.specs.map.Region.{IsAscending}
use Rattle.mem_base.specs.map.Steps.{Steps, steps_of, greatest, total, depth_by, weight_by, reaches_by}
use Rattle.mem_base.proofs.EveryLaws.{weaker}
use Rattle.mem_base.proofs.StepLaws.{map_agree, no_any}
use Rattle.mem_base.proofs.ForestLaws.{id_of}
use Rattle.region_slots.specs.declared.slots.Slot.{Slot}
use Rattle.region_extents.specs.declared.extents.Extent.{Extent}
use Rattle.region_slots.specs.Slots.{nodes_of}
use Rattle.region_extents.specs.declared.extents.Join.{Join}
use Rattle.region_extents.specs.declared.journal.Before.{Before}
use Rattle.region_extents.specs.Extents.{told_of, stepped, steps_with}
use Rattle.region_extents.specs.Kept.{listed, undone, with_child, IsSettledBy}
use Rattle.region_slots.proofs.PlaceLaws.{ids_rise}
use Rattle.std.proofs.lemmas.Bool.{or_parts}

-- an extent by its two numbers
abbrev extent : ℕ → ℕ → Extent
extent d w = record { depth = d; weight = w }

-- what is told after one extent was changed: that one of its region
pub told_set-here : (slots : List Slot) (es : List Extent) (i : ℕ) (d : Slot) (e : Extent) (r : RegionId) → IsAscending (nodes_of slots) →
    length es ≡ length slots → i < length slots → (get_or slots i d).node.id.0 ≡ r.0 → told_of slots (set es i e) r ≡ e
told_set-here [] es i d e r a l h k = absurd (omega arith)
told_set-here (s ∷ ss) [] i d e r a l h k = cc
told_set-here (s ∷ ss) (x ∷ es) zero d e r a l h k = let t : has_id r s.node ≡ true = grind (arith, nat_tests) in rw t refl
told_set-here (s ∷ ss) (x ∷ es) (suc i) d e r a l h k =
    let less = ids_rise (s ∷ ss) 0 (suc i) d a (omega arith) h in
    let t : has_id r s.node ≡ false = grind (arith, nat_tests) in
    rw t (told_set-here ss es i d e r a.1 (omega arith) (omega arith) k)

-- and what it was of any other
pub told_set-other : (slots : List Slot) (es : List Extent) (i : ℕ) (d : Slot) (e : Extent) (r : RegionId) → (get_or slots i d).node.id.0 ≢ r.0 →
    told_of slots (set es i e) r ≡ told_of slots es r
told_set-other [] es i d e r k = refl
told_set-other (s ∷ ss) [] i d e r k = refl
told_set-other (s ∷ ss) (x ∷ es) zero d e r k = let t : has_id r s.node ≡ false = grind (arith, nat_tests) in rw t refl
told_set-other (s ∷ ss) (x ∷ es) (suc i) d e r k =
    elim (has_id r s.node) as (λ b. cond b x (told_of ss (set es i e) r) ≡ cond b x (told_of ss es r))
    [ true ↦ refl | false ↦ told_set-other ss es i d e r k ]

-- what is told alike of those that a region leads to
pub stepped_agree : (t u : RegionId → Extent) (xs : List RegionId) → Every (λ q. t q ≡ u q) xs → stepped t xs ≡ stepped u xs
stepped_agree t u xs h =
    let d = map_agree (λ q. (t q).depth) (λ q. (u q).depth) xs
    (weaker (λ q. t q ≡ u q) (λ q. (t q).depth ≡ (u q).depth) (λ q e. ap (λ (x : Extent). x.depth) e) xs h) in
    let w = map_agree (λ q. (t q).weight) (λ q. (u q).weight) xs
    (weaker (λ q. t q ≡ u q) (λ q. (t q).weight ≡ (u q).weight) (λ q e. ap (λ (x : Extent). x.weight) e) xs h) in
    ap (λ ks. extent (greatest ks + 1) (total (map (λ q. (t q).weight) xs) + 1)) d
    ∙ ap (λ ks. extent (greatest (map (λ q. (u q).depth) xs) + 1) (total ks + 1)) w

-- those that are not this region
pub unlisted : (r : RegionId) (xs : List RegionId) → listed r xs ≡ false → Every (λ q. r.0 ≢ q.0) xs
unlisted r [] h = tt
unlisted r (x ∷ xs) h = let p = or_parts (eqb x.0 r.0) (listed r xs) h in let t = p.0 in (λ k. grind (arith, nat_tests), unlisted r xs p.1)

-- one region was set right: those that do not lead to it stay settled, and it is settled itself
module _ (steps : Steps) (slots : List Slot) (es : List Extent) (i : ℕ) (d : Slot) (e : Extent) (r : RegionId)
    (ascending : IsAscending (nodes_of slots)) (all : length es ≡ length slots) (there : i < length slots) (here : (get_or slots i d).node.id.0 ≡ r.0)
    (given : e ≡ stepped (told_of slots es) (steps r)) where
  steps_agree : (v : RegionId) → listed r (steps v) ≡ false → stepped (told_of slots (set es i e)) (steps v) ≡ stepped (told_of slots es) (steps v)
  steps_agree v h = stepped_agree (told_of slots (set es i e)) (told_of slots es) (steps v)
      (weaker (λ q. r.0 ≢ q.0) (λ q. told_of slots (set es i e) q ≡ told_of slots es q) (λ q k. told_set-other slots es i d e q (λ same. k (omega arith)))
      (steps v) (unlisted r (steps v) h))

  pub settled_after_set : (v : RegionId) → (v.0 ≢ r.0 → IsSettledBy steps slots es v) → listed r (steps v) ≡ false → IsSettledBy steps slots (set es i e) v
  settled_after_set v was apart =
      elim (eqb v.0 r.0) as (λ b. eqb v.0 r.0 ≡ b → IsSettledBy steps slots (set es i e) v) [
        | true ↦ λ t.
            let k : r.0 ≡ v.0 = grind (arith, nat_tests) in
            let same : r ≡ v = ap (λ (n : ℕ). let q : RegionId = record { 0 = n } in q) k in
            told_set-here slots es i d e v ascending all there (omega arith)
            ∙ given ∙ ap (λ q. stepped (told_of slots es) (steps q)) same ∙ sym (steps_agree v apart)
        | false ↦ λ t.
            let k : v.0 ≢ r.0 = λ same. grind (arith, nat_tests) in
            told_set-other slots es i d e v (λ same. k (omega arith)) ∙ was k ∙ sym (steps_agree v apart)
      ] refl

-- a region that its steps leave as it is is settled as well
pub settled_as_it_is : (steps : Steps) (slots : List Slot) (es : List Extent) (r : RegionId) → told_of slots es r ≡ stepped (told_of slots es) (steps r) →
    (v : RegionId) → (v.0 ≢ r.0 → IsSettledBy steps slots es v) → IsSettledBy steps slots es v
settled_as_it_is steps slots es r here v was =
    elim (eqb v.0 r.0) as (λ b. eqb v.0 r.0 ≡ b → IsSettledBy steps slots es v) [
      | true ↦ λ t.
          let k : r.0 ≡ v.0 = grind (arith, nat_tests) in
          let same : r ≡ v = ap (λ (n : ℕ). let q : RegionId = record { 0 = n } in q) k in
          subst (IsSettledBy steps slots es) same here
      | false ↦ λ t. was (λ same. grind (arith, nat_tests))
    ] refl

-- an extent put at the place of a region that its steps give: those that do not lead to it stay settled
module _ (steps : Steps) (slots : List Slot) (es new : List Extent) (i : ℕ) (d : Slot) (e : Extent) (r : RegionId)
    (ascending : IsAscending (nodes_of slots)) (all : length es ≡ length slots) (there : i < length slots) (here : (get_or slots i d).node.id.0 ≡ r.0)
    (given : e ≡ stepped (told_of slots es) (steps r)) (put : new ≡ set es i e) where
  as_it_was : new ≡ es → told_of slots es r ≡ stepped (told_of slots es) (steps r)
  as_it_was same = ap (λ xs. told_of slots xs r) (sym same ∙ put) ∙ told_set-here slots es i d e r ascending all there here ∙ given

  pub replaced_settled : (changed : Bool) → (changed ≡ false → new ≡ es) → (v : RegionId) → (v.0 ≢ r.0 → IsSettledBy steps slots es v) →
      (changed ≡ true → listed r (steps v) ≡ false) → IsSettledBy steps slots new v
  replaced_settled true same v was apart =
      subst (λ xs. IsSettledBy steps slots xs v) (sym put) (settled_after_set steps slots es i d e r ascending all there here given v was (apart refl))
  replaced_settled false same v was apart =
      subst (λ xs. IsSettledBy steps slots xs v) (sym (same refl)) (settled_as_it_is steps slots es r (as_it_was (same refl)) v was)

pub replaced_if : (steps : Steps) (slots : List Slot) (es new : List Extent) (i : ℕ) (d : Slot) (e : Extent) (r : RegionId) → IsAscending (nodes_of slots) →
    length es ≡ length slots → i < length slots → (get_or slots i d).node.id.0 ≡ r.0 → e ≡ stepped (told_of slots es) (steps r) → (o : Option Bool) →
    IfSome o (λ changed. new ≡ set es i e) → IfSome o (λ changed. changed ≡ false → new ≡ es) →
    IfSome o (λ changed. (v : RegionId) → (v.0 ≢ r.0 → IsSettledBy steps slots es v) → (changed ≡ true → listed r (steps v) ≡ false) →
    IsSettledBy steps slots new v)
replaced_if steps slots es new i d e r ascending all there here given None p q = tt
replaced_if steps slots es new i d e r ascending all there here given (Some changed) p q =
    λ v was apart. replaced_settled steps slots es new i d e r ascending all there here given p changed q v was apart

-- the slot of a region that was found
pub found_slot : (slots : List Slot) (i : ℕ) (s : Slot) (r : RegionId) → ((d : Slot) → node_of (nodes_of slots) r ≡ Some (get_or slots i d).node) →
    (get_or slots i s).node.id ≡ r
found_slot slots i s r found = id_of (nodes_of slots) r (get_or slots i s).node (found s)

-- what the parent of one more step has then
pub first_given : (nodes : List Node) (join : Join) (told : RegionId → Extent) → told join.parent ≡ stepped told (steps_of nodes join.parent) →
    with_child (told join.parent) (told join.child) ≡ stepped told (steps_with nodes join join.parent)
first_given nodes join told h =
    let t : eqb join.parent.0 join.parent.0 ≡ true = grind (arith, nat_tests) in
    let d = ap (λ (x : Extent). x.depth) h in
    let w = ap (λ (x : Extent). x.weight) h in
    let below = steps_of nodes join.parent in
    let deep : max (told join.parent).depth ((told join.child).depth + 1) ≡ max (told join.child).depth (greatest (map (λ q. (told q).depth) below)) + 1 =
    omega arith in
    let wide : (told join.parent).weight + (told join.child).weight ≡ (told join.child).weight + total (map (λ q. (told q).weight) below) + 1 = omega arith in
    ap (λ k. extent k ((told join.parent).weight + (told join.child).weight)) deep
    ∙ ap (λ k. extent (max (told join.child).depth (greatest (map (λ q. (told q).depth) below)) + 1) k) wide
    ∙ ap (λ b. stepped told (cond b (join.child ∷ below) below)) (sym t)

-- a journal of what was replaced
pub undone_push : (bs : List Before) (b : Before) (es : List Extent) → undone (bs ++ b ∷ []) es ≡ undone bs (set es b.at b.extent)
undone_push [] b es = refl
undone_push (x ∷ bs) b es = ap (λ l. set l x.at x.extent) (undone_push bs b es)

set_back : (es : List Extent) (i : ℕ) (d e : Extent) → set (set es i e) i (get_or es i d) ≡ es
set_back [] zero d e = refl
set_back [] (suc i) d e = refl
set_back (x ∷ es) zero d e = refl
set_back (x ∷ es) (suc i) d e = ap (λ l. x ∷ l) (set_back es i d e)

pub undone_replaced : (bs : List Before) (es : List Extent) (i : ℕ) (d e old : Extent) → old ≡ get_or es i d →
    undone (bs ++ (let b : Before = record { at = i; extent = old } in b) ∷ []) (set es i e) ≡ undone bs es
undone_replaced bs es i d e old h = undone_push bs (record { at = i; extent = old }) (set es i e) ∙ ap (λ x. undone bs (set (set es i e) i x)) h
    ∙ ap (undone bs) (set_back es i d e)

take_one : {A : Type 0} (xs : List A) (k : ℕ) (d : A) → k < length xs → take (suc k) xs ≡ take k xs ++ get_or xs k d ∷ []
take_one [] k d l = absurd (omega arith)
take_one (x ∷ xs) zero d l = refl
take_one (x ∷ xs) (suc k) d l = ap (λ l. x ∷ l) (take_one xs k d (omega arith))

-- one more put back
pub undone_one : (bs : List Before) (left : ℕ) (d : Before) (es : List Extent) → 0 < left → left ≤ length bs →
    undone (take (left - 1) bs) (set es (get_or bs (left - 1) d).at (get_or bs (left - 1) d).extent) ≡ undone (take left bs) es
undone_one bs zero d es k l = absurd (omega arith)
undone_one bs (suc n) d es k l =
    let e : suc n - 1 ≡ n = omega arith in
    rw e (sym (ap (λ xs. undone xs es) (take_one bs n d (omega arith)) ∙ undone_push (take n bs) (get_or bs n d) es))

-- an extent that is the one at its place
pub set_same : (es : List Extent) (i : ℕ) (d e : Extent) → i < length es → e.depth ≡ (get_or es i d).depth → e.weight ≡ (get_or es i d).weight → es ≡ set es i e
set_same [] i d e l h k = absurd (omega arith)
set_same (x ∷ es) zero d e l h k = ap (λ (y : Extent). y ∷ es) (ap (λ n. extent n x.weight) (sym h) ∙ ap (λ n. extent e.depth n) (sym k))
set_same (x ∷ es) (suc i) d e l h k = ap (λ l. x ∷ l) (set_same es i d e (omega arith) h k)

-- a list with one region more
pub listed_insert : (v r : RegionId) (xs : List RegionId) (i : ℕ) → i ≤ length xs → listed v (insert xs i r) ≡ false → (listed v xs ≡ false) × (r.0 ≢ v.0)
listed_insert v r xs zero l h = let p = or_parts (eqb r.0 v.0) (listed v xs) h in let t = p.0 in (p.1, λ k. grind (arith, nat_tests))
listed_insert v r [] (suc i) l h = absurd (omega arith)
listed_insert v r (x ∷ xs) (suc i) l h =
    let p = or_parts (eqb x.0 v.0) (listed v (insert xs i r)) h in
    let q = listed_insert v r xs i (omega arith) p.1 in
    let a = p.0 in
    let b = q.0 in
    (rw a b, q.1)

-- one that stands there already
pub listed_there : (v r : RegionId) (xs : List RegionId) (i : ℕ) (d : RegionId) → i < length xs → (get_or xs i d).0 ≡ r.0 → listed v xs ≡ false → r.0 ≢ v.0
listed_there v r [] i d l e h = absurd (omega arith)
listed_there v r (x ∷ xs) zero d l e h = let t = (or_parts (eqb x.0 v.0) (listed v xs) h).0 in λ k. grind (arith, nat_tests)
listed_there v r (x ∷ xs) (suc i) d l e h = listed_there v r xs i d (omega arith) e (or_parts (eqb x.0 v.0) (listed v xs) h).1

-- the last one taken away
pub listed_last : (v r : RegionId) (xs : List RegionId) → v.0 ≢ r.0 → listed v xs ≡ false → listed v (xs ++ r ∷ []) ≡ false
listed_last v r [] k h = let t : eqb r.0 v.0 ≡ false = grind (arith, nat_tests) in rw t refl
listed_last v r (x ∷ xs) k h = let p = or_parts (eqb x.0 v.0) (listed v xs) h in let a = p.0 in let b = listed_last v r xs k p.1 in rw a b

-- where all is settled, what is told of a region is its extent
module _ (steps : Steps) (told : RegionId → Extent) (settled : (r : RegionId) → told r ≡ stepped told (steps r)) where
  none_greater : (g : RegionId → ℕ) (xs : List RegionId) → Every (λ x. g x ≤ greatest (map g xs)) xs
  none_greater g [] = tt
  none_greater g (x ∷ xs) = (
    omega arith,
    weaker (λ y. g y ≤ greatest (map g xs)) (λ y. g y ≤ max (g x) (greatest (map g xs))) (λ y l. omega arith) xs
        (none_greater g xs),
  )

  -- each step leads to one less deep
  pub steps_fall : (r : RegionId) → Every (λ q. (told q).depth < (told r).depth) (steps r)
  steps_fall r =
      let d = ap (λ (x : Extent). x.depth) (settled r) in
      weaker (λ q. (told q).depth ≤ greatest (map (λ q. (told q).depth) (steps r))) (λ q. (told q).depth < (told r).depth) (λ q l. omega arith) (steps r)
      (none_greater (λ q. (told q).depth) (steps r))

  pub told_by : (k : ℕ) (r : RegionId) → (told r).depth ≤ k → told r ≡ extent (depth_by steps k r) (weight_by steps k r)
  unfolding depth_by weight_by
  told_by zero r l = let d = ap (λ (x : Extent). x.depth) (settled r) in absurd (omega arith)
  told_by (suc k) r l =
      let e = settled r in
      let below = weaker (λ q. (told q).depth < (told r).depth) (λ q. told q ≡ extent (depth_by steps k q) (weight_by steps k q))
      (λ q h. told_by k q (omega arith)) (steps r) (steps_fall r) in
      let ds = map_agree (λ q. (told q).depth) (depth_by steps k) (steps r)
      (weaker (λ q. told q ≡ extent (depth_by steps k q) (weight_by steps k q)) (λ q. (told q).depth ≡ depth_by steps k q)
      (λ q h. ap (λ (x : Extent). x.depth) h) (steps r) below) in
      let ws = map_agree (λ q. (told q).weight) (weight_by steps k) (steps r)
      (weaker (λ q. told q ≡ extent (depth_by steps k q) (weight_by steps k q)) (λ q. (told q).weight ≡ weight_by steps k q)
      (λ q h. ap (λ (x : Extent). x.weight) h) (steps r) below) in
      e
      ∙ ap (λ xs. extent (greatest xs + 1) (total (map (λ q. (told q).weight) (steps r)) + 1)) ds
      ∙ ap (λ xs. extent (greatest (map (depth_by steps k) (steps r)) + 1) (total xs + 1)) ws

-- where each step leads to one less deep, no region reaches a deeper one: such steps make no loop
module _ (s : Steps) (depth : RegionId → ℕ) (falls : (r : RegionId) → Every (λ q. depth q < depth r) (s r)) where
  pub reaches_down : (k : ℕ) (from to : RegionId) → depth from < depth to → reaches_by s k from to ≡ false
  unfolding reaches_by
  reaches_down zero from to l = refl
  reaches_down (suc k) from to l =
      let other : eqb from.0 to.0 ≡ false = elim (eqb from.0 to.0) as (λ b. eqb from.0 to.0 ≡ b → b ≡ false) [
        | true ↦ λ t.
            let same : from ≡ to = ap (λ (n : ℕ). let q : RegionId = record { 0 = n } in q) (grind (arith, nat_tests)) in
            let deep = ap depth same in
            absurd (omega arith)
        | false ↦ λ t. refl
      ] refl in
      let none = no_any (λ q. reaches_by s k q to) (s from)
      (weaker (λ q. depth q < depth from) (λ q. reaches_by s k q to ≡ false) (λ q m. reaches_down k q to (omega arith)) (s from) (falls from)) in
      rw other none
