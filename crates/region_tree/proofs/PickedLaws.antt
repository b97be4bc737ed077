-- Laws of regions picked by marks beside them.
use Rattle.std.proofs.Common.{◌≡◌, ℕ, zero, suc, ◌+◌, ◌<◌, Bool, true, false, cond, None, List, [], ◌∷◌, ◌++◌, length, replicate, filter}
use Rattle.std.proofs.Common.{take, get_or, refl, sym, ap, ◌∙◌, arith, add-one}
use Rattle.std.proofs.lemmas.List.{get_or-map, take-map}
use Rattle.region_slots.specs.declared.slots.Slot.{Slot}
use Rattle.region_slots.specs.Slots.{nodes_of}
use Rattle.region_slots.proofs.PlaceLaws.{length_nodes}
use Rattle.mem_base.specs.declared.map.ids.RegionId.{RegionId}
use Rattle.mem_base.specs.declared.map.forests.Node.{Node}
use Rattle.mem_base.specs.map.Order.{ids_of}
use Rattle.mem_base.specs.map.Touched.{is_reached_from}
use Rattle.region_extents.specs.Marks.{marked}
use Rattle.region_tree.specs.Reach.{picked}

-- where no region had a mark before, those are picked that pass the test
pub picked_marked : (ns : List Node) (test : RegionId → Bool) → picked ns (marked ns test (replicate (length ns) false)) ≡ ids_of (filter (λ n. test n.id) ns)
picked_marked [] test = refl
picked_marked (n ∷ ns) test =
    let ih = picked_marked ns test in
    elim (test n.id) as (λ b. picked (n ∷ ns) (b ∷ marked ns test (replicate (length ns) false)) ≡ ids_of
    (cond b (n ∷ filter (λ m. test m.id) ns) (filter (λ m. test m.id) ns))) [ true ↦ ap (λ l. n.id ∷ l) ih | false ↦ ih ]

pub none_reached : (ms ns : List Node) → ids_of (filter (λ n. is_reached_from ms None n.id) ns) ≡ []
none_reached ms [] = refl
none_reached ms (n ∷ ns) = none_reached ms ns

-- one more
pub picked_one : (ns : List Node) (bs : List Bool) (i : ℕ) (d : Node) (e : Bool) → i < length ns → i < length bs →
    picked (take (suc i) ns) bs ≡ picked (take i ns) bs ++ cond (get_or bs i e) ((get_or ns i d).id ∷ []) []
picked_one [] bs i d e l m = absurd (omega arith)
picked_one (n ∷ ns) [] i d e l m = absurd (omega arith)
picked_one (n ∷ ns) (b ∷ bs) zero d e l m = refl
picked_one (n ∷ ns) (b ∷ bs) (suc i) d e l m =
    let ih = picked_one ns bs i d e (omega arith) (omega arith) in
    elim b as (λ c. cond c (n.id ∷ picked (take (suc i) ns) bs) (picked (take (suc i) ns) bs) ≡ cond c (n.id ∷ picked (take i ns) bs) (picked (take i ns) bs)
    ++ cond (get_or bs i e) ((get_or ns i d).id ∷ []) []) [ true ↦ ap (λ l. n.id ∷ l) ih | false ↦ ih ]

pub picked_slots : (slots : List Slot) (bs : List Bool) (i : ℕ) (d : Slot) (e : Bool) (list new : List RegionId) → length bs ≡ length slots →
    i < length slots → list ≡ picked (nodes_of (take i slots)) bs → new ≡ list ++ cond (get_or bs i e) ((get_or slots i d).node.id ∷ []) [] →
    new ≡ picked (nodes_of (take (i + 1) slots)) bs
picked_slots slots bs i d e list new all l h k =
    let here = get_or-map (λ (s : Slot). s.node) slots i d d.node l in
    let upto : (j : ℕ) → take j (nodes_of slots) ≡ nodes_of (take j slots) = λ j. take-map (λ (s : Slot). s.node) j slots in
    k ∙ ap (λ x. x ++ cond (get_or bs i e) ((get_or slots i d).node.id ∷ []) []) (h ∙ ap (λ ns. picked ns bs) (sym (upto i)))
    ∙ ap (λ (n : Node). picked (take i (nodes_of slots)) bs ++ cond (get_or bs i e) (n.id ∷ []) []) (sym here)
    ∙ sym (picked_one (nodes_of slots) bs i d.node e (omega (arith, length_nodes slots)) (omega arith))
    ∙ ap (λ ns. picked ns bs) (upto (suc i)) ∙ ap (λ j. picked (nodes_of (take j slots)) bs) (sym (add-one i))
