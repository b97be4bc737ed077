-- Laws of extents that are settled: where what is told of each region is what its steps give, it is its extent.
use Rattle.std.proofs.Common.{◌≡◌, ◌≢◌, ℕ, zero, suc, ◌+◌, ◌<◌, max, true, false, cond, eqb, List, [], ◌∷◌, length, get_or, map}
use Rattle.std.proofs.Common.{Some, None, refl, sym, ap, ◌∙◌, arith}
use Rattle.std.proofs.lemmas.Bool.Decides.{nat_tests}
use Rattle.mem_base.specs.declared.map.ids.RegionId.{RegionId}
use Rattle.mem_base.specs.declared.map.forests.Node.{Node}
use Rattle.mem_base.specs.lists.Every.{Every}
use Rattle.mem_base.specs.map.Region.{node_of, has_id}
use Rattle.mem_base.specs.map.Region.{IsAscending}
use Rattle.mem_base.specs.map.Steps.{steps_of, greatest, total}
use Rattle.region_slots.specs.declared.slots.Slot.{Slot}
use Rattle.region_extents.specs.declared.extents.Extent.{Extent}
use Rattle.region_extents.specs.declared.extents.Join.{Join}
use Rattle.region_slots.specs.Slots.{nodes_of}
use Rattle.region_extents.specs.Extents.{steps_with, alone, told_of, stepped}
use Rattle.region_slots.proofs.PlaceLaws.{ids_rise}

-- what is told of a region whose slot is found
pub told_there : (slots : List Slot) (es : List Extent) (i : ℕ) (d : Slot) (e : Extent) (r : RegionId) → IsAscending (nodes_of slots) →
    length es ≡ length slots → i < length slots → (get_or slots i d).node.id.0 ≡ r.0 → told_of slots es r ≡ get_or es i e
told_there [] es i d e r a l h k = absurd (omega arith)
told_there (s ∷ ss) [] i d e r a l h k = cc
told_there (s ∷ ss) (x ∷ es) zero d e r a l h k = let t : has_id r s.node ≡ true = grind (arith, nat_tests) in rw t refl
told_there (s ∷ ss) (x ∷ es) (suc i) d e r a l h k =
    let less = ids_rise (s ∷ ss) 0 (suc i) d a (omega arith) h in
    let t : has_id r s.node ≡ false = grind (arith, nat_tests) in
    rw t (told_there ss es i d e r a.1 (omega arith) (omega arith) k)

-- nothing is told of a region that is not there
pub told_missing : (slots : List Slot) (es : List Extent) (r : RegionId) → node_of (nodes_of slots) r ≡ None → told_of slots es r ≡ alone
told_missing [] es r h = refl
told_missing (s ∷ ss) [] r h = refl
told_missing (s ∷ ss) (x ∷ es) r h =
    elim (has_id r s.node) as (λ b. cond b (Some s.node) (node_of (nodes_of ss) r) ≡ None → cond b x (told_of ss es r) ≡ alone)
    [ true ↦ λ k. cc | false ↦ λ k. told_missing ss es r k ] h

-- the list is what it tells of the slots, one after another
pub all_told : (slots : List Slot) (es : List Extent) → IsAscending (nodes_of slots) → length es ≡ length slots →
    es ≡ map (λ (s : Slot). told_of slots es s.node.id) slots
all_told [] [] a l = refl
all_told [] (x ∷ es) a l = cc
all_told (s ∷ ss) [] a l = cc
all_told (s ∷ ss) (x ∷ es) a l =
    let first : has_id s.node.id s.node ≡ true = grind (arith, nat_tests) in
    let rest = all_told ss es a.1 (omega arith) in
    rw first (ap (λ t. x ∷ t) (rest ∙ sym (later ss a.0)))
  where
    later : (ts : List Slot) → Every (λ n. s.node.id.0 < n.id.0) (nodes_of ts) →
        map (λ (t : Slot). told_of (s ∷ ss) (x ∷ es) t.node.id) ts ≡ map (λ (t : Slot). told_of ss es t.node.id) ts
    later [] h = refl
    later (t ∷ ts) h =
        let less = h.0 in
        let other : has_id t.node.id s.node ≡ false = grind (arith, nat_tests) in
        let ih = later ts h.1 in
        rw other (ap (λ l. told_of ss es t.node.id ∷ l) ih)

-- one step at a region, with or without the step that is added
pub stepped_elsewhere : (nodes : List Node) (join : Join) (told : RegionId → Extent) (r : RegionId) (e : Extent) → r.0 ≢ join.parent.0 →
    e.depth ≡ greatest (map (λ q. (told q).depth) (steps_of nodes r)) → e.weight ≡ total (map (λ q. (told q).weight) (steps_of nodes r)) →
    record { depth = e.depth + 1; weight = e.weight + 1 } ≡ stepped told (steps_with nodes join r)
stepped_elsewhere nodes join told r e h d w =
    let t : eqb r.0 join.parent.0 ≡ false = grind (arith, nat_tests) in
    simp (t, d, w)

pub stepped_here : (nodes : List Node) (join : Join) (told : RegionId → Extent) (r : RegionId) (e f : Extent) → r.0 ≡ join.parent.0 →
    e.depth ≡ greatest (map (λ q. (told q).depth) (steps_of nodes r)) → e.weight ≡ total (map (λ q. (told q).weight) (steps_of nodes r)) →
    f ≡ told join.child → record { depth = max f.depth e.depth + 1; weight = f.weight + e.weight + 1 } ≡ stepped told (steps_with nodes join r)
stepped_here nodes join told r e f h d w c =
    let t : eqb r.0 join.parent.0 ≡ true = grind (arith, nat_tests) in
    simp (t, d, w, c)
