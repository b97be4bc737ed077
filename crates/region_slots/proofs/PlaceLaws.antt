-- Laws of the place of a region among slots that stand by ascending id.
use Rattle.std.proofs.Common.{◌≡◌, ◌≢◌, ℕ, zero, suc, ◌<◌, ◌≤◌, false, eqb, List, [], ◌∷◌, length, get_or, map}
use Rattle.std.proofs.Common.{Some, None, Err, refl, sym, ap, subst, ◌∙◌, arith}
use Rattle.std.specs.List.Sorted.{IsBinarySearchResult, IsNonDecreasingBy}
use Rattle.std.specs.declared.cmp.Ordering.TheVariants.{Equal}
use Rattle.std.specs.Ordering.{nat_cmp, ordering_index}
use Rattle.std.proofs.lemmas.Cmp.{ranked}
use Rattle.std.proofs.lemmas.Bool.Decides.{nat_tests}
use Rattle.std.proofs.lemmas.List.{get_or-map}
use Rattle.mem_base.specs.declared.map.ids.RegionId.{RegionId}
use Rattle.mem_base.specs.lists.Every.{Every}
use Rattle.mem_base.specs.map.Region.{node_of}
use Rattle.mem_base.specs.map.Region.{IsAscending}
use Rattle.mem_base.proofs.EveryLaws.{every_at}
use Rattle.mem_base.proofs.ForestLaws.{node_of-itself}
use Rattle.region_slots.specs.declared.slots.Slot.{Slot}
use Rattle.region_slots.specs.Slots.{nodes_of}

every_unmap : {A B : Type 0} (P : B → Type 0) (f : A → B) (xs : List A) → Every P (map f xs) → Every (λ x. P (f x)) xs
every_unmap P f [] h = tt
every_unmap P f (x ∷ xs) h = (h.0, every_unmap P f xs h.1)

pub ids_rise : (slots : List Slot) (i j : ℕ) (d : Slot) → IsAscending (nodes_of slots) → i < j → j < length slots →
    (get_or slots i d).node.id.0 < (get_or slots j d).node.id.0
ids_rise [] i j d h l m = absurd (omega arith)
ids_rise (s ∷ ss) i zero d h l m = absurd (omega arith)
ids_rise (s ∷ ss) zero (suc j) d h l m =
    every_at (λ t. s.node.id.0 < t.node.id.0) ss j d (omega arith) (every_unmap (λ n. s.node.id.0 < n.id.0) (λ t. t.node) ss h.0)
ids_rise (s ∷ ss) (suc i) (suc j) d h l m = ids_rise ss i j d h.1 (omega arith) (omega arith)

pub length_nodes : (slots : List Slot) → length (nodes_of slots) ≡ length slots
length_nodes [] = refl
length_nodes (s ∷ ss) = ap suc (length_nodes ss)

-- the region at a place is the one with its id
known_there : (slots : List Slot) (i : ℕ) (d : Slot) → i < length slots → IsAscending (nodes_of slots) →
    node_of (nodes_of slots) (get_or slots i d).node.id ≡ Some (get_or slots i d).node
known_there slots i d l ascending =
    let e = get_or-map (λ (s : Slot). s.node) slots i d d.node l in
    subst (λ n. node_of (nodes_of slots) n.id ≡ Some n) e
    (every_at (λ n. node_of (nodes_of slots) n.id ≡ Some n) (nodes_of slots) i d.node (omega (arith, length_nodes slots))
    (node_of-itself (nodes_of slots) ascending))

pub found_there : (slots : List Slot) (i : ℕ) (d : Slot) (r : RegionId) → i < length slots → IsAscending (nodes_of slots) →
    (get_or slots i d).node.id.0 ≡ r.0 → node_of (nodes_of slots) r ≡ Some (get_or slots i d).node
found_there slots i d r l ascending e =
    let same : (get_or slots i d).node.id ≡ r = ap (λ (v : ℕ). let q : RegionId = record { 0 = v } in q) e in
    ap (node_of (nodes_of slots)) (sym same) ∙ known_there slots i d l ascending

-- a region whose id stands nowhere is not there
missing : (slots : List Slot) (r : RegionId) → ((k : ℕ) (d : Slot) → k < length slots → (get_or slots k d).node.id.0 ≢ r.0) → node_of (nodes_of slots) r ≡ None
missing [] r h = refl
missing (s ∷ ss) r h =
    let first = h 0 s (omega arith) in
    let t : eqb s.node.id.0 r.0 ≡ false = grind (arith, nat_tests) in
    rw t (missing ss r (λ k d l. h (suc k) d (omega arith)))

module _ (slots : List Slot) (ascending : IsAscending (nodes_of slots)) (r : RegionId) where
  comparisons_rise : IsNonDecreasingBy (λ (s : Slot). ordering_index (nat_cmp s.node.id.0 r.0)) slots
  comparisons_rise i j d le l =
      let rise : (get_or slots i d).node.id.0 ≤ (get_or slots j d).node.id.0 =
      grind (arith, ids_rise slots i j d ascending, λ (same : i ≡ j). ap (λ k. (get_or slots k d).node.id.0) same) in
      grind (arith, nat_tests)

  pub search_found : (i : ℕ) (d : Slot) → i < length slots → ((d : Slot) → nat_cmp (get_or slots i d).node.id.0 r.0 ≡ Equal) →
      node_of (nodes_of slots) r ≡ Some (get_or slots i d).node
  search_found i d l e = found_there slots i d r l ascending (ranked _ r.0 _ (sym (e d)))

  pub search_missing : (i : ℕ) → i ≤ length slots → IsBinarySearchResult (λ (s : Slot). nat_cmp s.node.id.0 r.0) slots (Err i) →
      node_of (nodes_of slots) r ≡ None
  search_missing i l e =
      let parts = e comparisons_rise in
      missing slots r (λ k d m same.
      let a : k < i → (get_or slots k d).node.id.0 < r.0 = λ b. ranked _ r.0 _ (sym (parts.0 k d (omega arith) b)) in
      let b : i ≤ k → r.0 < (get_or slots k d).node.id.0 = λ c. ranked _ r.0 _ (sym (parts.1 k d c m)) in
      grind (arith, a, b))
