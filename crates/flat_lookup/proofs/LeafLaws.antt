-- A number among numbers in order, found by halves.
use Rattle.std.proofs.Common.{◌≡◌, ◌≢◌, ◌==◌, ℕ, suc, ◌<◌, ◌≤◌, Bool, true, false, eqb, List, [], ◌∷◌, length, get_or, Err, refl, sym, ap, arith}
use Rattle.std.specs.List.Sorted.{IsBinarySearchResult, IsNonDecreasingBy, IsPermutation}
use Rattle.std.specs.declared.cmp.Ordering.TheVariants.{Equal}
use Rattle.std.specs.Ordering.{nat_cmp, ordering_index}
use Rattle.std.proofs.lemmas.Cmp.{ranked}
use Rattle.std.proofs.lemmas.Bool.Decides.{nat_tests}
use Rattle.std.proofs.lemmas.List.Folds.{list_any_at}
use Rattle.std.proofs.lemmas.List.Sorted.{list_any-IsPermutation}
use Rattle.mem_base.specs.declared.map.ids.RegionId.{RegionId}
use Rattle.mem_base.specs.declared.views.flat.FlatRange.{FlatRange}
use Rattle.mem_base.specs.views.Naming.{has_leaf}
use Rattle.flat_lookup.specs.Leaves.{has_number, leaf_numbers, is_noted}

-- a number that stands nowhere is not there
missing : (n : ℕ) (ns : List ℕ) → ((k d : ℕ) → k < length ns → get_or ns k d ≢ n) → has_number n ns ≡ false
missing n [] h = refl
missing n (m ∷ ms) h =
    let first = h 0 m (omega arith) in
    let t : eqb m n ≡ false = grind (arith, nat_tests) in
    rw t (missing n ms (λ k d l. h (suc k) d (omega arith)))

module _ (ns : List ℕ) (n : ℕ) where
  pub number_found : (i : ℕ) → i < length ns → ((d : ℕ) → nat_cmp (get_or ns i d) n ≡ Equal) → has_number n ns ≡ true
  number_found i l e =
      let same : get_or ns i 0 ≡ n = ranked _ n _ (sym (e 0)) in
      list_any_at (λ m. m == n) ns i 0 l (grind (arith, nat_tests, same))

  comparisons_rise : IsNonDecreasingBy (λ (m : ℕ). m) ns → IsNonDecreasingBy (λ (m : ℕ). ordering_index (nat_cmp m n)) ns
  comparisons_rise rise i j d le l = let up = rise i j d le l in grind (arith, nat_tests)

  pub number_missing : (i : ℕ) → IsNonDecreasingBy (λ (m : ℕ). m) ns → i ≤ length ns → IsBinarySearchResult (λ m. nat_cmp m n) ns (Err i)
      → has_number n ns ≡ false
  number_missing i rise l e =
      let parts = e (comparisons_rise rise) in
      missing n ns (λ k d m same.
      let a : k < i → get_or ns k d < n = λ b. ranked _ n _ (sym (parts.0 k d (omega arith) b)) in
      let b : i ≤ k → n < get_or ns k d = λ c. ranked _ n _ (sym (parts.1 k d c m)) in
      grind (arith, a, b))

-- sorting the others keeps what is noted
pub sorted_others : (marks : List Bool) (before after : List ℕ) → IsPermutation before after → (n : ℕ) → is_noted marks after n ≡ is_noted marks before n
sorted_others marks before after p n = ap (get_or marks n) (sym (list_any-IsPermutation (λ m. m == n) before after p))

-- a leaf of some range is one of the leaves
pub leaf_is : (region : RegionId) (rs : List FlatRange) → has_number region.0 (leaf_numbers rs) ≡ has_leaf region rs
leaf_is region [] = refl
leaf_is region (r ∷ rs) = rw (leaf_is region rs) refl
