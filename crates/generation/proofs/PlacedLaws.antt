-- The place of a region, among places in order.
use Rattle.std.proofs.Common.{◌≡◌, ℕ, zero, suc, ◌<◌, ◌≤◌, true, false, eqb, List, [], ◌∷◌, length, get_or, Some, None, Err, refl, sym, ap, arith}
use Rattle.std.specs.List.Sorted.{IsBinarySearchResult, IsNonDecreasingBy}
use Rattle.std.specs.declared.cmp.Ordering.TheVariants.{Equal}
use Rattle.std.specs.Ordering.{nat_cmp, ordering_index}
use Rattle.std.proofs.lemmas.Cmp.{ranked}
use Rattle.std.proofs.lemmas.Bool.Decides.{nat_tests}
use Rattle.mem_base.specs.declared.map.ids.RegionId.{RegionId}
use Rattle.mem_base.specs.declared.access.cells.Place.{Place}
use Rattle.mem_base.specs.access.PlacesByRegion.{place_in}
use Rattle.mem_base.proofs.EveryLaws.{every_at}
use Rattle.generation.specs.Published.{AscendByRegion}
use Rattle.mem_base.proofs.PlaceLaws.{missing}

ids_rise : (places : List Place) (i j : ℕ) (d : Place) → AscendByRegion places → i < j → j < length places
    → (get_or places i d).region.0 < (get_or places j d).region.0
ids_rise [] i j d h l m = absurd (omega arith)
ids_rise (p ∷ ps) i zero d h l m = absurd (omega arith)
ids_rise (p ∷ ps) zero (suc j) d h l m = every_at (λ q. p.region.0 < q.region.0) ps j d (omega arith) h.0
ids_rise (p ∷ ps) (suc i) (suc j) d h l m = ids_rise ps i j d h.1 (omega arith) (omega arith)

-- the place at an index is the one of its region
pub found_there : (places : List Place) (i : ℕ) (d : Place) (r : RegionId) → i < length places → AscendByRegion places
    → (get_or places i d).region.0 ≡ r.0 → place_in places r ≡ Some (get_or places i d)
found_there [] i d r l h e = absurd (omega arith)
found_there (p ∷ ps) zero d r l h e = let t : eqb p.region.0 r.0 ≡ true = grind (arith, nat_tests, e) in rw t refl
found_there (p ∷ ps) (suc i) d r l h e =
    let less : p.region.0 < (get_or ps i d).region.0 = every_at (λ q. p.region.0 < q.region.0) ps i d (omega arith) h.0 in
    let t : eqb p.region.0 r.0 ≡ false = grind (arith, nat_tests, e, less) in
    rw t (found_there ps i d r (omega arith) h.1 e)

module _ (places : List Place) (ascending : AscendByRegion places) (r : RegionId) where
  comparisons_rise : IsNonDecreasingBy (λ (p : Place). ordering_index (nat_cmp p.region.0 r.0)) places
  comparisons_rise i j d le l =
      let rise : (get_or places i d).region.0 ≤ (get_or places j d).region.0 =
      grind (arith, ids_rise places i j d ascending, λ (same : i ≡ j). ap (λ k. (get_or places k d).region.0) same) in
      grind (arith, nat_tests)

  pub place_found : (i : ℕ) (d : Place) → i < length places → ((d : Place) → nat_cmp (get_or places i d).region.0 r.0 ≡ Equal)
      → place_in places r ≡ Some (get_or places i d)
  place_found i d l e = found_there places i d r l ascending (ranked _ r.0 _ (sym (e d)))

  pub place_missing : (i : ℕ) → i ≤ length places → IsBinarySearchResult (λ (p : Place). nat_cmp p.region.0 r.0) places (Err i)
      → place_in places r ≡ None
  place_missing i l e =
      let parts = e comparisons_rise in
      missing places r (λ k d m same.
      let a : k < i → (get_or places k d).region.0 < r.0 = λ b. ranked _ r.0 _ (sym (parts.0 k d (omega arith) b)) in
      let b : i ≤ k → r.0 < (get_or places k d).region.0 = λ c. ranked _ r.0 _ (sym (parts.1 k d c m)) in
      grind (arith, a, b))
