-- The place of a region among places that stand by ascending region.
use Rattle.std.proofs.Common.{◌≡◌, ℕ, zero, suc, ◌<◌, ◌≤◌, ◌==◌, false, true, eq-eqb, List, [], ◌∷◌, length, get_or, ne_eqb, None, Err}
use Rattle.std.proofs.Common.{refl, sym, ap, arith}
use Rattle.std.specs.List.{slice_get}
use Rattle.std.specs.List.Sorted.{IsBinarySearchResult, IsNonDecreasingBy}
use Rattle.std.specs.declared.cmp.Ordering.TheVariants.{Equal}
use Rattle.std.specs.Ordering.{nat_cmp, ordering_index}
use Rattle.std.proofs.lemmas.Cmp.{ranked}
use Rattle.std.proofs.lemmas.Bool.Decides.{nat_tests}
use Rattle.mem_base.specs.declared.map.ids.RegionId.{RegionId}
use Rattle.mem_base.specs.declared.access.cells.Place.{Place}
use Rattle.mem_base.specs.lists.Every.{Every}
use Rattle.mem_base.proofs.EveryLaws.{every_at}
use Rattle.mem_base.specs.access.PlacesByRegion.{place_in}
use Rattle.backing_pool.specs.Backing.{RegionsAscend}
use Rattle.mem_base.proofs.PlaceLaws.{missing}

regions_rise : (places : List Place) (i j : ℕ) (d : Place) → RegionsAscend places → i < j → j < length places
    → (get_or places i d).region.0 < (get_or places j d).region.0
regions_rise [] i j d h l m = absurd (omega arith)
regions_rise (p ∷ ps) i zero d h l m = absurd (omega arith)
regions_rise (p ∷ ps) zero (suc j) d h l m = every_at (λ q. p.region.0 < q.region.0) ps j d (omega arith) h.0
regions_rise (p ∷ ps) (suc i) (suc j) d h l m = regions_rise ps i j d h.1 (omega arith) (omega arith)

there : (places : List Place) (i : ℕ) (d : Place) (r : RegionId) → i < length places → RegionsAscend places → (get_or places i d).region.0 ≡ r.0
    → slice_get places i ≡ place_in places r
there [] i d r l h e = absurd (omega arith)
there (p ∷ ps) zero d r l h e = let yes : (p.region.0 == r.0) ≡ true = eq-eqb _ _ e in rw yes refl
there (p ∷ ps) (suc i) d r l h e =
    let below : p.region.0 < (get_or ps i d).region.0 = every_at (λ q. p.region.0 < q.region.0) ps i d (omega arith) h.0 in
    let no : (p.region.0 == r.0) ≡ false = ne_eqb _ _ (λ same. absurd (omega (arith, below, e, same))) in
    rw no (there ps i d r (omega arith) h.1 e)

module _ (places : List Place) (ascending : RegionsAscend places) (r : RegionId) where
  comparisons_rise : IsNonDecreasingBy (λ (p : Place). ordering_index (nat_cmp p.region.0 r.0)) places
  comparisons_rise i j d le l =
      let rise : (get_or places i d).region.0 ≤ (get_or places j d).region.0 =
      grind (arith, regions_rise places i j d ascending, λ (same : i ≡ j). ap (λ k. (get_or places k d).region.0) same) in
      grind (arith, nat_tests)

  pub place_there : (i : ℕ) (d : Place) → i < length places → ((d : Place) → nat_cmp (get_or places i d).region.0 r.0 ≡ Equal)
      → slice_get places i ≡ place_in places r
  place_there i d l e = there places i d r l ascending (ranked _ r.0 _ (sym (e d)))

  pub place_missing : (i : ℕ) → i ≤ length places → IsBinarySearchResult (λ (p : Place). nat_cmp p.region.0 r.0) places (Err i) → place_in places r ≡ None
  place_missing i l e =
      let parts = e comparisons_rise in
      missing places r (λ k d m same.
      let a : k < i → (get_or places k d).region.0 < r.0 = λ b. ranked _ r.0 _ (sym (parts.0 k d (omega arith) b)) in
      let b : i ≤ k → r.0 < (get_or places k d).region.0 = λ c. ranked _ r.0 _ (sym (parts.1 k d c m)) in
      grind (arith, a, b))

-- all are below what is above the last of them
pub all_below : (places : List Place) (last : ℕ) (d : Place) (region : ℕ) → RegionsAscend places → length places ≡ suc last
    → (get_or places last d).region.0 < region → Every (λ p. p.region.0 < region) places
all_below [] last d region h n l = tt
all_below (p ∷ []) zero d region h n l = (l, tt)
all_below (p ∷ []) (suc last) d region h n l = absurd (omega arith)
all_below (p ∷ q ∷ ps) zero d region h n l = absurd (omega arith)
all_below (p ∷ q ∷ ps) (suc last) d region h n l =
    let rest = all_below (q ∷ ps) last d region h.1 (omega arith) l in
    (omega (arith, h.0.0, rest.0), rest)

abbrev pub some_place : RegionId → Place
some_place region = record { region = region; start = 0; words = 0; bytes = 0; regs = 0 }
