-- The place of a region, among places that are looked at one after another.
use Rattle.std.proofs.Common.{◌≡◌, ℕ, ◌+◌, ◌<◌, ◌≤◌, zero, suc, eqb, cond, Bool, true, false, List, [], ◌∷◌, length, drop, get_or, Some, None}
use Rattle.std.proofs.Common.{sym, ap, refl, ◌∙◌, arith}
use Rattle.std.proofs.lemmas.List.{drop_more, get_or_default}
use Rattle.mem_base.specs.declared.map.ids.RegionId.{RegionId}
use Rattle.mem_base.specs.declared.access.cells.Place.{Place}
use Rattle.mem_base.specs.access.PlacesByRegion.{place_in}

module _ (places : List Place) (r : RegionId) (i : ℕ) (x : Place) (room : i < length places) where
  split : drop i places ≡ get_or places i x ∷ drop (i + 1) places
  split =
      let p : Place = get_or places i x in
      let is : p ≡ get_or places i p = get_or_default places i x p room in
      drop_more places i p room ∙ ap (λ (q : Place). q ∷ drop (i + 1) places) (sym is)

  -- the one at this place is of another region
  pub place_on : eqb (get_or places i x).region.0 r.0 ≡ false → place_in (drop i places) r ≡ place_in (drop (i + 1) places) r
  place_on other =
      ap (λ (ps : List Place). place_in ps r) split
      ∙ ap (λ (b : Bool). cond b (Some (get_or places i x)) (place_in (drop (i + 1) places) r)) other

  -- or of this one
  pub place_here : eqb (get_or places i x).region.0 r.0 ≡ true → place_in (drop i places) r ≡ Some (get_or places i x)
  place_here own =
      ap (λ (ps : List Place). place_in ps r) split
      ∙ ap (λ (b : Bool). cond b (Some (get_or places i x)) (place_in (drop (i + 1) places) r)) own

drop_past : (xs : List Place) (i : ℕ) → length xs ≤ i → drop i xs ≡ []
drop_past [] zero h = refl
drop_past [] (suc i) h = refl
drop_past (x ∷ xs) zero h = absurd (omega (arith, h))
drop_past (x ∷ xs) (suc i) h = drop_past xs i (omega (arith, h))

pub no_place : (places : List Place) (r : RegionId) (i : ℕ) → length places ≤ i → place_in (drop i places) r ≡ None
no_place places r i past = ap (λ (ps : List Place). place_in ps r) (drop_past places i past)
