-- The cells that a call leaves to be cleared are those of the place that its region was given.
use Rattle.std.proofs.Common.{◌≡◌, ℕ, ◌<◌, Bool, true, false, List, [], ◌∷◌, ◌++◌, length}
use Rattle.std.proofs.Common.{Option, Some, None, refl, sym, ap, subst, ◌∙◌, arith, append-nil, ne_eqb, eq-eqb}
use Rattle.std.specs.Prelude.{◌==◌, if◌then◌else◌, flat_map}
use Rattle.std.proofs.lemmas.Bool.{eqb-true}
use Rattle.mem_base.specs.declared.map.ids.RegionId.{RegionId}
use Rattle.mem_base.specs.declared.map.calls.Call.{Call}
use Rattle.mem_base.specs.declared.map.calls.Call.TheVariants as calls
use Rattle.mem_base.specs.declared.map.calls.Applied.{Applied}
use Rattle.mem_base.specs.declared.map.calls.Applied.TheVariants.{Made, Done}
use Rattle.mem_base.specs.declared.map.calls.Config.{Config}
use Rattle.mem_base.specs.declared.map.calls.Config.TheVariants as configs
use Rattle.mem_base.specs.declared.access.cells.Place.{Place}
use Rattle.mem_base.specs.declared.access.cells.Cell.{Cell}
use Rattle.mem_base.specs.lists.Every.{Every}
use Rattle.mem_base.specs.access.Places.{Extent, extent_of, words_of, place_from, first_fit}
use Rattle.mem_base.specs.access.PlacesByRegion.{place_in}
use Rattle.mem_base.specs.machine.Desk.{cells_of}
use Rattle.view_laws.proofs.Tests.{none_is_not_some}
use Rattle.writer_desk.proofs.HandedOn.{BackedState, places_for, forest_at}
use Rattle.writer_desk.specs.Writers.{Beside, unfilled_by, backing_by, applied_by, beside_by}
use Rattle.writer_desk.specs.Writers.{made_place, dropped_with}
use Rattle.std.proofs.lemmas.Option.{same_Some}
use Rattle.mem_base.proofs.PlaceLaws.{found_has}

-- the cells that are not cleared yet after an accepted event, where all were before it
abbrev pub unfilled_with : BackedState → Config → List Cell
unfilled_with s (configs.Call call) = unfilled_by s call []
unfilled_with s k = []

-- what others keep after an accepted event
pub kept_beside : (s : BackedState) (b : Beside) (k : Config) → b.unfilled ≡ [] → beside_by s b k
    ≡ (record { dropped = dropped_with k b.dropped; unfilled = unfilled_with s k; swept = b.swept })
kept_beside s b (configs.Call call) none =
    λ i. beside_by s (record { dropped = b.dropped; unfilled = none i; swept = b.swept }) (configs.Call call)
kept_beside s b _ none = λ i. record { dropped = b.dropped; unfilled = none i; swept = b.swept }

pub pool_stays : (s : BackedState) (k : Config) → (backing_by s k).pool_words ≡ s.backing.pool_words
pool_stays s configs.Begin = refl
pool_stays s _ = refl

-- the cells of a place, where there is one
abbrev pub cells_at : Option Place → List Cell
cells_at None = []
cells_at (Some p) = cells_of p

abbrev region_id : ℕ → RegionId
region_id n = record { 0 = n }

abbrev first_of : Place → List Place → Place
first_of p [] = p
first_of p (q ∷ qs) = q

abbrev rest_of : List Place → List Place
rest_of [] = []
rest_of (q ∷ qs) = qs

-- a place that is found is of the region that is looked for, and is found among more places too

pub region_of_place : (ps : List Place) (r : RegionId) (p : Place) → place_in ps r ≡ Some p → p.region ≡ r
region_of_place [] r p e = none_is_not_some p e
region_of_place (q ∷ qs) r p e = go (q.region.0 == r.0) refl e (region_of_place qs r p)
  where
    go : (b : Bool) → (q.region.0 == r.0) ≡ b → (if b then Some q else place_in qs r) ≡ Some p → (place_in qs r ≡ Some p → p.region ≡ r) → p.region ≡ r
    go true here is rest =
        let same : q ≡ p = same_Some q p is in
        let number : q.region.0 ≡ r.0 = eqb-true q.region.0 r.0 here in
        ap (λ (x : Place). x.region) (sym same) ∙ ap (λ (n : ℕ). region_id n) number
    go false here is rest = rest is

pub more_places : (ps qs : List Place) (r : RegionId) (p : Place) → place_in ps r ≡ Some p → place_in (ps ++ qs) r ≡ Some p
more_places [] qs r p e = none_is_not_some p e
more_places (x ∷ ps) qs r p e = go (x.region.0 == r.0) e (more_places ps qs r p)
  where
    go : (b : Bool) → (if b then Some x else place_in ps r) ≡ Some p → (place_in ps r ≡ Some p → place_in (ps ++ qs) r ≡ Some p)
        → (if b then Some x else place_in (ps ++ qs) r) ≡ Some p
    go true is rest = is
    go false is rest = rest is

pub found_among : (ps qs : List Place) (r : RegionId) (p : Place) → place_in ps r ≡ Some p → place_in (ps ++ qs) p.region ≡ Some p
found_among ps qs r p e = subst (λ (z : RegionId). place_in (ps ++ qs) z ≡ Some p) (sym (region_of_place ps r p e)) (more_places ps qs r p e)

-- the same of the place of a region that was made

pub made_has : (P : Place → Type 0) (ps : List Place) (a : Applied) (p : Place) → Every P ps → made_place ps a ≡ Some p → P p
made_has P ps (Made r) p k e = found_has P ps r p k e
made_has P ps Done p k e = none_is_not_some p e

pub made_among : (ps qs : List Place) (a : Applied) (p : Place) → made_place ps a ≡ Some p → place_in (ps ++ qs) p.region ≡ Some p
made_among ps qs (Made r) p e = found_among ps qs r p e
made_among ps qs Done p e = none_is_not_some p e

-- lists that end in one place

pub same_first : (ps qs : List Place) (p q : Place) → ps ++ p ∷ [] ≡ qs ++ q ∷ [] → (ps ≡ qs) × (p ≡ q)
same_first [] [] p q e = (refl, first e)
  where
    first : p ∷ [] ≡ q ∷ [] → p ≡ q
    first e = ap (λ (xs : List Place). first_of p xs) e
same_first [] (y ∷ []) p q e = absurd (let n : length (p ∷ []) ≡ length (y ∷ q ∷ []) = ap (λ (xs : List Place). length xs) e in omega (arith, n))
same_first [] (y ∷ z ∷ qs) p q e = absurd (let n : length (p ∷ []) ≡ length (y ∷ z ∷ (qs ++ q ∷ [])) = ap (λ
    (xs : List Place). length xs) e in omega (arith, n))
same_first (x ∷ []) [] p q e = absurd (let n : length (x ∷ p ∷ []) ≡ length (q ∷ []) = ap (λ (xs : List Place). length xs) e in omega (arith, n))
same_first (x ∷ z ∷ ps) [] p q e = absurd (let n : length (x ∷ z ∷ (ps ++ p ∷ [])) ≡ length (q ∷ []) = ap (λ
    (xs : List Place). length xs) e in omega (arith, n))
same_first (x ∷ ps) (y ∷ qs) p q e =
    let rest = same_first ps qs p q (ap (λ (xs : List Place). rest_of xs) e) in
    ((λ i. ap (λ (xs : List Place). first_of x xs) e i ∷ rest.0 i), rest.1)

-- the place of the region that was made, among its forest's

no_place : (made : ℕ) (ps : List Place) → Every (λ p. p.region.0 < made) ps → place_in ps (record { 0 = made }) ≡ None
no_place made [] h = refl
no_place made (p ∷ ps) h = rw (ne_eqb p.region.0 made (λ e. let l = h.0 in omega arith)) (no_place made ps h.1)

last_place : (made : ℕ) (p : Place) (ps : List Place) → p.region.0 ≡ made → Every (λ p. p.region.0 < made) ps
    → place_in (ps ++ p ∷ []) (record { 0 = made }) ≡ Some p
last_place made p [] is h = rw (eq-eqb p.region.0 made is) refl
last_place made p (q ∷ qs) is h = rw (ne_eqb q.region.0 made (λ e. let l = h.0 in omega arith)) (last_place made p qs is h.1)

module _ (s : BackedState) (below : Every (λ p. p.region.0 < (forest_at s).made) s.backing.places) where
  abbrev made : RegionId
  made = record { 0 = (forest_at s).made }

  none_made : [] ≡ cells_at (place_in (s.backing.places ++ []) made)
  none_made = sym (ap (λ (ps : List Place). cells_at (place_in ps made)) (append-nil s.backing.places) ∙ ap (λ (o : Option Place). cells_at o)
      (no_place (forest_at s).made s.backing.places below))

  region : (x : Extent) (z : Bool) (o : Option ℕ) → let ps = if z then [] else places_for s.backing made x o in
      flat_map cells_of ps ≡ cells_at (place_in (s.backing.places ++ ps) made)
  region x true o = none_made
  region x false None = none_made
  region x false (Some start) = let p = place_from made start x in
      append-nil (cells_of p) ∙ sym (ap (λ (o : Option Place). cells_at o) (last_place (forest_at s).made p s.backing.places refl below))

  of_call : (call : Call) → unfilled_by s call [] ≡ cells_at (made_place (backing_by s (configs.Call call)).places (applied_by s (configs.Call call)))
  of_call (calls.Region kind size) = let x = extent_of kind size in
      region x (words_of x == 0) (first_fit s.backing.pool_words s.backing.places (words_of x))
  of_call _ = refl

  pub unfilled_is : (k : Config) → unfilled_with s k ≡ cells_at (made_place (backing_by s k).places (applied_by s k))
  unfilled_is (configs.Call call) = of_call call
  unfilled_is _ = refl
