-- Laws of places: which words are free, and what a place more or less changes.
use Rattle.std.proofs.Common.{◌≡◌, ◌≢◌, ◌⊎◌, inl, inr, ℕ, zero, suc, ◌<◌, ◌≤◌, Bool, true, false, not, ◌==◌, ◌&&◌, ◌||◌, nat_le, nat_lt}
use Rattle.std.proofs.Common.{ne_eqb, eq-eqb, List, [], ◌∷◌, ◌++◌, length, get_or, drop, filter, Some, None, sym, refl, ap, subst, ◌∙◌}
use Rattle.std.proofs.Common.{arith, if◌then◌else◌, true≢false}
use Rattle.std.specs.Prelude.{remove}
use Rattle.std.specs.List.{list_any, slice_get}
use Rattle.std.proofs.lemmas.Bool.{cases_lt, eqb-true, eqb-false}
use Rattle.std.proofs.lemmas.Bool.Decides.{nat_tests}
use Rattle.std.proofs.lemmas.List.{drop_more}
use Rattle.std.proofs.lemmas.Option.{slice_get-get_or}
use Rattle.mem_base.specs.declared.map.ids.RegionId.{RegionId}
use Rattle.mem_base.specs.declared.access.cells.Place.{Place}
use Rattle.mem_base.specs.lists.Every.{Every, EveryPair}
use Rattle.mem_base.specs.access.PlacesByRegion.{place_in}
use Rattle.mem_base.specs.access.EditionPlaces.{ArePlacesApart}
use Rattle.mem_base.specs.access.Places.{past, is_free}
use Rattle.backing_pool.specs.Backing.{IsBacked}

-- a place is found by its region

pub found_at : (places : List Place) (at : ℕ) (region : RegionId) (d : Place) → at < length places → ((get_or places at d).region.0 == region.0) ≡ true
    → place_in (drop at places) region ≡ place_in places region → slice_get places at ≡ place_in places region
found_at places at region d l e rest =
    slice_get-get_or places at d l
    ∙ sym (ap (λ ps. place_in ps region) (drop_more places at d l) ∙ rw e refl)
    ∙ rest

abbrev is_of : RegionId → Place → Bool
is_of region p = p.region.0 == region.0

-- a word lies in a place
abbrev holds : Place → ℕ → Bool
holds p word = nat_le p.start word && nat_lt word (past p)

inside : (p : Place) (word : ℕ) → p.start ≤ word → word < past p → holds p word ≡ true
inside p word l m = grind (arith, nat_tests)

outside_below : (p : Place) (word : ℕ) → word < p.start → holds p word ≡ false
outside_below p word l = grind (arith, nat_tests)

outside_above : (p : Place) (word : ℕ) → past p ≤ word → holds p word ≡ false
outside_above p word l = grind (arith, nat_tests)

-- one place more

any_push : (word : ℕ) (places : List Place) (p : Place) → list_any (λ q. holds q word) (places ++ p ∷ []) ≡ list_any (λ q. holds q word) places || holds p word
any_push word [] p = go (holds p word)
  where
    go : (b : Bool) → (b || false) ≡ (false || b)
    go true = refl
    go false = refl
any_push word (q ∷ places) p = go (holds q word) (any_push word places p)
  where
    go : (b : Bool) → list_any (λ q. holds q word) (places ++ p ∷ []) ≡ list_any (λ q. holds q word) places || holds p word
        → (b || list_any (λ q. holds q word) (places ++ p ∷ [])) ≡ (b || list_any (λ q. holds q word) places) || holds p word
    go true ih = refl
    go false ih = ih

free_push : (word : ℕ) (places : List Place) (p : Place) (b : Bool) → holds p word ≡ b
    → is_free (places ++ p ∷ []) word ≡ (if b then false else is_free places word)
free_push word places p b e = ap not (any_push word places p) ∙ rw e (go b (list_any (λ q. holds q word) places))
  where
    go : (b c : Bool) → not (c || b) ≡ (if b then false else not c)
    go true true = refl
    go true false = refl
    go false true = refl
    go false false = refl

pub taken_inside : (places : List Place) (p : Place) (word : ℕ) → p.start ≤ word → word < past p → is_free (places ++ p ∷ []) word ≡ false
taken_inside places p word l m = free_push word places p true (inside p word l m)

pub taken_below : (places : List Place) (p : Place) (word : ℕ) → word < p.start → is_free (places ++ p ∷ []) word ≡ is_free places word
taken_below places p word l = free_push word places p false (outside_below p word l)

pub taken_above : (places : List Place) (p : Place) (word : ℕ) → past p ≤ word → is_free (places ++ p ∷ []) word ≡ is_free places word
taken_above places p word l = free_push word places p false (outside_above p word l)

-- a place in free words meets no other

free_of_each : (word : ℕ) (places : List Place) → is_free places word ≡ true → Every (λ q. holds q word ≡ false) places
free_of_each word [] e = tt
free_of_each word (q ∷ places) e = go (holds q word) refl e (free_of_each word places)
  where
    go : (b : Bool) → holds q word ≡ b → not (b || list_any (λ q. holds q word) places) ≡ true
        → (is_free places word ≡ true → Every (λ q. holds q word ≡ false) places) → Every (λ q. holds q word ≡ false) (q ∷ places)
    go true t e ih = absurd (true≢false (sym e))
    go false t e ih = (t, ih e)

misses : (q : Place) (word : ℕ) → holds q word ≡ false → (word < q.start) ⊎ (past q ≤ word)
misses q word e = go (cases_lt word q.start) (cases_lt word (past q))
  where
    go : (word < q.start) ⊎ (q.start ≤ word) → (word < past q) ⊎ (past q ≤ word) → (word < q.start) ⊎ (past q ≤ word)
    go (inl l) _ = inl l
    go (inr l) (inr m) = inr m
    go (inr l) (inl m) = absurd (true≢false (sym (inside q word l m) ∙ e))

-- where no word of a place lies in another, one ends before the other begins
parted : (p q : Place) → 0 < p.words → 0 < q.words → ((word : ℕ) → p.start ≤ word → word < past p → holds q word ≡ false)
    → (past q ≤ p.start) ⊎ (past p ≤ q.start)
parted p q m n h = go (misses q p.start (h p.start (omega arith) (omega (arith, m)))) (cases_lt q.start (past p))
  where
    go : (p.start < q.start) ⊎ (past q ≤ p.start) → (q.start < past p) ⊎ (past p ≤ q.start) → (past q ≤ p.start) ⊎ (past p ≤ q.start)
    go (inr l) _ = inl l
    go (inl l) (inr k) = inr k
    go (inl l) (inl k) = absurd (true≢false (sym (inside q q.start (omega arith) (omega (arith, n))) ∙ h q.start (omega (arith, l)) k))

pub not_found : (region : RegionId) (places : List Place) → place_in places region ≡ None → Every (λ q. q.region.0 ≢ region.0) places
not_found region [] e = tt
not_found region (q ∷ places) e = go (q.region.0 == region.0) refl e (not_found region places)
  where
    go : (b : Bool) → (q.region.0 == region.0) ≡ b → (if b then Some q else place_in places region) ≡ None
        → (place_in places region ≡ None → Every (λ q. q.region.0 ≢ region.0) places) → Every (λ q. q.region.0 ≢ region.0) (q ∷ places)
    go true t e ih = absurd (let no : Some q ≡ None = e in cc)
    go false t e ih = (eqb-false _ _ t, ih e)

pub new_apart : (pool_words : ℕ) (places : List Place) (p : Place) → Every (IsBacked pool_words) places → 0 < p.words
    → place_in places p.region ≡ None → ((word : ℕ) → p.start ≤ word → word < past p → is_free places word ≡ true)
    → Every (λ q. ArePlacesApart q p) places
new_apart pool_words places p each some none free = go places each (not_found p.region places none) (λ w l m. free_of_each w places (free w l m))
  where
    go : (qs : List Place) → Every (IsBacked pool_words) qs → Every (λ q. q.region.0 ≢ p.region.0) qs
        → ((w : ℕ) → p.start ≤ w → w < past p → Every (λ q. holds q w ≡ false) qs) → Every (λ q. ArePlacesApart q p) qs
    go [] each others apart = tt
    go (q ∷ qs) each others apart = (
      (others.0, parted p q some each.0.nonempty (λ w l m. (apart w l m).0)),
      go qs each.1 others.1 (λ w l m. (apart w l m).1),
    )

pub pair_push : {A : Type 0} (R : A → A → Type 0) (xs : List A) (x : A) → EveryPair R xs → Every (λ y. R y x) xs → EveryPair R (xs ++ x ∷ [])
pair_push R [] x h e = (tt, tt)
pair_push {A = A} R (y ∷ ys) x h e = (push ys h.0, pair_push R ys x h.1 e.1)
  where
    push : (ys : List A) → Every (R y) ys → Every (R y) (ys ++ x ∷ [])
    push [] k = (e.0, tt)
    push (z ∷ zs) k = (k.0, push zs k.1)

-- one place less

abbrev pub without : RegionId → List Place → List Place
without region places = filter (λ p. not (p.region.0 == region.0)) places

-- none of these is of the region, so all stay
pub all_stay : (region : RegionId) (places : List Place) → Every (λ q. q.region.0 ≢ region.0) places → without region places ≡ places
all_stay region [] h = refl
all_stay region (q ∷ places) h = let no : (q.region.0 == region.0) ≡ false = ne_eqb _ _ h.0 in rw no (ap (λ ps. q ∷ ps) (all_stay region places h.1))

others_differ : (region : RegionId) (q : Place) (places : List Place) → q.region.0 ≡ region.0 → Every (ArePlacesApart q) places
    → Every (λ p. p.region.0 ≢ region.0) places
others_differ region q [] e h = tt
others_differ region q (p ∷ places) e h = ((λ same. h.0.0 (e ∙ sym same)), others_differ region q places e h.1)

-- what is taken out at the index of a region is the rest
pub removed_at : (region : RegionId) (places : List Place) (at : ℕ) (p : Place) → EveryPair ArePlacesApart places → slice_get places at ≡ Some p
    → p.region.0 ≡ region.0 → remove places at ≡ without region places
removed_at region [] at p h e is = absurd (let no : None ≡ Some p = e in cc)
removed_at region (q ∷ places) zero p h e is =
    let same : q ≡ p = cc in
    let own : q.region.0 ≡ region.0 = ap (λ (x : Place). x.region.0) same ∙ is in
    let yes : (q.region.0 == region.0) ≡ true = eq-eqb _ _ own in
    rw yes (sym (all_stay region places (others_differ region q places own h.0)))
removed_at region (q ∷ places) (suc at) p h e is =
    let later = differs at places h.0 e in
    let no : (q.region.0 == region.0) ≡ false = ne_eqb _ _ (λ own. later (own ∙ sym is)) in
    rw no (ap (λ ps. q ∷ ps) (removed_at region places at p h.1 e is))
  where
    differs : (at : ℕ) (ps : List Place) → Every (ArePlacesApart q) ps → slice_get ps at ≡ Some p → q.region.0 ≢ p.region.0
    differs at [] k e = absurd (let no : None ≡ Some p = e in cc)
    differs zero (x ∷ ps) k e = let same : x ≡ p = cc in λ own. k.0.0 (own ∙ ap (λ (z : Place). z.region.0) (sym same))
    differs (suc at) (x ∷ ps) k e = differs at ps k.1 e

any_others : (word : ℕ) (places : List Place) → Every (λ q. holds q word ≡ false) places → list_any (λ q. holds q word) places ≡ false
any_others word [] h = refl
any_others word (q ∷ places) h = rw h.0 (any_others word places h.1)

in_no_other : (p : Place) (places : List Place) (word : ℕ) → p.start ≤ word → word < past p → Every (ArePlacesApart p) places
    → Every (λ q. holds q word ≡ false) places
in_no_other p [] word l m h = tt
in_no_other p (q ∷ places) word l m h = (go h.0.1, in_no_other p places word l m h.1)
  where
    go : (past p ≤ q.start) ⊎ (past q ≤ p.start) → holds q word ≡ false
    go (inl k) = outside_below q word (omega (arith, k, m))
    go (inr k) = outside_above q word (omega (arith, k, l))

-- a word of the place of a region was taken, and is free without it; any other word is as it was

module _ (region : RegionId) (p : Place) (word : ℕ) where
  pub given_outside : (places : List Place) → EveryPair ArePlacesApart places → place_in places region ≡ Some p → holds p word ≡ false
      → is_free (without region places) word ≡ is_free places word
  given_outside [] h e out = absurd (let no : None ≡ Some p = e in cc)
  given_outside (q ∷ places) h e out = go (q.region.0 == region.0) refl e (given_outside places h.1)
    where
      go : (b : Bool) → (q.region.0 == region.0) ≡ b → (if b then Some q else place_in places region) ≡ Some p
          → (place_in places region ≡ Some p → holds p word ≡ false → is_free (without region places) word ≡ is_free places word)
          → is_free (if not b then q ∷ without region places else without region places) word ≡ is_free (q ∷ places) word
      go true t e ih =
          let same : q ≡ p = cc in
          let miss : holds q word ≡ false = ap (λ x. holds x word) same ∙ out in
          ap (λ ps. is_free ps word) (all_stay region places (others_differ region q places (eqb-true _ _ t) h.0)) ∙ rw miss refl
      go false t e ih = at (holds q word) (ap not (ih e out))
        where
          at : (b : Bool) → not (is_free (without region places) word) ≡ not (is_free places word)
              → not (b || list_any (λ q. holds q word) (without region places)) ≡ not (b || list_any (λ q. holds q word) places)
          at true k = refl
          at false k = ih e out

  pub given_inside : (places : List Place) → EveryPair ArePlacesApart places → place_in places region ≡ Some p → p.start ≤ word → word < past p
      → is_free (without region places) word ≡ true
  given_inside [] h e l m = absurd (let no : None ≡ Some p = e in cc)
  given_inside (q ∷ places) h e l m = go (q.region.0 == region.0) refl e (given_inside places h.1)
    where
      at : (ps : List Place) → Every (ArePlacesApart q) ps → place_in ps region ≡ Some p → ArePlacesApart q p
      at [] k e = absurd (let no : None ≡ Some p = e in cc)
      at (x ∷ ps) k e = by (x.region.0 == region.0) e (at ps k.1)
        where
          by : (b : Bool) → (if b then Some x else place_in ps region) ≡ Some p → (place_in ps region ≡ Some p → ArePlacesApart q p) → ArePlacesApart q p
          by true e ih = let same : x ≡ p = cc in subst (ArePlacesApart q) same k.0
          by false e ih = ih e

      apart : (past q ≤ p.start) ⊎ (past p ≤ q.start) → holds q word ≡ false
      apart (inl k) = outside_above q word (omega (arith, k, l))
      apart (inr k) = outside_below q word (omega (arith, k, m))

      go : (b : Bool) → (q.region.0 == region.0) ≡ b → (if b then Some q else place_in places region) ≡ Some p
          → (place_in places region ≡ Some p → p.start ≤ word → word < past p → is_free (without region places) word ≡ true)
          → is_free (if not b then q ∷ without region places else without region places) word ≡ true
      go true t e ih =
          let same : q ≡ p = cc in
          ap (λ ps. is_free ps word) (all_stay region places (others_differ region q places (eqb-true _ _ t) h.0))
          ∙ ap not (any_others word places (subst (λ x. Every (λ y. holds y word ≡ false) places) same
          (in_no_other q places word (omega (arith, ap (λ (x : Place). x.start) same, l)) (omega (arith, ap past same, m)) h.0)))
      go false t e ih = let miss : holds q word ≡ false = apart (at places h.0 e).1 in rw miss (ih e l m)

  pub was_taken : (places : List Place) → place_in places region ≡ Some p → p.start ≤ word → word < past p → is_free places word ≡ false
  was_taken [] e l m = absurd (let no : None ≡ Some p = e in cc)
  was_taken (q ∷ places) e l m = go (q.region.0 == region.0) e (was_taken places)
    where
      any : (b : Bool) → is_free places word ≡ false → not (b || list_any (λ q. holds q word) places) ≡ false
      any true k = refl
      any false k = k

      go : (b : Bool) → (if b then Some q else place_in places region) ≡ Some p
          → (place_in places region ≡ Some p → p.start ≤ word → word < past p → is_free places word ≡ false) → is_free (q ∷ places) word ≡ false
      go true e ih =
          let same : q ≡ p = cc in
          let hit : holds q word ≡ true = ap (λ x. holds x word) same ∙ inside p word l m in
          rw hit refl
      go false e ih = any (holds q word) (ih e l m)

pub given_below : (region : RegionId) (p : Place) (places : List Place) (word : ℕ) → EveryPair ArePlacesApart places → place_in places region ≡ Some p
    → word < p.start → is_free (without region places) word ≡ is_free places word
given_below region p places word h e l = given_outside region p word places h e (outside_below p word l)

pub given_above : (region : RegionId) (p : Place) (places : List Place) (word : ℕ) → EveryPair ArePlacesApart places → place_in places region ≡ Some p
    → past p ≤ word → is_free (without region places) word ≡ is_free places word
given_above region p places word h e l = given_outside region p word places h e (outside_above p word l)

-- the place that is found is one of them
pub found_backed : (P : Place → Type 0) (region : RegionId) (p : Place) (places : List Place) → Every P places → place_in places region ≡ Some p → P p
found_backed P region p [] h e = absurd (let no : None ≡ Some p = e in cc)
found_backed P region p (q ∷ places) h e = go (q.region.0 == region.0) e (found_backed P region p places h.1)
  where
    go : (b : Bool) → (if b then Some q else place_in places region) ≡ Some p → (place_in places region ≡ Some p → P p) → P p
    go true e ih = let same : q ≡ p = cc in subst P same h.0
    go false e ih = ih e

pub found_region : (region : RegionId) (p : Place) (places : List Place) → place_in places region ≡ Some p → p.region.0 ≡ region.0
found_region region p [] e = absurd (let no : None ≡ Some p = e in cc)
found_region region p (q ∷ places) e = go (q.region.0 == region.0) refl e (found_region region p places)
  where
    go : (b : Bool) → (q.region.0 == region.0) ≡ b → (if b then Some q else place_in places region) ≡ Some p
        → (place_in places region ≡ Some p → p.region.0 ≡ region.0) → p.region.0 ≡ region.0
    go true t e ih = let same : q ≡ p = cc in ap (λ (x : Place). x.region.0) (sym same) ∙ eqb-true _ _ t
    go false t e ih = ih e
