-- Laws of holes that are cut and joined.
use Rattle.std.proofs.Common.{◌≡◌, ◌⊎◌, inl, inr, ℕ, ◌+◌, ◌-◌, ◌<◌, ◌≤◌, Bool, true, false, ◌==◌, List, [], ◌∷◌, ◌++◌, sym, refl, ap, subst}
use Rattle.std.proofs.Common.{◌∙◌, arith, if◌then◌else◌}
use Rattle.std.proofs.lemmas.Bool.{cases_lt, eqb-true, eqb-false}
use Rattle.mem_base.specs.lists.Every.{Every}
use Rattle.backing_pool.specs.Holes.{end_of, Ascends, AreHoles, cut, next_joined, put_last}
use Rattle.mem_base.proofs.BoolLaws.{true_is_not_false}

module _ (f g : ℕ → Bool) where
  same_after : (low high : ℕ) (hs : List (ℕ × ℕ)) → AreHoles f low high hs → ((w : ℕ) → low ≤ w → g w ≡ f w) → AreHoles g low high hs
  same_after low high [] h s = λ w l m. s w l ∙ h w l m
  same_after low high (k ∷ hs) h s = (
    h.0,
    h.1,
    h.2,
    λ w l m. s w l ∙ h.3 w l m,
    λ w l m. s w (omega (arith, h.0)) ∙ h.4 w l m,
    λ l. s (end_of k) (omega (arith, h.0)) ∙ h.5 l,
    same_after (end_of k) high hs h.6 (λ w l. s w (omega (arith, h.0))),
  )

-- from an earlier word on, where the words between are taken
widen : (f : ℕ → Bool) (low from high : ℕ) (hs : List (ℕ × ℕ)) → AreHoles f from high hs → low ≤ from
    → ((w : ℕ) → low ≤ w → w < from → f w ≡ false) → AreHoles f low high hs
widen f low from high [] h l s = λ w p q. go w p q (cases_lt w from)
  where
    go : (w : ℕ) → low ≤ w → w < high → (w < from) ⊎ (from ≤ w) → f w ≡ false
    go w p q (inl m) = s w p m
    go w p q (inr m) = h w m q
widen f low from high (k ∷ hs) h l s = (
  omega (arith, h.0, l),
  h.1,
  h.2,
  λ w p q. go w p q (cases_lt w from),
  h.4,
  h.5,
  h.6,
)
  where
    go : (w : ℕ) → low ≤ w → w < k.0 → (w < from) ⊎ (from ≤ w) → f w ≡ false
    go w p q (inl m) = s w p m
    go w p q (inr m) = h.3 w m q

-- from a later word on, up to the first hole
narrow : (f : ℕ → Bool) (low from high : ℕ) (k : ℕ × ℕ) (hs : List (ℕ × ℕ)) → AreHoles f low high (k ∷ hs) → low ≤ from → from ≤ k.0
    → AreHoles f from high (k ∷ hs)
narrow f low from high k hs h l m = (m, h.1, h.2, λ w p q. h.3 w (omega arith) q, h.4, h.5, h.6)

starts_after : (f : ℕ → Bool) (low high : ℕ) (xs : List (ℕ × ℕ)) (k : ℕ × ℕ) (hs : List (ℕ × ℕ)) → AreHoles f low high (xs ++ k ∷ hs) → low ≤ k.0
starts_after f low high [] k hs h = h.0
starts_after f low high (x ∷ xs) k hs h = let l = starts_after f (end_of x) high xs k hs h.6 in omega (arith, h.0, l)

-- the first words of a hole are taken

module _ (f g : ℕ → Bool) (words : ℕ) (k : ℕ × ℕ) (fits : words ≤ k.1) (below : (w : ℕ) → w < k.0 → g w ≡ f w)
    (inside : (w : ℕ) → k.0 ≤ w → w < k.0 + words → g w ≡ false) (above : (w : ℕ) → k.0 + words ≤ w → g w ≡ f w) where
  cut_first : (low high : ℕ) (hs : List (ℕ × ℕ)) → AreHoles f low high (k ∷ hs) → AreHoles g low high (cut words k ++ hs)
  cut_first low high hs h = go (k.1 == words) refl
    where
      later : AreHoles g (end_of k) high hs
      later = same_after f g (end_of k) high hs h.6 (λ w l. above w (omega (arith, fits, l)))

      taken : (w : ℕ) → low ≤ w → w < k.0 + words → (w < k.0) ⊎ (k.0 ≤ w) → g w ≡ false
      taken w l m (inl p) = below w p ∙ h.3 w l p
      taken w l m (inr p) = inside w p m

      go : (b : Bool) → (k.1 == words) ≡ b → AreHoles g low high ((if b then [] else (k.0 + words, k.1 - words) ∷ []) ++ hs)
      go true e =
          let same = eqb-true _ _ e in
          widen g low (end_of k) high hs later (omega (arith, h.0)) (λ w l m. taken w l (omega (arith, same, m)) (cases_lt w k.0))
      go false e =
          let ne = eqb-false _ _ e in
          let more : words < k.1 = omega (arith, fits, ne) in
          let end : k.0 + k.1 ≡ k.0 + words + (k.1 - words) = omega (arith, fits) in (
            omega (arith, h.0),
            omega (arith, more),
            omega (arith, h.2, fits),
            λ w l m. taken w l m (cases_lt w k.0),
            λ w l m. above w l ∙ h.4 w (omega (arith, l)) (omega (arith, end, m)),
            λ l. ap g (sym end) ∙ above (end_of k) (omega (arith, fits)) ∙ h.5 (omega (arith, end, l)),
            subst (λ e. AreHoles g e high hs) end later,
          )

  -- the same of a hole that others stand before
  pub cut_in : (low high : ℕ) (xs hs : List (ℕ × ℕ)) → AreHoles f low high (xs ++ k ∷ hs) → AreHoles g low high (xs ++ (cut words k ++ hs))
  cut_in low high [] hs h = cut_first low high hs h
  cut_in low high (x ∷ xs) hs h =
      let before : end_of x ≤ k.0 = starts_after f (end_of x) high xs k hs h.6 in (
        h.0,
        h.1,
        h.2,
        λ w l m. below w (omega (arith, before, m)) ∙ h.3 w l m,
        λ w l m. below w (omega (arith, before, m)) ∙ h.4 w l m,
        λ l. stays (end_of x) (h.5 l) (cases_lt (end_of x) k.0) (cases_lt (end_of x) (k.0 + words)),
        cut_in (end_of x) high xs hs h.6,
      )
    where
      stays : (w : ℕ) → f w ≡ false → (w < k.0) ⊎ (k.0 ≤ w) → (w < k.0 + words) ⊎ (k.0 + words ≤ w) → g w ≡ false
      stays w e (inl p) q = below w p ∙ e
      stays w e (inr p) (inl q) = inside w p q
      stays w e (inr p) (inr q) = above w q ∙ e

-- words are given back

abbrev joined_if : Bool → ℕ → ℕ × ℕ → List (ℕ × ℕ) → ℕ × List (ℕ × ℕ)
joined_if b words k hs = if b then (words + k.1, hs) else (words, k ∷ hs)

module _ (f g : ℕ → Bool) (start words high : ℕ) (some : 0 < words) (within : start + words ≤ high)
    (was : (w : ℕ) → start ≤ w → w < start + words → f w ≡ false) (is : (w : ℕ) → start ≤ w → w < start + words → g w ≡ true)
    (below : (w : ℕ) → w < start → g w ≡ f w) (above : (w : ℕ) → start + words ≤ w → g w ≡ f w) where
  -- a hole from `first` on that ends with these words and with what they join
  join_next : (low first len from : ℕ) (ys : List (ℕ × ℕ)) → low ≤ first → first ≤ start → from ≤ start + words
      → ((w : ℕ) → low ≤ w → w < first → g w ≡ false) → ((w : ℕ) → first ≤ w → w < start → g w ≡ true)
      → ((w : ℕ) → from ≤ w → w < start + words → f w ≡ false) → AreHoles f from high ys
      → first + len ≡ start + (next_joined start words ys).0
      → AreHoles g low high ((first, len) ∷ (next_joined start words ys).1)
  join_next low first len from [] l m n gap full taken h e = (
    l,
    omega (arith, e, m, some),
    omega (arith, e, within),
    gap,
    λ w p q. go w p (omega (arith, e, q)) (cases_lt w start),
    λ p. above (first + len) (omega (arith, e)) ∙ h (first + len) (omega (arith, e, n)) p,
    λ w p q. above w (omega (arith, e, p)) ∙ h w (omega (arith, e, n, p)) q,
  )
    where
      go : (w : ℕ) → first ≤ w → w < start + words → (w < start) ⊎ (start ≤ w) → g w ≡ true
      go w p q (inl r) = full w p r
      go w p q (inr r) = is w r q
  join_next low first len from (k ∷ hs) l m n gap full taken h e = go (k.0 == start + words) refl e
    where
      here : (w : ℕ) → first ≤ w → w < start + words → (w < start) ⊎ (start ≤ w) → g w ≡ true
      here w p q (inl r) = full w p r
      here w p q (inr r) = is w r q

      later : (k.0 < start + words) ⊎ (start + words ≤ k.0) → start + words ≤ k.0
      later (inl p) = true_is_not_false (f k.0) (h.4 k.0 (omega arith) (omega (arith, h.1))) (taken k.0 h.0 p)
      later (inr p) = p

      after : start + words ≤ k.0
      after = later (cases_lt k.0 (start + words))

      go : (b : Bool) → (k.0 == start + words) ≡ b
          → first + len ≡ start + (joined_if b words k hs).0
          → AreHoles g low high ((first, len) ∷ (joined_if b words k hs).1)
      go true t e =
          let touches = eqb-true _ _ t in
          let end : end_of k ≡ first + len = omega (arith, e, touches) in (
            l,
            omega (arith, e, m, some),
            omega (arith, end, h.2),
            gap,
            λ w p q. whole w p (omega (arith, end, q)) (cases_lt w (start + words)),
            λ p. ap g (sym end) ∙ above (end_of k) (omega (arith, touches)) ∙ h.5 (omega (arith, end, p)),
            subst (λ x. AreHoles g x high hs) end (same_after f g (end_of k) high hs h.6 (λ w p. above w (omega (arith, touches, p)))),
          )
        where
          whole : (w : ℕ) → first ≤ w → w < end_of k → (w < start + words) ⊎ (start + words ≤ w) → g w ≡ true
          whole w p q (inl r) = here w p r (cases_lt w start)
          whole w p q (inr r) = above w r ∙ h.4 w (omega (arith, eqb-true _ _ t, r)) q
      go false t e =
          let apart : start + words < k.0 = omega (arith, after, eqb-false _ _ t) in
          let end : start + words ≡ first + len = omega (arith, e) in (
            l,
            omega (arith, e, m, some),
            omega (arith, e, within),
            gap,
            λ w p q. here w p (omega (arith, e, q)) (cases_lt w start),
            λ p. ap g (sym end) ∙ above (start + words) (omega arith) ∙ h.3 (start + words) n apart,
            subst (λ x. AreHoles g x high (k ∷ hs)) end (same_after f g (start + words) high (k ∷ hs)
                (narrow f from (start + words) high k hs h n after) above),
          )

  -- no hole stands before
  put_first : (low : ℕ) (ys : List (ℕ × ℕ)) → AreHoles f low high ys → low ≤ start → Every (λ y. start ≤ y.0) ys
      → AreHoles g low high ((start, (next_joined start words ys).0) ∷ (next_joined start words ys).1)
  put_first low ys h l far =
      join_next low start (next_joined start words ys).0 low ys l (omega arith) (omega (arith, l))
      (λ w p q. below w q ∙ empty w p q) (λ w p q. absurd (omega (arith, p, q))) (λ w p q. taken w p q (cases_lt w start)) h refl
    where
      gap_of : (ys : List (ℕ × ℕ)) → AreHoles f low high ys → Every (λ y. start ≤ y.0) ys → (w : ℕ) → low ≤ w → w < start → f w ≡ false
      gap_of [] h far w p q = h w p (omega (arith, within, some, q))
      gap_of (y ∷ ys) h far w p q = h.3 w p (omega (arith, far.0, q))

      empty : (w : ℕ) → low ≤ w → w < start → f w ≡ false
      empty = gap_of ys h far

      taken : (w : ℕ) → low ≤ w → w < start + words → (w < start) ⊎ (start ≤ w) → f w ≡ false
      taken w p q (inl r) = empty w p r
      taken w p q (inr r) = was w r q

  pub put_in : (low : ℕ) (xs ys : List (ℕ × ℕ)) → AreHoles f low high (xs ++ ys) → low ≤ start
      → Every (λ x. x.0 < start) xs → Every (λ y. start ≤ y.0) ys
      → AreHoles g low high (put_last start (next_joined start words ys).0 xs ++ (next_joined start words ys).1)
  put_in low [] ys h l near far = put_first low ys h l far
  put_in low (x ∷ []) ys h l near far = go (end_of x == start) refl
    where
      before : (start < end_of x) ⊎ (end_of x ≤ start) → end_of x ≤ start
      before (inl p) = true_is_not_false (f start) (h.4 start (omega (arith, near.0)) p) (was start (omega arith) (omega (arith, some)))
      before (inr p) = p

      ends : end_of x ≤ start
      ends = before (cases_lt start (end_of x))

      go : (b : Bool) → (end_of x == start) ≡ b
          → AreHoles g low high ((if b then (x.0, x.1 + (next_joined start words ys).0) ∷ [] else x ∷ (start, (next_joined start words ys).0) ∷ [])
          ++ (next_joined start words ys).1)
      go true t =
          let touches : x.0 + x.1 ≡ start = eqb-true _ _ t in
          join_next low x.0 (x.1 + (next_joined start words ys).0) (end_of x) ys h.0 (omega (arith, near.0)) (omega (arith, touches))
          (λ w p q. below w (omega (arith, near.0, q)) ∙ h.3 w p q) (λ w p q. below w q ∙ h.4 w p (omega (arith, touches, q)))
          (λ w p q. was w (omega (arith, touches, p)) q) h.6 (omega (arith, touches))
      go false t =
          let apart : end_of x < start = omega (arith, ends, eqb-false _ _ t) in (
            h.0,
            h.1,
            h.2,
            λ w p q. below w (omega (arith, near.0, q)) ∙ h.3 w p q,
            λ w p q. below w (omega (arith, apart, q)) ∙ h.4 w p q,
            λ p. below (end_of x) apart ∙ h.5 p,
            put_first (end_of x) ys h.6 (omega (arith, apart)) far,
          )
  put_in low (x ∷ y ∷ xs) ys h l near far =
      let next : end_of x ≤ y.0 = h.6.0 in
      let apart : end_of x < start = omega (arith, next, near.1.0) in (
        h.0,
        h.1,
        h.2,
        λ w p q. below w (omega (arith, near.0, q)) ∙ h.3 w p q,
        λ w p q. below w (omega (arith, apart, q)) ∙ h.4 w p q,
        λ p. below (end_of x) apart ∙ h.5 p,
        put_in (end_of x) (y ∷ xs) ys h.6 (omega (arith, apart)) near.1 far,
      )

-- holes ascend

first_after : (f : ℕ → Bool) (last high : ℕ) (hs : List (ℕ × ℕ)) → AreHoles f last high hs → (last < high → f last ≡ false) → Every (λ k. last < k.0) hs
first_after f last high [] h none = tt
first_after f last high (k ∷ hs) h none = (at (cases_lt last k.0), later hs h.6)
  where
    at : (last < k.0) ⊎ (k.0 ≤ last) → last < k.0
    at (inl l) = l
    at (inr l) = true_is_not_false (f last) (h.4 last l (omega (arith, h.0, h.1))) (none (omega (arith, h.0, h.1, h.2)))

    beyond : (from : ℕ) → last < from → (hs : List (ℕ × ℕ)) → AreHoles f from high hs → Every (λ k. last < k.0) hs
    beyond from l [] h = tt
    beyond from l (k ∷ hs) h = (omega (arith, l, h.0), beyond (end_of k) (omega (arith, l, h.0)) hs h.6)

    later : (hs : List (ℕ × ℕ)) → AreHoles f (end_of k) high hs → Every (λ k. last < k.0) hs
    later hs h = beyond (end_of k) (omega (arith, at (cases_lt last k.0))) hs h

pub holes_ascend : (f : ℕ → Bool) (low high : ℕ) (hs : List (ℕ × ℕ)) → AreHoles f low high hs → Ascends hs
holes_ascend f low high [] h = tt
holes_ascend f low high (k ∷ hs) h = (first_after f (end_of k) high hs h.6 h.5, holes_ascend f (end_of k) high hs h.6)

pub holes_end : (f : ℕ → Bool) (low high : ℕ) (hs : List (ℕ × ℕ)) → AreHoles f low high hs → Every (λ k. end_of k ≤ high) hs
holes_end f low high [] h = tt
holes_end f low high (k ∷ hs) h = (h.2, holes_end f (end_of k) high hs h.6)
