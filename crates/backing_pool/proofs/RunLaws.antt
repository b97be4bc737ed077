-- The holes of a list of places are the longest runs of free words.
use Rattle.std.proofs.Common.{◌≡◌, ◌⊎◌, inl, inr, ℕ, zero, suc, ◌+◌, ◌<◌, ◌≤◌, Bool, true, false, List, [], ◌∷◌, map, filter, sym, refl, ap, subst, ◌∙◌, arith}
use Rattle.std.proofs.lemmas.Bool.{cases_lt}
use Rattle.mem_base.specs.declared.access.cells.Place.{Place}
use Rattle.mem_base.specs.lists.Booleans.{bool_eq}
use Rattle.mem_base.specs.lists.Runs.{Run, run, put_before, runs}
use Rattle.mem_base.specs.access.Places.{is_free, holes}
use Rattle.backing_pool.specs.Holes.{hole_of, AreHoles}
use Rattle.mem_base.proofs.PlaceLaws.{starts_at}

module _ (f : ℕ → Bool) where
  abbrev alike : ℕ → Bool
  alike w = bool_eq (f w) (f (w + 1))

  abbrev free : List Run → List Run
  free rs = filter (λ r. f r.start) rs

  -- the runs from a word on begin there
  begins : (a n : ℕ) → (runs alike a n ≡ []) ⊎ ((r : Run) × (qs : List Run) × (runs alike a n ≡ r ∷ qs) × (r.start ≡ a))
  begins a zero = inl refl
  begins a (suc n) = inr (starts_at (alike a) a (runs alike (a + 1) n))

  -- a word that is taken begins no hole
  taken_first : (a n : ℕ) → f a ≡ false → free (runs alike a (suc n)) ≡ free (runs alike (a + 1) n)
  taken_first a n e = go (f (a + 1)) refl (runs alike (a + 1) n) (begins (a + 1) n)
    where
      go : (c : Bool) → f (a + 1) ≡ c → (rs : List Run) → (rs ≡ []) ⊎ ((r : Run) × (qs : List Run) × (rs ≡ r ∷ qs) × (r.start ≡ a + 1))
          → free (put_before (bool_eq (f a) c) a rs) ≡ free rs
      go true t rs at = rw e (rw e refl)
      go false t rs (inl none) = rw (e, none) (rw e refl)
      go false t rs (inr (r, qs, is, first)) =
          let no : f r.start ≡ false = ap f first ∙ t in
          rw (e, is) (rw (e, no) refl)

  -- a free word before one that is taken is a hole
  free_alone : (a n : ℕ) → f a ≡ true → f (a + 1) ≡ false → free (runs alike a (suc n)) ≡ run a 1 ∷ free (runs alike (a + 1) n)
  free_alone a n e t = rw (e, t) (rw e refl)

  free_last : (a : ℕ) → f a ≡ true → free (runs alike a 1) ≡ run a 1 ∷ []
  free_last a e = go (alike a)
    where
      go : (b : Bool) → free (put_before b a []) ≡ run a 1 ∷ []
      go true = rw e refl
      go false = rw e refl

  -- a free word before a hole lengthens it
  free_more : (a n len : ℕ) (hs : List Run) → f a ≡ true → f (a + 1) ≡ true → free (runs alike (a + 1) n) ≡ run (a + 1) len ∷ hs
      → free (runs alike a (suc n)) ≡ run a (len + 1) ∷ hs
  free_more a n len hs e t ih = go (runs alike (a + 1) n) (begins (a + 1) n) ih
    where
      go : (rs : List Run) → (rs ≡ []) ⊎ ((r : Run) × (qs : List Run) × (rs ≡ r ∷ qs) × (r.start ≡ a + 1)) → free rs ≡ run (a + 1) len ∷ hs
          → free (put_before (bool_eq (f a) (f (a + 1))) a rs) ≡ run a (len + 1) ∷ hs
      go rs (inl none) ih = absurd (let nil : [] ≡ run (a + 1) len ∷ hs = ap free (sym none) ∙ ih in cc)
      go rs (inr (r, qs, is, first)) ih =
          let yes : f r.start ≡ true = ap f first ∙ t in
          let whole : r ∷ free qs ≡ run (a + 1) len ∷ hs = (let k : free (r ∷ qs) ≡ r ∷ free qs = rw yes refl in sym k) ∙ ap free (sym is) ∙ ih in
          let length : r.length ≡ len = ap (λ (rs : List Run). elim rs as (λ _. ℕ) [ [] ↦ 0 | q ∷ _ ↦ q.length ]) whole in
          let rest : free qs ≡ hs = ap (λ (rs : List Run). elim rs as (λ _. List Run) [ [] ↦ [] | _ ∷ qs ↦ qs ]) whole in
          rw (e, t, is) (rw e (λ i. run a (length i + 1) ∷ rest i))

  pub holes_are : (a n : ℕ) (hs : List (ℕ × ℕ)) → AreHoles f a (a + n) hs → free (runs alike a n) ≡ map hole_of hs
  holes_are a zero [] h = refl
  holes_are a zero (k ∷ hs) h = absurd (omega (arith, h.0, h.1, h.2))
  holes_are a (suc n) [] h =
      let high : a + suc n ≡ a + 1 + n = omega arith in
      taken_first a n (h a (omega arith) (omega arith)) ∙ holes_are (a + 1) n [] (λ w l m. h w (omega (arith, l)) (omega (arith, high, m)))
  holes_are a (suc n) ((start, length) ∷ hs) h = go (holes_are (a + 1) n) length refl (cases_lt a start)
    where
      high : a + suc n ≡ a + 1 + n
      high = omega arith

      later : AreHoles f (start + length) (a + 1 + n) hs
      later = subst (λ b. AreHoles f (start + length) b hs) high h.6

      go : ((ks : List (ℕ × ℕ)) → AreHoles f (a + 1) (a + 1 + n) ks → free (runs alike (a + 1) n) ≡ map hole_of ks)
          → (len : ℕ) → length ≡ len → (a < start) ⊎ (start ≤ a) → free (runs alike a (suc n)) ≡ run start length ∷ map hole_of hs
      go ih len e (inl l) = taken_first a n (h.3 a (omega arith) l) ∙ ih ((start, length) ∷ hs)
          (omega (arith, l), h.1, omega (arith, h.2), λ w p q. h.3 w (omega (arith, p)) q, h.4, λ p. h.5 (omega (arith, p)), later)
      go ih zero e (inr l) = absurd (omega (arith, h.1, e))
      go ih (suc zero) e (inr l) = by n refl
        where
          at : start ≡ a
          at = omega (arith, l, h.0)

          end : start + length ≡ a + 1
          end = omega (arith, at, e)

          by : (m : ℕ) → n ≡ m → free (runs alike a (suc n)) ≡ run start length ∷ map hole_of hs
          by zero z =
              let none = ih hs (subst (λ x. AreHoles f x (a + 1 + n) hs) end later) in
              ap (λ m. free (runs alike a (suc m))) z ∙ free_last a (h.4 a (omega (arith, l)) (omega (arith, end)))
              ∙ (λ i. run (sym at i) (sym e i) ∷ (sym (ap (λ m. free (runs alike (a + 1) m)) z) ∙ none) i)
          by (suc m) z =
              let next : f (a + 1) ≡ false = ap f (sym end) ∙ h.5 (omega (arith, end, z)) in
              free_alone a n (h.4 a (omega (arith, l)) (omega (arith, end))) next
              ∙ (λ i. run (sym at i) (sym e i) ∷ ih hs (subst (λ x. AreHoles f x (a + 1 + n) hs) end later) i)
      go ih (suc (suc len)) e (inr l) =
          let at : start ≡ a = omega (arith, l, h.0) in
          let end : start + length ≡ a + 1 + suc len = omega (arith, at, e) in
          let whole : length ≡ suc len + 1 = omega (arith, e) in
          let shorter : AreHoles f (a + 1) (a + 1 + n) ((a + 1, suc len) ∷ hs) = (
            omega arith,
            omega arith,
            omega (arith, end, h.2),
            λ w p q. absurd (omega (arith, p, q)),
            λ w p q. h.4 w (omega (arith, at, p)) (omega (arith, end, q)),
            λ p. ap f (sym end) ∙ h.5 (omega (arith, end, p)),
            subst (λ x. AreHoles f x (a + 1 + n) hs) end later,
          ) in
          free_more a n (suc len) (map hole_of hs) (h.4 a (omega (arith, l)) (omega (arith, end))) (h.4 (a + 1) (omega (arith, at)) (omega (arith, end)))
          (ih ((a + 1, suc len) ∷ hs) shorter)
          ∙ (λ i. run (sym at i) (sym whole i) ∷ map hole_of hs)

-- the holes of the definition
pub holes_of : (pool_words : ℕ) (places : List Place) (hs : List (ℕ × ℕ)) → AreHoles (is_free places) 0 pool_words hs
    → map hole_of hs ≡ holes pool_words places
unfolding holes
holes_of pool_words places hs h =
    let sum : pool_words ≡ 0 + pool_words = omega arith in
    let from : AreHoles (is_free places) 0 (0 + pool_words) hs = subst (λ b. AreHoles (is_free places) 0 b hs) sum h in
    sym (holes_are (is_free places) 0 pool_words hs from)
