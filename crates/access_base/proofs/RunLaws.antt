-- Laws of runs: the first run of some numbers, and the runs after it.
use Rattle.std.proofs.Common.{◌≡◌, ℕ, zero, suc, ◌+◌, ◌-◌, ◌*◌, ◌%◌, ◌<◌, ◌≤◌, min, not, ◌==◌, Bool, true, false, [], ◌∷◌, ◌++◌, refl, sym, ap, ◌∙◌}
use Rattle.std.proofs.Common.{arith}
use Rattle.std.proofs.lemmas.Bool.{eqb-true}
use Rattle.mem_base.specs.lists.Runs.{run, runs, put_before, is_in_unit, touched}

-- a run goes on for as long as each number belongs to the next
pub first_run : (with_next : ℕ → Bool) (a c n : ℕ) → 0 < c → c ≤ n → ((i : ℕ) → i + 1 < c → with_next (a + i) ≡ true)
    → (c < n → with_next (a + (c - 1)) ≡ false) → runs with_next a n ≡ run a c ∷ runs with_next (a + c) (n - c)
first_run with_next a zero n some most together ends = absurd (omega (arith, some))
first_run with_next a (suc zero) zero some most together ends = absurd (omega (arith, most))
first_run with_next a (suc zero) (suc zero) some most together ends = alone (with_next a)
  where
    alone : (b : Bool) → put_before b a [] ≡ run a 1 ∷ []
    alone true = refl
    alone false = refl
first_run with_next a (suc zero) (suc (suc n)) some most together ends =
    let here : a + 0 ≡ a = omega arith in
    let apart : with_next a ≡ false = sym (ap with_next here) ∙ ends (omega arith) in
    let left : suc n ≡ suc (suc n) - 1 = omega arith in
    ap (λ b. put_before b a (runs with_next (a + 1) (suc n))) apart ∙ ap (λ m. run a 1 ∷ runs with_next (a + 1) m) left
first_run with_next a (suc (suc c)) zero some most together ends = absurd (omega (arith, most))
first_run with_next a (suc (suc c)) (suc n) some most together ends =
    let here : a + 0 ≡ a = omega arith in
    let joined : with_next a ≡ true = sym (ap with_next here) ∙ together 0 (omega arith) in
    let more : (i : ℕ) → i + 1 < suc c → with_next (a + 1 + i) ≡ true =
    (λ i less. let at : a + 1 + i ≡ a + (i + 1) = omega arith in ap with_next at ∙ together (i + 1) (omega (arith, less))) in
    let last : suc c < n → with_next (a + 1 + (suc c - 1)) ≡ false =
    (λ less. let at : a + 1 + (suc c - 1) ≡ a + (suc (suc c) - 1) = omega arith in ap with_next at ∙ ends (omega (arith, less))) in
    let rest = first_run with_next (a + 1) (suc c) n (omega arith) (omega (arith, most)) more last in
    let at : a + 1 + suc c ≡ a + suc (suc c) = omega arith in
    let count : suc c + 1 ≡ suc (suc c) = omega arith in
    let left : n - suc c ≡ suc n - suc (suc c) = omega arith in
    (λ i. put_before (joined i) a (rest i)) ∙ (λ i. run a (count i) ∷ runs with_next (at i) (left i))

-- the bytes of the first word, and those after it
pub first_word : (a c n : ℕ) → 0 < n → c ≡ min n (8 - a % 8) → touched 8 a n ≡ run a c ∷ touched 8 (a + c) (n - c)
first_word a c n some is = first_run (is_in_unit 8) a c n (omega (arith, some, is, less)) (omega (arith, is)) together ends
  where
    less : a % 8 < 8
    less = omega arith

    not_zero : (m : ℕ) → (m % 8 ≡ 0 → ⊥) → not (m % 8 == 0) ≡ true
    not_zero m h = go (m % 8 == 0) refl
      where
        go : (b : Bool) → (m % 8 == 0) ≡ b → not b ≡ true
        go true e = absurd (h (eqb-true (m % 8) 0 e))
        go false e = refl

    is_zero : (m : ℕ) → m % 8 ≡ 0 → not (m % 8 == 0) ≡ false
    is_zero m h = ap (λ r. not (r == 0)) h

    together : (i : ℕ) → i + 1 < c → is_in_unit 8 (a + i) ≡ true
    together i l = not_zero (a + i + 1) (λ e. omega (arith, is, l, e))

    ends : c < n → is_in_unit 8 (a + (c - 1)) ≡ false
    ends l = is_zero (a + (c - 1) + 1) (omega (arith, is, l, some))

-- the bytes of whole words, and those after them
pub whole_words : (a k m c : ℕ) → a % 8 ≡ 0 → c ≡ 8 * k → touched 8 a (c + m) ≡ touched 8 a c ++ touched 8 (a + c) m
whole_words a zero m c begins is =
    let none : c ≡ 0 = omega (arith, is) in
    let here : a ≡ a + c = omega (arith, none) in
    let all : c + m ≡ m = omega (arith, none) in
    (λ i. touched 8 (here i) (all i)) ∙ (λ i. touched 8 a (sym none i) ++ touched 8 (a + c) m)
whole_words a (suc k) m c begins is =
    let left : c - 8 ≡ 8 * k = omega (arith, is) in
    let next : (a + 8) % 8 ≡ 0 = omega (arith, begins) in
    let all = first_word a 8 (c + m) (omega (arith, is)) (omega (arith, is, begins)) in
    let these = first_word a 8 c (omega (arith, is)) (omega (arith, is, begins)) in
    let size : c + m - 8 ≡ c - 8 + m = omega (arith, is) in
    let at : a + 8 + (c - 8) ≡ a + c = omega (arith, is) in
    all ∙ (λ i. run a 8 ∷ touched 8 (a + 8) (size i)) ∙ ap (λ rs. run a 8 ∷ rs) (whole_words (a + 8) k m (c - 8) next left)
    ∙ (λ i. run a 8 ∷ (touched 8 (a + 8) (c - 8) ++ touched 8 (at i) m)) ∙ ap (λ rs. rs ++ touched 8 (a + c) m) (sym these)
