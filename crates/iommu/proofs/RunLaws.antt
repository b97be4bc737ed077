-- The first of the longest runs: how long it is where its neighbours belong together as those of other runs do.
use Rattle.std.proofs.Common.{◌≡◌, ℕ, zero, suc, ◌+◌, ◌<◌, ◌≤◌, Bool, true, false, List, [], ◌∷◌, sym, refl, ap, ◌∙◌, cond, arith}
use Rattle.mem_base.specs.lists.Runs.{Run, runs, put_before}
use Rattle.mem_base.specs.access.Trails.{first_length}

length_put : (b : Bool) (a : ℕ) (rs : List Run) → first_length (put_before b a rs) ≡ cond b (first_length rs + 1) 1
length_put true a [] = refl
length_put true a (r ∷ rs) = refl
length_put false a rs = refl

pub first_on : (j : ℕ → Bool) (a n : ℕ) → j a ≡ true → first_length (runs j a (suc n)) ≡ first_length (runs j (a + 1) n) + 1
first_on j a n e = length_put (j a) a (runs j (a + 1) n) ∙ ap (λ (b : Bool). cond b (first_length (runs j (a + 1) n) + 1) 1) e

pub first_off : (j : ℕ → Bool) (a n : ℕ) → j a ≡ false → first_length (runs j a (suc n)) ≡ 1
first_off j a n e = length_put (j a) a (runs j (a + 1) n) ∙ ap (λ (b : Bool). cond b (first_length (runs j (a + 1) n) + 1) 1) e

one_or_one : (b : Bool) (n : ℕ) → cond b n n ≡ n
one_or_one true n = refl
one_or_one false n = refl

pub first_one : (j : ℕ → Bool) (a : ℕ) → first_length (runs j a 1) ≡ 1
first_one j a = length_put (j a) a [] ∙ one_or_one (j a) 1

shifted : (j : ℕ → Bool) (a i : ℕ) → j (a + 1 + i) ≡ j (a + suc i)
shifted j a i = let e : a + 1 + i ≡ a + suc i = omega arith in ap j e

-- Of the first n numbers from `a` on only the first m count, since the run ends with them at the latest; and among
-- them neighbours belong together as from `b` on by another test. So the first run is as long as that of m numbers
-- there.
pub narrowed : (j k : ℕ → Bool) (m n a b : ℕ) → 0 < m → m ≤ n → ((i : ℕ) → i + 1 < m → j (a + i) ≡ k (b + i))
    → ((i : ℕ) → i + 1 ≡ m → m < n → j (a + i) ≡ false) → first_length (runs j a n) ≡ first_length (runs k b m)
narrowed j k zero n a b l w same ends = absurd (omega arith)
narrowed j k (suc m) zero a b l w same ends = absurd (omega arith)
narrowed j k (suc zero) (suc zero) a b l w same ends = first_one j a ∙ sym (first_one k b)
narrowed j k (suc zero) (suc (suc n)) a b l w same ends =
    let at : a + 0 ≡ a = omega arith in
    first_off j a (suc n) (ap j (sym at) ∙ ends 0 refl (omega arith)) ∙ sym (first_one k b)
narrowed j k (suc (suc m)) (suc n) a b l w same ends =
    let at : a + 0 ≡ a = omega arith in
    let bt : b + 0 ≡ b = omega arith in
    let both : j a ≡ k b = ap j (sym at) ∙ same 0 (omega arith) ∙ ap k bt in
    step (k b) refl both (narrowed j k (suc m) n (a + 1) (b + 1) (omega arith) (omega arith)
    (λ i l. shifted j a i ∙ same (suc i) (omega arith) ∙ sym (shifted k b i)) (λ i e l. shifted j a i ∙ ends (suc i) (omega arith) (omega arith)))
  where
    step : (t : Bool) → k b ≡ t → j a ≡ k b → first_length (runs j (a + 1) n) ≡ first_length (runs k (b + 1) (suc m))
        → first_length (runs j a (suc n)) ≡ first_length (runs k b (suc (suc m)))
    step true e both h = first_on j a n (both ∙ e) ∙ ap (λ (x : ℕ). x + 1) h ∙ sym (first_on k b (suc m) e)
    step false e both h = first_off j a n (both ∙ e) ∙ sym (first_off k b (suc m) e)

-- all m numbers belong together
pub all_one : (a m : ℕ) → first_length (runs (λ x. true) a m) ≡ m
all_one a zero = refl
all_one a (suc m) = first_on (λ x. true) a m refl ∙ ap (λ (x : ℕ). x + 1) (all_one (a + 1) m) ∙ (let e : m + 1 ≡ suc m = omega arith in e)
