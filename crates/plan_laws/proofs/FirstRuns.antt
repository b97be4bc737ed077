-- The first run of some numbers.
use Rattle.std.proofs.Common.{◌≡◌, ℕ, zero, suc, ◌+◌, ◌-◌, ◌<◌, ◌≤◌, Bool, true, false, [], ◌∷◌, refl, sym, ap, subst, ◌∙◌, arith}
use Rattle.mem_base.specs.lists.Runs.{run, runs, put_before}
use Rattle.mem_base.specs.access.Trails.{first_length}

-- the first run of n numbers has c of them, each of which belongs to the next, and where it ends before they do its last does not
pub record IsFirst (j : ℕ → Bool) (a n c : ℕ) : Type 0 where
  pub some : 0 < c
  pub most : c ≤ n
  pub is : runs j a n ≡ run a c ∷ runs j (a + c) (n - c)
  pub shared : (i : ℕ) → i + 1 < c → j (a + i) ≡ true
  pub ends : c < n → j (a + (c - 1)) ≡ false

put_on : (b : Bool) (a : ℕ) → put_before b a [] ≡ run a 1 ∷ []
put_on true a = refl
put_on false a = refl

split : (j : ℕ → Bool) (a n : ℕ) → 0 < n → (c : ℕ) × IsFirst j a n c
split j a zero some = absurd (omega (arith, some))
split j a (suc zero) some = (
  1,
  record {
    some = omega arith;
    most = omega arith;
    is = put_on (j a) a;
    shared = λ i l. absurd (omega (arith, l));
    ends = λ l. absurd (omega (arith, l));
  },
)
split j a (suc (suc n)) some = go (j a) refl (split j (a + 1) (suc n) (omega arith))
  where
    go : (b : Bool) → j a ≡ b → ((c : ℕ) × IsFirst j (a + 1) (suc n) c) → (c : ℕ) × IsFirst j a (suc (suc n)) c
    go false e t =
        let left : suc n ≡ suc (suc n) - 1 = omega arith in
        let here : a + (1 - 1) ≡ a = omega arith in (
          1,
          record {
            some = omega arith;
            most = omega arith;
            is = ap (λ b. put_before b a (runs j (a + 1) (suc n))) e ∙ ap (λ m. run a 1 ∷ runs j (a + 1) m) left;
            shared = λ i l. absurd (omega (arith, l));
            ends = λ l. ap j here ∙ e;
          },
        )
    go true e t =
        let c : ℕ = t.0 in
        let some : 0 < c = t.1.some in
        let most : c ≤ suc n = t.1.most in
        let at : a + 1 + c ≡ a + (c + 1) = omega arith in
        let left : suc n - c ≡ suc (suc n) - (c + 1) = omega arith in
        let last : a + (c + 1 - 1) ≡ a + 1 + (c - 1) = omega (arith, some) in (
          c + 1,
          record {
            some = omega arith;
            most = omega (arith, most);
            is = (λ i. put_before (e i) a (t.1.is i)) ∙ (λ i. run a (c + 1) ∷ runs j (at i) (left i));
            shared = λ i l. more i c t.1.shared l;
            ends = λ l. ap j last ∙ t.1.ends (omega (arith, l));
          },
        )
      where
        more : (i c : ℕ) → ((i : ℕ) → i + 1 < c → j (a + 1 + i) ≡ true) → i + 1 < c + 1 → j (a + i) ≡ true
        more zero c h l = let at : a + 0 ≡ a = omega arith in ap j at ∙ e
        more (suc i) c h l = let at : a + suc i ≡ a + 1 + i = omega arith in ap j at ∙ h i (omega (arith, l))

-- its length is told
pub first_is : (j : ℕ → Bool) (a n : ℕ) → 0 < n → IsFirst j a n (first_length (runs j a n))
first_is j a n some = let t = split j a n some in subst (IsFirst j a n) (sym (ap first_length t.1.is)) t.1
