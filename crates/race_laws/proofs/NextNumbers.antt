-- Numbers next to one another.
use Rattle.std.proofs.Common.{◌≡◌, ℕ, zero, suc, ◌+◌, ◌<◌, ◌≤◌, refl, ap, arith}

pub next_above : (s a : ℕ) → s ≤ a → (a ≡ s → ⊥) → s + 1 ≤ a
next_above zero zero l ne = absurd (ne refl)
next_above zero (suc a) l ne = omega arith
next_above (suc s) zero l ne = absurd (omega (arith, l))
next_above (suc s) (suc a) l ne = let h = next_above s a (omega (arith, l)) (λ e. ne (ap suc e)) in omega (arith, h)

pub next_under : (n m : ℕ) → n < m + 1 → (n ≡ m → ⊥) → n < m
next_under zero zero l ne = absurd (ne refl)
next_under zero (suc m) l ne = omega arith
next_under (suc n) zero l ne = absurd (omega (arith, l))
next_under (suc n) (suc m) l ne = let h = next_under n m (omega (arith, l)) (λ e. ne (ap suc e)) in omega (arith, h)
