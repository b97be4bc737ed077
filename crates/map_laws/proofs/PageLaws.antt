-- Laws of pages: a page whose size is a power of two, and which begins at a multiple of it, ends in the range of
-- addresses.
use Rattle.std.proofs.Common.{◌≡◌, ◌≢◌, ℕ, zero, suc, ◌+◌, ◌-◌, ◌*◌, ◌/◌, ◌%◌, ◌^◌, ◌<◌, ◌≤◌, true, false, not, eqb, ltb, ◌⊎◌}
use Rattle.std.proofs.Common.{inl, inr, None, count_ones, refl, sym, ap, ◌∙◌, arith}
use Rattle.std.proofs.lemmas.Bool.Decides.{nat_tests}
use Rattle.std.proofs.lemmas.Nat.{ones_cat, zero_from_ones, pow-add, pow_below, div-add-mod', mod_below, mul-le, ones_le_self}
use Rattle.mem_base.specs.declared.map.refusals.Refusal.TheVariants.{BadPage}
use Rattle.mem_base.specs.map.TableRefusals.{bad_page}
use Rattle.map_laws.proofs.RefusalLaws.{refuse_if-none}
use Rattle.std.proofs.lemmas.Bool.{or_parts, not-false}

pub one_has : count_ones 1 ≢ 0
one_has e = let z = zero_from_ones 1 e in omega arith

-- the one digit of a number is its lowest, or stands further up
pub last_digit : (q r : ℕ) → r < 2 → count_ones (q * 2 + r) ≡ 1 → ((r ≡ 1) × (q ≡ 0)) ⊎ ((r ≡ 0) × (count_ones q ≡ 1))
last_digit q zero l e = let h = ones_cat 1 q 0 (omega arith) in let z = ones_le_self 0 in inr (refl, omega arith)
last_digit q (suc zero) l e = let h = ones_cat 1 q 1 (omega arith) in let some = one_has in let none : count_ones q ≡ 0 = omega arith in
    inl (refl, zero_from_ones q none)
last_digit q (suc (suc r)) l e = absurd (omega arith)

pub doubled : (n q r : ℕ) → q * 2 + r ≡ n → ((n' : ℕ) → n' ≡ q → count_ones n' ≡ 1 → (k : ℕ) × (n' ≡ 2 ^ k)) → ((r ≡ 1) × (q ≡ 0))
    ⊎ ((r ≡ 0) × (count_ones q ≡ 1)) → (k : ℕ) × (n ≡ 2 ^ k)
doubled n q r is up (inl (one, none)) = (0, omega arith)
doubled n q r is up (inr (even, rest)) =
    let h = up q refl rest in
    let e = h.1 in
    let p = pow-add 2 h.0 1 in
    (h.0 + 1, omega arith)

pub one_digit : (most n : ℕ) → n ≤ most → count_ones n ≡ 1 → (k : ℕ) × (n ≡ 2 ^ k)
one_digit zero n l e = let z : n ≡ 0 = omega arith in let q : count_ones n ≡ count_ones 0 = ap count_ones z in let h = ones_le_self 0 in absurd (omega arith)
one_digit (suc most) n l e =
    let split = div-add-mod' n 2 in
    let low : n % 2 < 2 = mod_below n 2 (omega arith) in
    doubled n (n / 2) (n % 2) split (λ q is ones. one_digit most q (omega arith) ones) (last_digit (n / 2) (n % 2) low (ap count_ones split ∙ e))

next_multiple : (q t m : ℕ) → q * m < t * m → q * m + m ≤ t * m
next_multiple q t m l =
    elim (ltb q t) as (λ b. ltb q t ≡ b → q * m + m ≤ t * m) [
      | true ↦ λ e. let less : q + 1 ≤ t = grind (arith, nat_tests) in let h = mul-le (q + 1) m t m less (omega arith) in omega arith
      | false ↦ λ e. let more : t ≤ q = grind (arith, nat_tests) in let h = mul-le t m q m more (omega arith) in absurd (omega arith)
    ] refl

top_multiple : (k : ℕ) → 2 ^ k ≤ 2 ^ 64 → (t : ℕ) × (t * 2 ^ k ≡ 2 ^ 64)
top_multiple k l =
    elim (ltb 64 k) as (λ b. ltb 64 k ≡ b → (t : ℕ) × (t * 2 ^ k ≡ 2 ^ 64)) [
      | true ↦ λ e. let more : 64 < k = grind (arith, nat_tests) in let h = pow_below 64 k more in absurd (omega arith)
      | false ↦ λ e.
          let less : k ≤ 64 = grind (arith, nat_tests) in
          let parts : (64 - k) + k ≡ 64 = omega arith in
          (2 ^ (64 - k), sym (pow-add 2 (64 - k) k) ∙ ap (λ n. 2 ^ n) parts)
    ] refl

pub page_ends : (iova size : ℕ) → count_ones size ≡ 1 → iova % size ≡ 0 → iova < 2 ^ 64 → size ≤ 2 ^ 64 → iova + size ≤ 2 ^ 64
page_ends iova size ones whole l s =
    let p = one_digit size size (omega arith) ones in
    let small : 2 ^ p.0 ≤ 2 ^ 64 = let e = p.1 in omega arith in
    let top = top_multiple p.0 small in
    let all : top.0 * size ≡ 2 ^ 64 = ap (λ n. top.0 * n) p.1 ∙ top.1 in
    let whole_pages : iova / size * size ≡ iova = let h = div-add-mod' iova size in omega arith in
    let h = next_multiple (iova / size) top.0 size (omega arith) in
    omega arith

-- a page that a Map may have
pub record IsPage (iova size : ℕ) : Type 0 where
  pub some : 0 < size
  pub ends : iova + (size - 1) < 2 ^ 64
  pub mask : size - 1 + 1 ≡ size

pub bad_page-none : (iova size : ℕ) → bad_page iova size ≡ None → iova < 2 ^ 64 → size ≤ 2 ^ 64 → IsPage iova size
bad_page-none iova size e l s =
    let tests = or_parts (not (eqb (count_ones size) 1)) (not (eqb (iova % size) 0)) (refuse_if-none _ BadPage e) in
    let one_bit = not-false (eqb (count_ones size) 1) tests.0 in
    let multiple = not-false (eqb (iova % size) 0) tests.1 in
    let ones : count_ones size ≡ 1 = grind (arith, nat_tests) in
    let whole : iova % size ≡ 0 = grind (arith, nat_tests) in
    let ends = page_ends iova size ones whole l s in
    let few = ones_le_self size in
    record { some = omega arith; ends = omega arith; mask = omega arith }
