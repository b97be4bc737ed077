-- A word with some of its bytes replaced is a word, and its parts are those that shifts of eight bits a byte give.
use Rattle.std.proofs.Common.{◌≡◌, ℕ, zero, suc, ◌+◌, ◌-◌, ◌*◌, ◌/◌, ◌%◌, ◌^◌, ◌<◌, ◌≤◌, refl, sym, ap, ◌∙◌, subst, arith}
use Rattle.std.proofs.lemmas.Nat.{pow-add, pow_below}
use Rattle.std.proofs.Math.Nat.{mod-lt, mod-eq_of_lt, mod-add-div, mul-le-mul_left, div-lt_iff_lt-mul, mul_comm}
use Rattle.mem_base.specs.access.Words.{in_word, replaced}

pub bytes_power : (n : ℕ) → 2 ^ (8 * n) ≡ 256 ^ n
bytes_power zero = refl
bytes_power (suc n) =
    let more : 8 * suc n ≡ 8 + 8 * n = omega arith in
    let one : 1 + n ≡ suc n = omega arith in
    ap (λ k. 2 ^ k) more ∙ pow-add 2 8 (8 * n) ∙ ap (λ x. 256 * x) (bytes_power n) ∙ sym (pow-add 256 1 n) ∙ ap (λ k. 256 ^ k) one

pub lowest_by_shift : (number bytes : ℕ) → bytes < 8 → number % (1 * 2 ^ (8 * bytes) % (2 ^ 64)) ≡ number % (256 ^ bytes)
lowest_by_shift number bytes few =
    let plain : 1 * 2 ^ (8 * bytes) ≡ 2 ^ (8 * bytes) = omega arith in
    ap (λ m. number % m) (ap (λ x. x % (2 ^ 64)) plain ∙ mod-eq_of_lt (pow_below (8 * bytes) 64 (omega (arith, few))) ∙ bytes_power bytes)

pub some_power : (n : ℕ) → 0 < 256 ^ n
some_power zero = omega arith
some_power (suc n) = let e : 256 ^ (n + 1) ≡ 256 ^ n * 256 = pow-add 256 n 1 in let h = some_power n in let l : 0 < 256 ^ (n + 1) = omega arith in
    subst (λ (k : ℕ). 0 < 256 ^ k) {x = n + 1} (omega arith) l

-- what is below the bytes replaced, and these: less than what is above counts by
lower_fits : (old value b w : ℕ) → 0 < b → 0 < w → (old % b + b * (value % w)) < b * w
lower_fits old value b w pb pw =
    let x : ℕ = value % w in
    let l : x < w = mod-lt value pw in
    let m : b * (x + 1) ≤ b * w = mul-le-mul_left b (omega arith) in
    let d : b * (x + 1) ≡ b * x + b = grind arith in
    let r = mod-lt old pb in omega arith

upper_fits : (old a c : ℕ) → 0 < a → old < a * c → a * (old / a) + a ≤ a * c
upper_fits old a c pa l =
    let q : ℕ = old / a in
    let below : q < c = (div-lt_iff_lt-mul pa).1 (subst (λ (k : ℕ). old < k) (mul_comm a c) l) in
    let m : a * (q + 1) ≤ a * c = mul-le-mul_left a (omega arith) in
    let d : a * (q + 1) ≡ a * q + a = grind arith in omega arith

-- a word has eight bytes
whole_power : (f b : ℕ) → f + b ≤ 8 → 256 ^ (f + b) * 256 ^ (8 - (f + b)) ≡ 18446744073709551616
whole_power f b l = let e : f + b + (8 - (f + b)) ≡ 8 = omega arith in sym (pow-add 256 (f + b) (8 - (f + b))) ∙ ap (λ (k : ℕ). 256 ^ k) e

-- the three parts of a word whose bytes are replaced, and that they are a word together
module _ (old value f b : ℕ) (within : f + b ≤ 8) (small : old < 18446744073709551616) where
  above : ℕ
  above = 256 ^ (f + b)

  lower : old % 256 ^ f + 256 ^ f * (value % 256 ^ b) < 256 ^ (f + b)
  lower =
      subst (λ (k : ℕ). old % 256 ^ f + 256 ^ f * (value % 256 ^ b) < k) (sym (pow-add 256 f b))
      (lower_fits old value (256 ^ f) (256 ^ b) (some_power f) (some_power b))

  upper : 256 ^ (f + b) * (old / 256 ^ (f + b)) + 256 ^ (f + b) ≤ 18446744073709551616
  upper =
      let a : ℕ = 256 ^ (f + b) in
      let c : ℕ = 256 ^ (8 - (f + b)) in
      let e : a * c ≡ 18446744073709551616 = whole_power f b within in
      subst (λ (k : ℕ). a * (old / a) + a ≤ k) e (upper_fits old a c (some_power (f + b)) (subst (λ (k : ℕ). old < k) (sym e) small))

  pub shifted : (value % 256 ^ b) * 2 ^ (8 * f) % 18446744073709551616 ≡ 256 ^ f * (value % 256 ^ b)
  shifted =
      let n : ℕ = value % 256 ^ b in
      let e : n * 2 ^ (8 * f) ≡ 256 ^ f * n = ap (λ k. n * k) (bytes_power f) ∙ mul_comm n (256 ^ f) in
      let l : old % 256 ^ f + 256 ^ f * n < 256 ^ (f + b) = lower in
      let u = upper in
      ap (λ k. k % 18446744073709551616) e ∙ mod-eq_of_lt (omega arith)

  pub rest : old - old % 256 ^ (f + b) ≡ 256 ^ (f + b) * (old / 256 ^ (f + b))
  rest = let e = mod-add-div old (256 ^ (f + b)) in omega arith

  pub all_in : in_word f b ≡ b
  all_in = omega arith

  pub is_replaced : old % 256 ^ f + (value % 256 ^ b) * 2 ^ (8 * f) % 18446744073709551616 + (old - old % 256 ^ (f + b)) ≡ replaced old f b value
  is_replaced =
      ap (λ s. old % 256 ^ f + s + (old - old % 256 ^ (f + b))) shifted ∙ ap (λ r. old % 256 ^ f + 256 ^ f * (value % 256 ^ b) + r) rest
      ∙ ap (λ n. old % 256 ^ f + 256 ^ f * (value % 256 ^ n) + 256 ^ (f + n) * (old / 256 ^ (f + n))) (sym all_in)

  pub lower_part : old % 256 ^ f + (value % 256 ^ b) * 2 ^ (8 * f) % 18446744073709551616 < 18446744073709551616
  lower_part = let l = lower in let u = upper in subst (λ (k : ℕ). old % 256 ^ f + k < 18446744073709551616) (sym shifted) (omega arith)

  pub whole : old % 256 ^ f + (value % 256 ^ b) * 2 ^ (8 * f) % 18446744073709551616 + (old - old % 256 ^ (f + b)) < 18446744073709551616
  whole =
      let l = lower in
      let u = upper in
      let r = rest in
      let fits : old % 256 ^ f + 256 ^ f * (value % 256 ^ b) + (old - old % 256 ^ (f + b)) < 18446744073709551616 = omega arith in
      subst (λ (k : ℕ). old % 256 ^ f + k + (old - old % 256 ^ (f + b)) < 18446744073709551616) (sym shifted) fits
