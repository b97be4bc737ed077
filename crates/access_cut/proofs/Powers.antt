-- Bytes are shifted by eight bits each.
use Rattle.std.proofs.Common.{◌≡◌, ◌<◌, ◌≤◌, ◌*◌, ◌%◌, ◌^◌, ℕ, sym, ap, ◌∙◌, arith}
use Rattle.std.proofs.lemmas.Nat.{pow_below}
use Rattle.std.proofs.Math.Nat.{mod-eq_of_lt}
use Rattle.std.proofs.Math.Pow.{pow_mono}
use Rattle.mem_base.proofs.WordLaws.{bytes_power}

-- the modulus of a number's lowest bytes, as a shift gives it
pub modulus : (bytes : ℕ) → bytes < 8 → 1 * 2 ^ (8 * bytes) % (2 ^ 64) ≡ 256 ^ bytes
modulus bytes few =
    let plain : 1 * 2 ^ (8 * bytes) ≡ 2 ^ (8 * bytes) = omega arith in
    ap (λ x. x % (2 ^ 64)) plain ∙ mod-eq_of_lt (pow_below (8 * bytes) 64 (omega (arith, few))) ∙ bytes_power bytes

pub lowest_by_shift : (number bytes shift : ℕ) → bytes < 8 → shift ≡ bytes → number % (1 * 2 ^ (8 * shift) % (2 ^ 64)) ≡ number % (256 ^ bytes)
lowest_by_shift number bytes shift few is = ap (λ k. number % (1 * 2 ^ (8 * k) % (2 ^ 64))) is ∙ ap (λ m. number % m) (modulus bytes few)

-- a number of at most seven bytes
pub below_bytes : (number bytes : ℕ) → number < 256 ^ bytes → bytes ≤ 7 → number < 2 ^ 56
below_bytes number bytes below few =
    let power : 256 ^ bytes ≡ 2 ^ (8 * bytes) = sym (bytes_power bytes) in
    let most : 2 ^ (8 * bytes) ≤ 2 ^ 56 = pow_mono {i = 8 * bytes} {j = 56} (omega (arith, few)) in
    omega (arith, below, power, most)
