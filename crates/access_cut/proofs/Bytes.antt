-- The bytes of a number, read from the last to the first.
use Rattle.std.proofs.Common.{◌≡◌, ◌<◌, ◌≤◌, ◌+◌, ◌-◌, ◌*◌, ◌^◌, ℕ, List, length, get_or, drop, ap, sym, subst, ◌∙◌, arith}
use Rattle.std.proofs.lemmas.List.{drop_more}
use Rattle.std.proofs.lemmas.Nat.{pow-add}
use Rattle.mem_base.specs.access.Words.{little_endian}

-- the number with the byte before its bytes as the lowest
pub one_more : (bytes : List ℕ) (left d : ℕ) → 0 < left → left ≤ length bytes
    → 256 * little_endian (drop left bytes) + get_or bytes (left - 1) d ≡ little_endian (drop (left - 1) bytes)
one_more bytes left d some most =
    let byte : ℕ = get_or bytes (left - 1) d in
    let next : left - 1 + 1 ≡ left = omega (arith, some) in
    let below = drop_more bytes (left - 1) d (omega (arith, some, most)) in
    sym (ap little_endian below ∙ ap (λ n. byte + 256 * little_endian (drop n bytes)) next ∙ omega arith)

-- one byte more makes at most a number of one byte more
pub fits_more : (number byte count left : ℕ) → 0 < left → left ≤ count → number < 256 ^ (count - left) → byte < 256
    → 256 * number + byte < 256 ^ (count - (left - 1))
fits_more number byte count left some most small fits =
    let next : count - left + 1 ≡ count - (left - 1) = omega (arith, some, most) in
    let power : 256 ^ (count - left + 1) ≡ 256 ^ (count - left) * 256 = pow-add 256 (count - left) 1 in
    subst (λ k. 256 * number + byte < 256 ^ k) next (omega (arith, power, small, fits))
