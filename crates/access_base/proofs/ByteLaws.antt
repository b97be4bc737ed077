-- Laws of the bytes of words and numbers.
use Rattle.std.proofs.Common.{◌≡◌, ℕ, zero, suc, ◌+◌, ◌-◌, ◌*◌, ◌/◌, ◌%◌, ◌^◌, ◌<◌, ◌≤◌, true, false, List, [], ◌∷◌, ◌++◌, length, get_or}
use Rattle.std.proofs.Common.{take, drop, map, set, refl, sym, ap, subst, ◌∙◌, arith, append_assoc, ◌⊎◌, inl, inr}
use Rattle.std.specs.Prelude.{replicate, reverse, Bool}
use Rattle.std.specs.List.{range_with_len}
use Rattle.std.proofs.lemmas.Bool.{cases_lt}
use Rattle.std.proofs.lemmas.Nat.{pow-add}
use Rattle.std.proofs.lemmas.List.{length-reverse, reverse-append, get_or-reverse, get_or_past, take_more_set}
use Rattle.std.proofs.lemmas.List.FromFn.{map-range_with_len_more, take-map-range_with_len}
use Rattle.std.proofs.Math.Nat.{add-mul-mod_self_left, div-div-eq-div-mul, mod-add-div, mod-eq_of_lt, mod-lt, mul_assoc, mul_comm, mul-lt-mul_of_pos_left, zero-div}
use Rattle.std.proofs.Math.Pow.{pow_mono}
use Rattle.std.proofs.Math.Seq.{take-length}
use Rattle.mem_base.specs.access.Words.{little_endian, number_of_bytes, bytes_from, byte_of, bytes_of}
use Rattle.access_cut.proofs.Powers.{lowest_by_shift}
use Rattle.mem_base.proofs.WordLaws.{some_power, bytes_power}

-- bytes of a word by shifts

pub eight_bytes : (word first shift : ℕ) → word < 2 ^ 64 → shift ≡ first → word / 2 ^ (8 * shift) ≡ bytes_from word first 8
eight_bytes word first shift below is =
    let power : 2 ^ (8 * shift) ≡ 256 ^ first = ap (λ s. 2 ^ (8 * s)) is ∙ bytes_power first in
    let least : word / 256 ^ first ≤ word = omega arith in
    ap (λ d. word / d) power ∙ sym (mod-eq_of_lt {n = word / 256 ^ first} {m = 256 ^ 8} (omega (arith, below, least)))

pub few_bytes : (word first size shift bits : ℕ) → size < 8 → shift ≡ first → bits ≡ size
    → word / 2 ^ (8 * shift) % (1 * 2 ^ (8 * bits) % (2 ^ 64)) ≡ bytes_from word first size
few_bytes word first size shift bits few is same =
    let power : 2 ^ (8 * shift) ≡ 256 ^ first = ap (λ s. 2 ^ (8 * s)) is ∙ bytes_power first in
    lowest_by_shift (word / 2 ^ (8 * shift)) size bits few same ∙ ap (λ d. word / d % (256 ^ size)) power

-- numbers of bytes

power_more : (n : ℕ) → 256 ^ suc n ≡ 256 * 256 ^ n
power_more n = let one : suc n ≡ 1 + n = omega arith in ap (λ k. 256 ^ k) one ∙ pow-add 256 1 n

pub little_endian_below : (bs : List ℕ) → ((i : ℕ) → get_or bs i 0 < 256) → little_endian bs < 256 ^ length bs
little_endian_below [] h = omega arith
little_endian_below (b ∷ bs) h =
    let first : b < 256 = h 0 in
    let rest : little_endian bs < 256 ^ length bs = little_endian_below bs (λ i. h (suc i)) in
    let power : 256 ^ suc (length bs) ≡ 256 * 256 ^ length bs = power_more (length bs) in
    omega (arith, first, rest, power)

-- of a number whose lowest byte is b, the lowest bytes, one more than p counts
lowest_more : (b n p : ℕ) → b < 256 → 0 < p → (b + 256 * n) % (256 * p) ≡ b + 256 * (n % p)
lowest_more b n p byte some =
    let low : ℕ = n % p in
    let high : ℕ = n / p in
    let whole : low + p * high ≡ n = mod-add-div n p in
    let less : low < p = mod-lt n some in
    let swap : 256 * p * high ≡ 256 * (p * high) = mul_assoc 256 p high in
    let apart : b + 256 * n ≡ b + 256 * low + 256 * p * high = omega (arith, whole, swap) in
    ap (λ m. m % (256 * p)) apart ∙ add-mul-mod_self_left (b + 256 * low) (256 * p) high ∙ mod-eq_of_lt (omega (arith, byte, less))

lowest_bytes : (count : ℕ) (bs : List ℕ) → ((i : ℕ) → get_or bs i 0 < 256) → little_endian bs % 256 ^ count ≡ little_endian (take count bs)
lowest_bytes zero bs h = omega arith
lowest_bytes (suc count) [] h = mod-eq_of_lt (some_power (suc count))
lowest_bytes (suc count) (b ∷ bs) h =
    ap (λ p. (b + 256 * little_endian bs) % p) (power_more count)
    ∙ lowest_more b (little_endian bs) (256 ^ count) (h 0) (some_power count)
    ∙ ap (λ n. b + 256 * n) (lowest_bytes count bs (λ i. h (suc i)))

-- some of the bytes of a number
pub part_number : (from count : ℕ) (bs : List ℕ) → ((i : ℕ) → get_or bs i 0 < 256)
    → bytes_from (little_endian bs) from count ≡ little_endian (take count (drop from bs))
part_number zero count bs h = let all : little_endian bs / 1 ≡ little_endian bs = omega arith in
    ap (λ n. n % 256 ^ count) all ∙ lowest_bytes count bs h
part_number (suc from) count [] h = ap (λ n. n % 256 ^ count) (zero-div (256 ^ suc from)) ∙ lowest_bytes count [] h
part_number (suc from) count (b ∷ bs) h =
    let n : ℕ = b + 256 * little_endian bs in
    let byte : b < 256 = h 0 in
    let above : n / 256 ≡ little_endian bs = omega (arith, byte) in
    ap (λ p. n / p % 256 ^ count) (power_more from)
    ∙ ap (λ m. m % 256 ^ count) (sym (div-div-eq-div-mul n 256 (256 ^ from)) ∙ ap (λ m. m / 256 ^ from) above)
    ∙ part_number from count bs (λ i. h (suc i))

zeros : (k : ℕ) → little_endian (replicate k 0) ≡ 0
zeros zero = refl
zeros (suc k) = ap (λ n. 0 + 256 * n) (zeros k)

zeros_after : (xs : List ℕ) (k : ℕ) → little_endian (xs ++ replicate k 0) ≡ little_endian xs
zeros_after [] k = zeros k
zeros_after (x ∷ xs) k = ap (λ n. x + 256 * n) (zeros_after xs k)

zeros_reversed : (k : ℕ) (xs : List ℕ) → little_endian (reverse (replicate k 0) ++ xs) ≡ little_endian xs * 256 ^ k
zeros_reversed zero xs = let one : little_endian xs ≡ little_endian xs * 1 = omega arith in one
zeros_reversed (suc k) xs =
    ap (λ ys. little_endian (ys ++ xs)) (reverse-append (0 ∷ []) (replicate k 0))
    ∙ ap little_endian (append_assoc (reverse (replicate k 0)) (0 ∷ []) xs)
    ∙ zeros_reversed k (0 ∷ xs) ∙ more (little_endian xs) (256 ^ k) (256 ^ suc k) (power_more k)
  where
    more : (n p q : ℕ) → q ≡ 256 * p → (0 + 256 * n) * p ≡ n * q
    more n p q e = let swap : 0 + 256 * n ≡ n * 256 = omega arith in ap (λ m. m * p) swap ∙ mul_assoc n 256 p ∙ ap (λ z. n * z) (sym e)

-- a number of bytes, after which zero bytes come
pub padded_little : (bs : List ℕ) (k number : ℕ) → number ≡ number_of_bytes bs false → number ≡ number_of_bytes (bs ++ replicate k 0) false
padded_little bs k number is = is ∙ sym (zeros_after bs k)

get_or_below : (bs : List ℕ) → ((i : ℕ) → get_or bs i 0 < 256) → (i : ℕ) → get_or (reverse bs) i 0 < 256
get_or_below bs h i = go (cases_lt i (length bs))
  where
    go : (i < length bs) ⊎ (length bs ≤ i) → get_or (reverse bs) i 0 < 256
    go (inl l) = subst (λ x. x < 256) (sym (get_or-reverse bs i 0 l)) (h (length bs - 1 - i))
    go (inr l) = subst (λ x. x < 256) (sym (get_or_past (reverse bs) i 0 (subst (λ n. n ≤ i) (sym (length-reverse bs)) l))) (omega arith)

pub padded_big : (bs : List ℕ) (size k number shift : ℕ) → ((i : ℕ) → get_or bs i 0 < 256) → length bs + k ≡ size → size ≤ 8 → shift ≡ k
    → number ≡ number_of_bytes bs true → number * 2 ^ (8 * shift) % (2 ^ 64) ≡ number_of_bytes (bs ++ replicate k 0) true
padded_big bs size k number shift bytes all few same is =
    let power : 2 ^ (8 * shift) ≡ 256 ^ k = ap (λ s. 2 ^ (8 * s)) same ∙ bytes_power k in
    let below : little_endian (reverse bs) < 256 ^ length (reverse bs) = little_endian_below (reverse bs) (get_or_below bs bytes) in
    let count : length (reverse bs) ≡ length bs = length-reverse bs in
    let below : number < 256 ^ length bs = subst (λ n. n < 256 ^ length bs) (sym is) (subst (λ n. little_endian (reverse bs) < 256 ^ n) count below) in
    let some : 0 < 256 ^ k = some_power k in
    let most : number * 256 ^ k < 256 ^ length bs * 256 ^ k = times_below number (256 ^ length bs) (256 ^ k) below some in
    let whole : 256 ^ length bs * 256 ^ k ≡ 256 ^ size = sym (pow-add 256 (length bs) k) ∙ ap (λ n. 256 ^ n) all in
    let top : 256 ^ size ≤ 2 ^ 64 = subst (λ n. n ≤ 2 ^ 64) (bytes_power size) (pow_mono {i = 8 * size} {j = 64} (omega (arith, few))) in
    ap (λ p. number * p % (2 ^ 64)) power ∙ mod-eq_of_lt {n = number * 256 ^ k} {m = 2 ^ 64} (omega (arith, most, whole, top))
    ∙ ap (λ n. n * 256 ^ k) is ∙ sym (zeros_reversed k (reverse bs)) ∙ ap little_endian (sym (reverse-append bs (replicate k 0)))
  where
    times_below : (a b c : ℕ) → a < b → 0 < c → a * c < b * c
    times_below a b c h some = subst (λ x. x < b * c) (mul_comm c a) (subst (λ x. c * a < x) (mul_comm c b) (mul-lt-mul_of_pos_left h some))

-- bytes that are put one after another

pub put_more : (number size : ℕ) (big : Bool) (out : List ℕ) (i byte : ℕ) → i < length out → byte ≡ byte_of number size big i
    → take i out ≡ map (byte_of number size big) (range_with_len 0 i)
    → take (i + 1) (set out i byte) ≡ map (byte_of number size big) (range_with_len 0 (i + 1))
put_more number size big out i byte inside is so_far =
    take_more_set out i byte inside ∙ (λ j. so_far j ++ is j ∷ []) ∙ sym (map-range_with_len_more (byte_of number size big) 0 i i (omega arith))

pub put_all : (number size : ℕ) (big : Bool) (out : List ℕ) (n i : ℕ) → length out ≡ n → n ≤ i → i ≤ n → n ≤ size
    → take i out ≡ map (byte_of number size big) (range_with_len 0 i) → out ≡ take n (bytes_of number size big)
put_all number size big out n i all least most fits so_far =
    let same : i ≡ n = omega (arith, least, most) in
    sym (take-length out) ∙ ap (λ m. take m out) (all ∙ sym same) ∙ so_far ∙ ap (λ m. map (byte_of number size big) (range_with_len 0 m)) same
    ∙ sym (take-map-range_with_len (byte_of number size big) 0 size n fits)
