-- The size of a piece, where more bytes are left than the piece takes.
use Rattle.std.proofs.Common.{◌≡◌, ℕ, zero, suc, ◌+◌, ◌-◌, ◌<◌, ◌≤◌, ◌||◌, ◌==◌, min, Bool, true, false, if◌then◌else◌, ◌⊎◌, inl, inr, refl, sym, ap, subst, arith}
use Rattle.std.specs.Prelude.{◌%◌}
use Rattle.std.proofs.lemmas.Bool.{eqb-true}
use Rattle.std.proofs.lemmas.Bool.Decides.{nat_tests}
use Rattle.mem_base.specs.declared.map.kinds.Ops.{Ops}
use Rattle.mem_base.specs.declared.access.accesses.Piece.{Piece}
use Rattle.mem_base.specs.lists.Every.{Every}
use Rattle.mem_base.specs.access.Pieces.{power_within, power_dividing, aligned_size, size_at, pieces_from}
use Rattle.access_cut.proofs.PieceLaws.{power_fits, chosen_most, size_most}
use Rattle.access_base.specs.Sizes.{IsSize}
use Rattle.access_base.proofs.DeviceLaws.{power_is_size}

power_between : (x y : ℕ) → power_within y ≤ x → x ≤ y → power_within x ≡ power_within y
power_between x y l u = grind (arith, nat_tests)

chosen_less : (b : Bool) (n m d : ℕ) → n ≤ m → (if b then n else min n d) ≤ (if b then m else min m d)
chosen_less true n m d l = l
chosen_less false n m d l = omega (arith, l)

-- a number that is within the larger choice and within n is within the smaller
chosen_within : (b : Bool) (k n m d : ℕ) → k ≤ n → k ≤ (if b then m else min m d) → k ≤ (if b then n else min n d)
chosen_within true k n m d l u = l
chosen_within false k n m d l u = omega (arith, l, u)

zero_or_some : (n : ℕ) → (n ≡ 0) ⊎ (1 ≤ n)
zero_or_some zero = inl refl
zero_or_some (suc n) = inr (omega arith)

-- a piece that fits in fewer bytes is the piece of these
pub same_size : (ops : Ops) (offset few many : ℕ) → few ≤ many → size_at ops offset many ≤ few → size_at ops offset few ≡ size_at ops offset many
same_size ops offset few many l fits = go (zero_or_some y)
  where
    b : Bool
    b = ops.impl_unaligned || (offset == 0)

    x : ℕ
    x = aligned_size ops offset (min few ops.valid_max)

    y : ℕ
    y = aligned_size ops offset (min many ops.valid_max)

    less : x ≤ y
    less = chosen_less b (min few ops.valid_max) (min many ops.valid_max) (power_dividing offset) (omega (arith, l))

    go : (y ≡ 0) ⊎ (1 ≤ y) → power_within x ≡ power_within y
    go (inl e) = let same : x ≡ y = omega (arith, less, e) in ap power_within same
    go (inr some) =
        let p = power_fits y y (omega arith) some in
        let m = chosen_most b (min many ops.valid_max) (power_dividing offset) in
        power_between x y
        (chosen_within b (power_within y) (min few ops.valid_max) (min many ops.valid_max) (power_dividing offset) (omega (arith, p, m, fits)) p) less

-- where pieces lie
abbrev pub IsPieceIn : ℕ → ℕ → Piece → Type 0
IsPieceIn low high p = (low ≤ p.offset) × (p.offset + p.size ≤ high)

pub pieces_in : (ops : Ops) (low high offset left inside : ℕ) → low ≤ offset → offset + left ≤ high → Every (IsPieceIn low high) (pieces_from ops offset left inside)
pieces_in ops low high offset zero inside l u = tt
pieces_in ops low high offset (suc left) zero l u =
    let s = size_most ops offset (suc left) (omega arith) in
    ((l, omega (arith, s, u)), pieces_in ops low high (offset + 1) left (size_at ops offset (suc left) - 1) (omega (arith, l)) (omega (arith, u)))
pieces_in ops low high offset (suc left) (suc inside) l u = pieces_in ops low high (offset + 1) left inside (omega (arith, l)) (omega (arith, u))

-- a size is at most what is left, and at least 1
pub size_less : (ops : Ops) (offset few left : ℕ) → few ≤ left → 1 ≤ left → size_at ops offset few ≤ left
size_less ops offset few left l some =
    let m = chosen_most (ops.impl_unaligned || (offset == 0)) (min few ops.valid_max) (power_dividing offset) in
    power_fits (aligned_size ops offset (min few ops.valid_max)) left (omega (arith, l, m)) some

-- an aligned piece ends where the range does, or before, if the range ends at a multiple of the largest size
even_end : (p d v offset length : ℕ) → IsSize p → IsSize v → p ≤ v
    → (2 ≤ p → offset % 2 ≡ 0) → (4 ≤ p → offset % 4 ≡ 0) → (8 ≤ p → offset % 8 ≡ 0) → (offset + length) % v ≡ 0 → 0 < length → p ≤ length
even_end p d v offset length (inl a) at l two four eight e some = omega (arith, a, some)
even_end p d v offset length (inr (inl a)) (inl b) l two four eight e some = absurd (omega (arith, a, b, l))
even_end p d v offset length (inr (inl a)) (inr (inl b)) l two four eight e some =
    let o = two (omega (arith, a)) in
    let z : (offset + length) % 2 ≡ 0 = subst (λ n. (offset + length) % n ≡ 0) b e in omega (arith, a, o, z, some)
even_end p d v offset length (inr (inl a)) (inr (inr (inl b))) l two four eight e some =
    let o = two (omega (arith, a)) in
    let z : (offset + length) % 4 ≡ 0 = subst (λ n. (offset + length) % n ≡ 0) b e in omega (arith, a, o, z, some)
even_end p d v offset length (inr (inl a)) (inr (inr (inr b))) l two four eight e some =
    let o = two (omega (arith, a)) in
    let z : (offset + length) % 8 ≡ 0 = subst (λ n. (offset + length) % n ≡ 0) b e in omega (arith, a, o, z, some)
even_end p d v offset length (inr (inr (inl a))) (inl b) l two four eight e some = absurd (omega (arith, a, b, l))
even_end p d v offset length (inr (inr (inl a))) (inr (inl b)) l two four eight e some = absurd (omega (arith, a, b, l))
even_end p d v offset length (inr (inr (inl a))) (inr (inr (inl b))) l two four eight e some =
    let o = four (omega (arith, a)) in
    let z : (offset + length) % 4 ≡ 0 = subst (λ n. (offset + length) % n ≡ 0) b e in omega (arith, a, o, z, some)
even_end p d v offset length (inr (inr (inl a))) (inr (inr (inr b))) l two four eight e some =
    let o = four (omega (arith, a)) in
    let z : (offset + length) % 8 ≡ 0 = subst (λ n. (offset + length) % n ≡ 0) b e in omega (arith, a, o, z, some)
even_end p d v offset length (inr (inr (inr a))) (inl b) l two four eight e some = absurd (omega (arith, a, b, l))
even_end p d v offset length (inr (inr (inr a))) (inr (inl b)) l two four eight e some = absurd (omega (arith, a, b, l))
even_end p d v offset length (inr (inr (inr a))) (inr (inr (inl b))) l two four eight e some = absurd (omega (arith, a, b, l))
even_end p d v offset length (inr (inr (inr a))) (inr (inr (inr b))) l two four eight e some =
    let o = eight (omega (arith, a)) in
    let z : (offset + length) % 8 ≡ 0 = subst (λ n. (offset + length) % n ≡ 0) b e in omega (arith, a, o, z, some)

-- what divides an offset, or what an offset of 0 leaves free
divides : (b : Bool) (offset k m : ℕ) → (offset == 0) ≡ b → (k ≡ 2) ⊎ ((k ≡ 4) ⊎ (k ≡ 8)) → k ≤ (if b then m else min m (power_dividing offset)) → offset % k ≡ 0
divides true offset k m e i l = let z : offset ≡ 0 = eqb-true offset 0 e in go i
  where
    go : (k ≡ 2) ⊎ ((k ≡ 4) ⊎ (k ≡ 8)) → offset % k ≡ 0
    go (inl a) = let z : offset ≡ 0 = eqb-true offset 0 e in let q : offset % 2 ≡ 0 = omega (arith, z) in subst (λ n. offset % n ≡ 0) (sym a) q
    go (inr (inl a)) = let z : offset ≡ 0 = eqb-true offset 0 e in let q : offset % 4 ≡ 0 = omega (arith, z) in subst (λ n. offset % n ≡ 0) (sym a) q
    go (inr (inr a)) = let z : offset ≡ 0 = eqb-true offset 0 e in let q : offset % 8 ≡ 0 = omega (arith, z) in subst (λ n. offset % n ≡ 0) (sym a) q
divides false offset k m e i l = go i
  where
    less : k ≤ power_dividing offset
    less = omega (arith, l)

    two : 2 ≤ power_dividing offset → offset % 2 ≡ 0
    two l = grind (arith, nat_tests)

    four : 4 ≤ power_dividing offset → offset % 4 ≡ 0
    four l = grind (arith, nat_tests)

    eight : 8 ≤ power_dividing offset → offset % 8 ≡ 0
    eight l = grind (arith, nat_tests)

    go : (k ≡ 2) ⊎ ((k ≡ 4) ⊎ (k ≡ 8)) → offset % k ≡ 0
    go (inl a) = subst (λ n. offset % n ≡ 0) (sym a) (two (omega (arith, less, a)))
    go (inr (inl a)) = subst (λ n. offset % n ≡ 0) (sym a) (four (omega (arith, less, a)))
    go (inr (inr a)) = subst (λ n. offset % n ≡ 0) (sym a) (eight (omega (arith, less, a)))

-- so the next piece stays in the range
pub size_even : (ops : Ops) (offset left length : ℕ) → 1 ≤ left → ops.impl_unaligned ≡ false
    → IsSize ops.valid_max → (offset + length) % ops.valid_max ≡ 0 → 0 < length
    → size_at ops offset left ≤ length
size_even ops offset left length some aligned is e positive =
    even_end (size_at ops offset left) 0 ops.valid_max offset length (power_is_size (aligned_size ops offset m)) is within (λ l. at 2 (inl refl) l)
    (λ l. at 4 (inr (inl refl)) l) (λ l. at 8 (inr (inr refl)) l) e positive
  where
    m : ℕ
    m = min left ops.valid_max

    one : 1 ≤ ops.valid_max
    one = go is
      where
        go : IsSize ops.valid_max → 1 ≤ ops.valid_max
        go (inl a) = omega (arith, a)
        go (inr (inl a)) = omega (arith, a)
        go (inr (inr (inl a))) = omega (arith, a)
        go (inr (inr (inr a))) = omega (arith, a)

    within : size_at ops offset left ≤ ops.valid_max
    within =
        let l = chosen_most (ops.impl_unaligned || (offset == 0)) m (power_dividing offset) in
        power_fits (aligned_size ops offset m) ops.valid_max (omega (arith, l)) one

    alone : aligned_size ops offset m ≡ (if offset == 0 then m else min m (power_dividing offset))
    alone = ap (λ b. if b || (offset == 0) then m else min m (power_dividing offset)) aligned

    at : (k : ℕ) → (k ≡ 2) ⊎ ((k ≡ 4) ⊎ (k ≡ 8)) → k ≤ size_at ops offset left → offset % k ≡ 0
    at k i l = divides (offset == 0) offset k m refl i (subst (λ n. k ≤ n) alone (large k i l))
      where
        large : (k : ℕ) → (k ≡ 2) ⊎ ((k ≡ 4) ⊎ (k ≡ 8)) → k ≤ power_within (aligned_size ops offset m) → k ≤ aligned_size ops offset m
        large k (inl a) l = grind (arith, nat_tests)
        large k (inr (inl a)) l = grind (arith, nat_tests)
        large k (inr (inr a)) l = grind (arith, nat_tests)
