-- Places that are taken one after another.
use Rattle.std.proofs.Common.{◌≡◌, ◌≤◌, ◌+◌, ◌-◌, ◌*◌, ◌/◌, ◌^◌, ℕ, zero, suc, ◌∷◌, min, max, map, refl, sym, ap, subst, ◌∙◌, arith}
use Rattle.std.proofs.Math.Nat.{div-mul-le_self}
use Rattle.std.specs.List.{range_with_len}
use Rattle.mem_base.specs.declared.map.kinds.Ops.{Ops}
use Rattle.mem_base.specs.declared.access.accesses.Piece.{Piece}
use Rattle.mem_base.specs.access.Pieces.{callback_at, callback_count, callback_size}
use Rattle.access_cut.specs.Conditions.{AreGood, IsCut}
use Rattle.access_cut.specs.Offsets.{Begins, place_of, places, row}
use Rattle.access_cut.proofs.Good.{some_impl}
use Rattle.access_cut.proofs.PieceLaws.{cut_ends}

-- the first place, and those after it, where the next offset is kept below 2^64
pub row_next : (offset size left next : ℕ) → 1 ≤ left → Begins offset size left → next ≡ min (offset + size) (2 ^ 64 - 1)
    → row offset size left ≡ (offset, size) ∷ row next size (left - 1)
row_next offset size zero next some begins is = absurd (omega (arith, some))
row_next offset size (suc zero) next some begins is = refl
row_next offset size (suc (suc n)) next some begins is =
    let same : offset + size ≡ next = omega (arith, is, begins.1) in
    let less : suc n ≡ suc (suc n) - 1 = omega arith in
    ap (λ o. (offset, size) ∷ row o size (suc n)) same ∙ ap (λ k. (offset, size) ∷ row next size k) less

pub begins_next : (offset size left next : ℕ) → 1 ≤ left → Begins offset size left → next ≡ min (offset + size) (2 ^ 64 - 1)
    → Begins next size (left - 1)
begins_next offset size zero next some begins is = absurd (omega (arith, some))
begins_next offset size (suc zero) next some begins is = tt
begins_next offset size (suc (suc n)) next some begins is =
    let same : offset + size ≡ next = omega (arith, is, begins.1) in
    let less : suc n ≡ suc (suc n) - 1 = omega arith in
    subst (λ k. Begins next size k) less (subst (λ o. Begins o size (suc n)) same begins.1)

-- the places of a row that ends by 2^64
pub begins_within : (offset size n : ℕ) → 1 ≤ size → offset + n * size ≤ 2 ^ 64 → Begins offset size n
begins_within offset size zero some within = tt
begins_within offset size (suc n) some within =
    let cut : suc n * size ≡ size + n * size = omega arith in (
      omega (arith, some, within, cut),
      begins_within (offset + size) size n some (omega (arith, within, cut)),
    )

-- the callbacks from a number on
row_from : (ops : Ops) (p : Piece) (i n : ℕ)
    → map place_of (map (callback_at ops p) (range_with_len i n)) ≡ row (p.offset + i * callback_size ops p.size) (callback_size ops p.size) n
row_from ops p i zero = refl
row_from ops p i (suc n) =
    let size : ℕ = callback_size ops p.size in
    let more : (i + 1) * size ≡ i * size + size = grind arith in
    let next : p.offset + (i + 1) * size ≡ p.offset + i * size + size = omega (arith, more) in
    ap (λ ps. (p.offset + i * size, size) ∷ ps) (row_from ops p (i + 1) n ∙ ap (λ o. row o size n) next)

pub row_is_places : (ops : Ops) (p : Piece) → row p.offset (callback_size ops p.size) (callback_count ops p.size) ≡ places ops p
row_is_places ops p =
    let none : p.offset + 0 * callback_size ops p.size ≡ p.offset = omega arith in
    ap (λ o. row o (callback_size ops p.size) (callback_count ops p.size)) (sym none) ∙ sym (row_from ops p 0 (callback_count ops p.size))

-- the callbacks of a piece of a cut begin below 2^64
pub begins_of : (ops : Ops) (p : Piece) → AreGood ops → IsCut ops p → Begins p.offset (callback_size ops p.size) (callback_count ops p.size)
begins_of ops p good cut = by (p.size / size) refl
  where
    size : ℕ
    size = callback_size ops p.size

    ends : (1 ≤ p.size) × (p.offset + p.size ≤ 2 ^ 64)
    ends = cut_ends ops p cut

    some : 1 ≤ size
    some = omega (arith, some_impl ops good)

    by : (q : ℕ) → p.size / size ≡ q → Begins p.offset size (max 1 q)
    by zero e = (omega (arith, ends.0, ends.1), tt)
    by (suc q) e =
        let whole : suc q ≡ max 1 (suc q) = omega arith in
        let fits : suc q * size ≤ p.size = subst (λ k. k * size ≤ p.size) e (div-mul-le_self p.size size) in
        subst (Begins p.offset size) whole (begins_within p.offset size (suc q) some (omega (arith, fits, ends.1)))
