-- Pieces that are taken one after another.
use Rattle.std.proofs.Common.{List, ◌++◌, length, get_or, ◌≡◌, ◌≤◌, ◌<◌, ◌+◌, ◌-◌, ◌^◌, ◌==◌, ◌||◌, ℕ, zero, suc, Bool, true, false}
use Rattle.std.proofs.Common.{if◌then◌else◌, ◌∷◌, min, refl, ap, subst, ◌∙◌, arith}
use Rattle.std.specs.List.{All}
use Rattle.std.proofs.lemmas.List.{length-append}
use Rattle.std.proofs.Math.Seq.{get_or-append_seam}
use Rattle.std.proofs.lemmas.List.Elements.{All-cons, All-contains, All-nil}
use Rattle.std.proofs.lemmas.Bool.Decides.{nat_tests}
use Rattle.mem_base.specs.declared.map.kinds.Ops.{Ops}
use Rattle.mem_base.specs.declared.access.accesses.Piece.{Piece}
use Rattle.mem_base.specs.access.Pieces.{aligned_size, piece_at, pieces, pieces_from, power_dividing, power_within, size_at}
use Rattle.access_cut.specs.Conditions.{IsCut}

-- the bytes of a piece that began before are passed over
skip : (ops : Ops) (offset left inside : ℕ) → inside ≤ left → pieces_from ops offset left inside ≡ pieces_from ops (offset + inside) (left - inside) 0
skip ops offset left zero h =
    let same : left ≡ left - 0 = omega arith in
    let here : offset ≡ offset + 0 = omega arith in
    ap (λ n. pieces_from ops offset n 0) same ∙ ap (λ o. pieces_from ops o (left - 0) 0) here
skip ops offset zero (suc inside) h = absurd (omega (arith, h))
skip ops offset (suc left) (suc inside) h =
    let at : offset + 1 + inside ≡ offset + suc inside = omega arith in
    let same : left - inside ≡ suc left - suc inside = omega arith in
    skip ops (offset + 1) left inside (omega (arith, h)) ∙ ap (λ o. pieces_from ops o (left - inside) 0) at
    ∙ ap (λ n. pieces_from ops (offset + suc inside) n 0) same

-- where nothing is left the offset says nothing
at_end : (ops : Ops) (a b left : ℕ) → (0 < left → a ≡ b) → pieces ops a left ≡ pieces ops b left
at_end ops a b zero h = refl
at_end ops a b (suc left) h = ap (λ o. pieces ops o (suc left)) (h (omega arith))

-- the first piece, and those of the bytes after it
pub next_piece : (ops : Ops) (offset left size : ℕ) → size_at ops offset left ≡ size → 1 ≤ size → size ≤ left
    → pieces ops offset left ≡ piece_at ops offset left ∷ pieces ops (offset + size) (left - size)
next_piece ops offset zero size e some most = absurd (omega (arith, some, most))
next_piece ops offset (suc left) size e some most =
    let after : offset + 1 + (size - 1) ≡ offset + size = omega (arith, some) in
    let rest : left - (size - 1) ≡ suc left - size = omega (arith, some) in
    ap (λ n. piece_at ops offset (suc left) ∷ pieces_from ops (offset + 1) left (n - 1)) e
    ∙ ap (λ ps. piece_at ops offset (suc left) ∷ ps) (skip ops (offset + 1) left (size - 1) (omega (arith, some, most))
    ∙ ap (λ o. pieces_from ops o (left - (size - 1)) 0) after ∙ ap (λ n. pieces_from ops (offset + size) n 0) rest)

-- the same where the next offset is kept below 2^64
pub next_cut : (ops : Ops) (offset left size next : ℕ) → offset + left ≤ 2 ^ 64 → size_at ops offset left ≡ size → 1 ≤ size → size ≤ left
    → next ≡ min (offset + size) (2 ^ 64 - 1)
    → pieces ops offset left ≡ piece_at ops offset left ∷ pieces ops next (left - size)
next_cut ops offset left size next within e some most is =
    next_piece ops offset left size e some most
    ∙ ap (λ ps. piece_at ops offset left ∷ ps) (at_end ops (offset + size) next (left - size) (λ more. omega (arith, within, some, most, is, more)))

-- How far a piece goes

pub power_some : (n : ℕ) → 1 ≤ power_within n
power_some n = grind (arith, nat_tests)

pub power_fits : (n m : ℕ) → n ≤ m → 1 ≤ m → power_within n ≤ m
power_fits n m l some = grind (arith, nat_tests)

pub chosen_most : (b : Bool) (n d : ℕ) → (if b then n else min n d) ≤ n
chosen_most true n d = omega arith
chosen_most false n d = omega arith

pub size_some : (ops : Ops) (offset left : ℕ) → 1 ≤ size_at ops offset left
size_some ops offset left = power_some (aligned_size ops offset (min left ops.valid_max))

pub size_most : (ops : Ops) (offset left : ℕ) → 1 ≤ left → size_at ops offset left ≤ left
size_most ops offset left some =
    let n : ℕ = min left ops.valid_max in
    let l = chosen_most (ops.impl_unaligned || (offset == 0)) n (power_dividing offset) in
    power_fits (aligned_size ops offset n) left (omega (arith, l)) some

-- the piece has a byte, and ends by this offset
abbrev EndsBy : ℕ → Piece → Type 0
EndsBy end p = (1 ≤ p.size) × (p.offset + p.size ≤ end)

within : (ops : Ops) (offset left inside : ℕ) → All (EndsBy (offset + left)) (pieces_from ops offset left inside)
within ops offset zero inside = All-nil (EndsBy (offset + 0))
within ops offset (suc left) zero =
    let same : offset + 1 + left ≡ offset + suc left = omega arith in
    let some : 1 ≤ suc left = omega arith in
    let most = size_most ops offset (suc left) some in
    All-cons (EndsBy (offset + suc left)) (piece_at ops offset (suc left)) (pieces_from ops (offset + 1) left (size_at ops offset (suc left) - 1))
    (size_some ops offset (suc left), omega (arith, most))
    (subst (λ e. All (EndsBy e) (pieces_from ops (offset + 1) left (size_at ops offset (suc left) - 1))) same
    (within ops (offset + 1) left (size_at ops offset (suc left) - 1)))
within ops offset (suc left) (suc inside) =
    let same : offset + 1 + left ≡ offset + suc left = omega arith in
    subst (λ e. All (EndsBy e) (pieces_from ops (offset + 1) left inside)) same (within ops (offset + 1) left inside)

-- a piece of a cut has a byte, and ends by 2^64
pub cut_ends : (ops : Ops) (p : Piece) → IsCut ops p → (1 ≤ p.size) × (p.offset + p.size ≤ 2 ^ 64)
cut_ends ops p cut =
    let at = All-contains (EndsBy (cut.0 + cut.1)) (pieces ops cut.0 cut.1) p (within ops cut.0 cut.1 0) cut.3 in
    (at.0, omega (arith, at.1, cut.2))

-- a piece that a cut gives, after others, is one of a cut
pub given_is_cut : (ops : Ops) (offset bytes : ℕ) (before after : List Piece) (p : Piece) → offset + bytes ≤ 2 ^ 64
    → pieces ops offset bytes ≡ before ++ p ∷ after → IsCut ops p
given_is_cut ops offset bytes before after p within is = (
  offset,
  bytes,
  within,
  (
    length before,
    omega (arith, ap length is, length-append before (p ∷ after)),
    ap (λ ps. get_or ps (length before) p) is ∙ get_or-append_seam before p after p,
  ),
)
