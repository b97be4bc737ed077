-- Laws of the pieces of an access to a device, and of the callbacks of a piece.
use Rattle.std.proofs.Common.{◌≡◌, ℕ, zero, suc, ◌+◌, ◌-◌, ◌*◌, ◌/◌, ◌<◌, ◌≤◌, ◌==◌, ◌&&◌, ◌||◌, min, max, nat_le, Bool, true, false, List, [], ◌∷◌}
use Rattle.std.proofs.Common.{map, take, drop, ◌⊎◌, inl, inr, if◌then◌else◌, refl, sym, ap, subst, ◌∙◌, arith, ◌^◌}
use Rattle.std.specs.List.{range_with_len}
use Rattle.std.proofs.lemmas.Bool.{eqb-true, cases_lt}
use Rattle.std.proofs.Math.Nat.{div-eq_of_lt}
use Rattle.mem_base.specs.declared.map.kinds.Ops.{Ops}
use Rattle.mem_base.specs.declared.access.accesses.Piece.{Piece}
use Rattle.mem_base.specs.map.Devices.{is_access_size}
use Rattle.mem_base.specs.access.Pieces.{aligned_size, callback_at, callback_count, callback_size, callbacks, piece_at, pieces}
use Rattle.mem_base.specs.access.Pieces.{power_within, size_at}
use Rattle.access_cut.specs.Conditions.{AreGood, IsCut}
use Rattle.access_cut.specs.Offsets.{place_of, places, row}
use Rattle.access_cut.proofs.PieceLaws.{next_piece, given_is_cut, size_some, size_most}
use Rattle.access_cut.proofs.Rows.{row_is_places}
use Rattle.access_base.specs.Sizes.{IsSize, Tiles, callback_of}

-- sizes

pub size_so : (n : ℕ) → is_access_size n ≡ true → IsSize n
size_so n h = go (n == 1) (n == 2) (n == 4) (n == 8) refl refl refl refl h
  where
    go : (a b c d : Bool) → (n == 1) ≡ a → (n == 2) ≡ b → (n == 4) ≡ c → (n == 8) ≡ d → (a || b || c || d) ≡ true → IsSize n
    go true b c d e f i j h = inl (eqb-true n 1 e)
    go false true c d e f i j h = inr (inl (eqb-true n 2 f))
    go false false true d e f i j h = inr (inr (inl (eqb-true n 4 i)))
    go false false false true e f i j h = inr (inr (inr (eqb-true n 8 j)))
    go false false false false e f i j h = cc

pub size_few : (n : ℕ) → IsSize n → (0 < n) × (n ≤ 8)
size_few n (inl e) = (omega (arith, e), omega (arith, e))
size_few n (inr (inl e)) = (omega (arith, e), omega (arith, e))
size_few n (inr (inr (inl e))) = (omega (arith, e), omega (arith, e))
size_few n (inr (inr (inr e))) = (omega (arith, e), omega (arith, e))

size_max : (a b : ℕ) → IsSize a → IsSize b → IsSize (max a b)
size_max a b h k = go (cases_lt a b)
  where
    go : (a < b) ⊎ (b ≤ a) → IsSize (max a b)
    go (inl l) = let e : b ≡ max a b = omega (arith, l) in subst IsSize e k
    go (inr l) = let e : a ≡ max a b = omega (arith, l) in subst IsSize e h

size_min : (a b : ℕ) → IsSize a → IsSize b → IsSize (min a b)
size_min a b h k = go (cases_lt a b)
  where
    go : (a < b) ⊎ (b ≤ a) → IsSize (min a b)
    go (inl l) = let e : a ≡ min a b = omega (arith, l) in subst IsSize e h
    go (inr l) = let e : b ≡ min a b = omega (arith, l) in subst IsSize e k

-- a size divides a greater one
count_of : (s q : ℕ) → IsSize s → IsSize q → s ≤ q → (q / s * s ≡ q) × (0 < q / s)
count_of s q (inl e) (inl h) l = rw (e, h) (refl, omega arith)
count_of s q (inl e) (inr (inl h)) l = rw (e, h) (refl, omega arith)
count_of s q (inl e) (inr (inr (inl h))) l = rw (e, h) (refl, omega arith)
count_of s q (inl e) (inr (inr (inr h))) l = rw (e, h) (refl, omega arith)
count_of s q (inr (inl e)) (inl h) l = absurd (omega (arith, e, h, l))
count_of s q (inr (inl e)) (inr (inl h)) l = rw (e, h) (refl, omega arith)
count_of s q (inr (inl e)) (inr (inr (inl h))) l = rw (e, h) (refl, omega arith)
count_of s q (inr (inl e)) (inr (inr (inr h))) l = rw (e, h) (refl, omega arith)
count_of s q (inr (inr (inl e))) (inl h) l = absurd (omega (arith, e, h, l))
count_of s q (inr (inr (inl e))) (inr (inl h)) l = absurd (omega (arith, e, h, l))
count_of s q (inr (inr (inl e))) (inr (inr (inl h))) l = rw (e, h) (refl, omega arith)
count_of s q (inr (inr (inl e))) (inr (inr (inr h))) l = rw (e, h) (refl, omega arith)
count_of s q (inr (inr (inr e))) (inl h) l = absurd (omega (arith, e, h, l))
count_of s q (inr (inr (inr e))) (inr (inl h)) l = absurd (omega (arith, e, h, l))
count_of s q (inr (inr (inr e))) (inr (inr (inl h))) l = absurd (omega (arith, e, h, l))
count_of s q (inr (inr (inr e))) (inr (inr (inr h))) l = rw (e, h) (refl, omega arith)

both_of : (a b c d e f g h : Bool) → (a && b && c && d && e && f && g && h) ≡ true → (c ≡ true) × (d ≡ true)
both_of true true true true e f g h k = (refl, refl)
both_of false b c d e f g h k = cc
both_of true false c d e f g h k = cc
both_of true true false d e f g h k = cc
both_of true true true false e f g h k = cc

callback_is_size : (ops : Ops) (size : ℕ) → AreGood ops → IsSize size → IsSize (callback_size ops size)
callback_is_size ops size good h =
    let t = both_of (is_access_size ops.valid_min) (is_access_size ops.valid_max) (is_access_size ops.impl_min) (is_access_size ops.impl_max)
    (nat_le ops.valid_min ops.valid_max) (nat_le ops.impl_min ops.impl_max) (nat_le 1 1) (nat_le 1 512) good in
    size_max (min size ops.impl_max) ops.impl_min (size_min size ops.impl_max h (size_so ops.impl_max t.1)) (size_so ops.impl_min t.0)

-- the callbacks of a piece do its bytes, one after another

tiles_row : (p : Piece) (size n done left offset : ℕ) → 0 < size → size ≤ 8 → size ≤ p.size → n * size ≡ left → done + left ≡ p.size → offset ≡ p.offset + done
    → Tiles p done (row offset size n)
tiles_row p size zero done left offset some few fits all whole at = omega (arith, all, whole)
tiles_row p size (suc n) done left offset some few fits all whole at =
    let m : min size p.size ≡ size = omega (arith, fits) in
    let more : suc n * size ≡ size + n * size = times_suc n size in
    let next : offset + size ≡ p.offset + (done + min size p.size) = omega (arith, at, m) in
    let rest : done + min size p.size + n * size ≡ p.size = omega (arith, all, whole, more, m) in (
      at,
      omega (arith, some, m),
      omega (arith, rest),
      few,
      tiles_row p size n (done + min size p.size) (n * size) (offset + size) some few fits refl rest next,
    )
  where
    times_suc : (n s : ℕ) → suc n * s ≡ s + n * s
    times_suc n s = grind arith

pub tiles_all : (ops : Ops) (p : Piece) → AreGood ops → IsSize p.size → Tiles p 0 (places ops p)
tiles_all ops p good size = subst (λ l. Tiles p 0 l) (row_is_places ops p) (go (cases_lt p.size s))
  where
    s : ℕ
    s = callback_size ops p.size

    sized : IsSize s
    sized = callback_is_size ops p.size good size

    one : p.size < s → callback_count ops p.size ≡ 1
    one l = ap (λ d. max 1 d) (div-eq_of_lt {n = p.size} {m = s} l)

    many : s ≤ p.size → callback_count ops p.size ≡ p.size / s
    many l = let t = count_of s p.size sized size l in let d : 0 < p.size / s = t.1 in
        let e : max 1 (p.size / s) ≡ p.size / s = omega (arith, d) in e

    go : (p.size < s) ⊎ (s ≤ p.size) → Tiles p 0 (row p.offset s (callback_count ops p.size))
    go (inl l) =
        let some = (size_few p.size size).0 in
        subst (λ n. Tiles p 0 (row p.offset s n)) (sym (one l))
        (omega arith, omega (arith, l, some), omega (arith, l), (size_few s sized).1, omega (arith, l))
    go (inr l) =
        subst (λ n. Tiles p 0 (row p.offset s n)) (sym (many l))
        (tiles_row p s (p.size / s) 0 p.size p.offset (size_few s sized).0 (size_few s sized).1 l (count_of s p.size sized size l).0
        (omega arith) (omega arith))

-- the callbacks of a piece by their places
pub callbacks_at : (ops : Ops) (p : Piece) → callbacks ops p ≡ map (callback_of p) (places ops p)
callbacks_at ops p = go (range_with_len 0 (callback_count ops p.size))
  where
    one : (i : ℕ) → callback_at ops p i ≡ callback_of p (place_of (callback_at ops p i))
    one i =
        let size : ℕ = callback_size ops p.size in
        let m : ℕ = i * size in
        let e : m ≡ p.offset + m - p.offset = omega arith in
        (λ j. record { offset = p.offset + m; size = size; skipped = e j; bytes = min size p.size })

    go : (is : List ℕ) → map (callback_at ops p) is ≡ map (callback_of p) (map place_of (map (callback_at ops p) is))
    go [] = refl
    go (i ∷ is) = (λ j. one i j ∷ go is j)

-- the next piece of an access

pub power_is_size : (n : ℕ) → IsSize (power_within n)
power_is_size n = go (nat_le 8 n) (nat_le 4 n) (nat_le 2 n)
  where
    go : (a b c : Bool) → IsSize (if a then 8 else if b then 4 else if c then 2 else 1)
    go true b c = inr (inr (inr refl))
    go false true c = inr (inr (inl refl))
    go false false true = inr (inl refl)
    go false false false = inl refl

pub record NextPiece (ops : Ops) (a m : ℕ) (p : Piece) (rest : List Piece) : Type 0 where
  pub at : p.offset ≡ a
  pub some : 1 ≤ p.size
  pub most : p.size ≤ m
  pub sized : IsSize p.size
  pub cut : IsCut ops p
  pub later : rest ≡ pieces ops (a + p.size) (m - p.size)

pub next_given : (ops : Ops) (a m : ℕ) (p : Piece) (rest : List Piece) → AreGood ops → a + m ≤ 2 ^ 64 → pieces ops a m ≡ p ∷ rest → NextPiece ops a m p rest
next_given ops a zero p rest good within e = cc
next_given ops a (suc m) p rest good within e =
    let s : ℕ = size_at ops a (suc m) in
    let some : 1 ≤ s = size_some ops a (suc m) in
    let most : s ≤ suc m = size_most ops a (suc m) (omega arith) in
    let first = next_piece ops a (suc m) s refl some most in
    let both : piece_at ops a (suc m) ∷ pieces ops (a + s) (suc m - s) ≡ p ∷ rest = sym first ∙ e in
    let is : piece_at ops a (suc m) ≡ p = cc in
    let tail : pieces ops (a + s) (suc m - s) ≡ rest = cc in
    let size : s ≡ p.size = ap (λ (x : Piece). x.size) is in record {
      at = sym (ap (λ (x : Piece). x.offset) is);
      some = subst (λ n. 1 ≤ n) size some;
      most = subst (λ n. n ≤ suc m) size most;
      sized = subst IsSize size (power_is_size (aligned_size ops a (min (suc m) ops.valid_max)));
      cut = given_is_cut ops a (suc m) [] rest p within e;
      later = sym tail ∙ (λ i. pieces ops (a + size i) (suc m - size i));
    }

pub no_more : (ops : Ops) (a m : ℕ) → AreGood ops → pieces ops a m ≡ [] → m ≡ 0
no_more ops a zero good e = refl
no_more ops a (suc m) good e =
    let first = next_piece ops a (suc m) (size_at ops a (suc m)) refl (size_some ops a (suc m)) (size_most ops a (suc m) (omega arith)) in
    let bad : piece_at ops a (suc m) ∷ pieces ops (a + size_at ops a (suc m)) (suc m - size_at ops a (suc m)) ≡ [] = sym first ∙ e in cc

-- the part of the bytes that a callback writes
pub callback_part : (piece : Piece) (o s done k : ℕ) (bytes : List ℕ) → o ≡ piece.offset + done → k ≡ done + min s piece.size - done
    → take k (drop done bytes) ≡ take (min s piece.size) (drop (o - piece.offset) bytes)
callback_part piece o s done k bytes at is =
    let all : k ≡ min s piece.size = omega (arith, is) in
    let here : done ≡ o - piece.offset = omega (arith, at) in (λ i. take (all i) (drop (here i) bytes))

-- and that a piece has
pub piece_part : (offset done size k : ℕ) (at : ℕ) (bytes : List ℕ) → at ≡ offset + done → k ≡ done + size - done
    → take k (drop done bytes) ≡ take size (drop (at - offset) bytes)
piece_part offset done size k at bytes is e =
    let all : k ≡ size = omega (arith, e) in
    let here : done ≡ at - offset = omega (arith, is) in (λ i. take (all i) (drop (here i) bytes))
