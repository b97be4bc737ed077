-- Parts of a transfer, and the pieces of a part.
use Rattle.std.proofs.Common.{◌≡◌, ℕ, zero, suc, ◌+◌, ◌-◌, ◌≤◌, List, [], ◌∷◌, ◌++◌, length, take, drop, refl, sym, ap, subst, ◌∙◌, arith}
use Rattle.std.specs.Prelude.{flat_map}
use Rattle.std.proofs.lemmas.List.{length-take-le, length-drop, drop-take}
use Rattle.mem_base.specs.declared.map.ids.RegionId.{RegionId}
use Rattle.mem_base.specs.declared.map.kinds.Ops.{Ops}
use Rattle.mem_base.specs.declared.map.ioevents.Ioevent.{Ioevent}
use Rattle.mem_base.specs.declared.access.accesses.Piece.{Piece}
use Rattle.mem_base.specs.lists.Every.{Every}
use Rattle.mem_base.specs.access.Pieces.{pieces, piece, piece_at, size_at, is_valid}
use Rattle.mem_base.specs.access.AccessSteps.{Transfer, reading, writing, is_write, length_of, part}
use Rattle.access_cut.proofs.PieceLaws.{next_piece, size_some}
use Rattle.mem_base.specs.access.Plans.{Reached, in_piece, in_device}
use Rattle.plan_laws.proofs.Sizes.{IsPieceIn, pieces_in}

pub same_kind : (skip n : ℕ) (t : Transfer) → is_write (part skip n t) ≡ is_write t
same_kind skip n (reading all) = refl
same_kind skip n (writing bs) = refl

pub part_length : (skip n : ℕ) (t : Transfer) → skip + n ≤ length_of t → length_of (part skip n t) ≡ n
part_length skip n (reading all) l = refl
part_length skip n (writing bs) l =
    let size : length (drop skip bs) ≡ length bs - skip = length-drop skip bs in length-take-le n (drop skip bs) (omega (arith, l, size))

-- the first bytes of the first bytes
take_less : (n m : ℕ) (xs : List ℕ) → n ≤ m → take n (take m xs) ≡ take n xs
take_less zero m xs l = refl
take_less (suc n) zero xs l = absurd (omega (arith, l))
take_less (suc n) (suc m) [] l = refl
take_less (suc n) (suc m) (x ∷ xs) l = ap (λ ys. x ∷ ys) (take_less n m xs (omega (arith, l)))

abbrev drop_none : ℕ → List ℕ
drop_none n = drop n []

drop_twice : (k j : ℕ) (xs : List ℕ) → drop j (drop k xs) ≡ drop (k + j) xs
drop_twice zero j xs = let at : j ≡ 0 + j = omega arith in ap (λ n. drop n xs) at
drop_twice (suc k) zero [] = let at : suc (k + 0) ≡ suc k + 0 = omega arith in ap drop_none at
drop_twice (suc k) (suc j) [] = let at : suc (k + suc j) ≡ suc k + suc j = omega arith in ap drop_none at
drop_twice (suc k) j (x ∷ xs) = let at : suc (k + j) ≡ suc k + j = omega arith in drop_twice k j xs ∙ ap (λ n. drop n (x ∷ xs)) at

-- a part of a part
pub part_of_part : (t : Transfer) (k c j n : ℕ) → j + n ≤ c → part j n (part k c t) ≡ part (k + j) n t
part_of_part (reading all) k c j n l = refl
part_of_part (writing bs) k c j n l =
    let whole : c ≡ j + (c - j) = omega (arith, l) in
    ap writing (ap (λ m. take n (drop j (take m (drop k bs)))) whole ∙ ap (take n) (drop-take j (c - j) (drop k bs))
    ∙ take_less n (c - j) (drop j (drop k bs)) (omega (arith, l)) ∙ ap (take n) (drop_twice k j bs))

-- what pieces reach, by two ways to say their parts
same_parts : (F G : Piece → List Reached) (low high : ℕ) → ((p : Piece) → IsPieceIn low high p → F p ≡ G p) → (ps : List Piece)
    → Every (IsPieceIn low high) ps → flat_map F ps ≡ flat_map G ps
same_parts F G low high same [] h = refl
same_parts F G low high same (p ∷ ps) h = (λ i. same p h.0 i ++ same_parts F G low high same ps h.1 i)

-- a part of a transfer on a device: its first piece, and what is after it
pub device_then : (region : RegionId) (ops : Ops) (events : List Ioevent) (offset k c n : ℕ) (t : Transfer) → k + c ≤ length_of t
    → size_at ops offset c ≡ n → n ≤ c
    → in_device region offset ops events (part k c t)
    ≡ in_piece region ops events (piece offset n (is_valid ops offset n)) (part k n t) ++ in_device region (offset + n) ops events (part (k + n) (c - n) t)
device_then region ops events offset k c n t within e most =
    let some : 1 ≤ n = subst (λ m. 1 ≤ m) e (size_some ops offset c) in
    let all : length_of (part k c t) ≡ c = part_length k c t within in
    let rest : length_of (part (k + n) (c - n) t) ≡ c - n = part_length (k + n) (c - n) t (omega (arith, within, most)) in
    let first : piece_at ops offset c ≡ piece offset n (is_valid ops offset n) = ap (λ m. piece offset m (is_valid ops offset m)) e in
    let none : offset - offset ≡ 0 = omega arith in
    let here : k + 0 ≡ k = omega arith in
    ap (λ m. flat_map (F offset (part k c t)) (pieces ops offset m)) all
    ∙ ap (flat_map (F offset (part k c t))) (next_piece ops offset c n e some most)
    ∙ ap (λ p. F offset (part k c t) p ++ flat_map (F offset (part k c t)) (pieces ops (offset + n) (c - n))) first
    ∙ (λ i. in_piece region ops events (piece offset n (is_valid ops offset n)) (head none here i)
    ++ same_parts (F offset (part k c t)) (F (offset + n) (part (k + n) (c - n) t)) (offset + n) (offset + c) same (pieces ops (offset + n) (c - n))
    (pieces_in ops (offset + n) (offset + c) (offset + n) (c - n) 0 (omega arith) (omega (arith, most))) i)
    ∙ ap (λ m. in_piece region ops events (piece offset n (is_valid ops offset n)) (part k n t)
    ++ flat_map (F (offset + n) (part (k + n) (c - n) t)) (pieces ops (offset + n) m)) (sym rest)
  where
    F : ℕ → Transfer → Piece → List Reached
    F o u p = in_piece region ops events p (part (p.offset - o) p.size u)

    head : offset - offset ≡ 0 → k + 0 ≡ k → part (offset - offset) n (part k c t) ≡ part k n t
    head none here =
        ap (λ j. part j n (part k c t)) none ∙ part_of_part t k c 0 n (omega (arith, most)) ∙ ap (λ j. part j n t) here

    same : (p : Piece) → IsPieceIn (offset + n) (offset + c) p → F offset (part k c t) p ≡ F (offset + n) (part (k + n) (c - n) t) p
    same p h =
        let l : offset + n ≤ p.offset = h.0 in
        let u : p.offset + p.size ≤ offset + c = h.1 in
        let at : k + (p.offset - offset) ≡ k + n + (p.offset - (offset + n)) = omega (arith, l) in
        ap (in_piece region ops events p) (part_of_part t k c (p.offset - offset) p.size (omega (arith, l, u))
        ∙ ap (λ j. part j p.size t) at ∙ sym (part_of_part t (k + n) (c - n) (p.offset - (offset + n)) p.size (omega (arith, l, u))))
