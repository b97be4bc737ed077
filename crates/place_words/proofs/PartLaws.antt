-- Laws of a part of a list, where the list changes elsewhere.
use Rattle.std.proofs.Common.{◌≡◌, ℕ, zero, suc, ◌+◌, ◌-◌, ◌≤◌, List, [], ◌∷◌, ◌++◌, length, take, drop, sym, ap, ◌∙◌, arith, take-take}
use Rattle.std.specs.Prelude.{replicate}
use Rattle.std.proofs.lemmas.List.{drop-take, take-append-le, drop-append-le, length-append, length-take, drop-replicate, take-replicate}
use Rattle.std.proofs.Math.Seq.{drop-nil, drop-append_seam, take-append_seam}

drop_later : {A : Type 0} (e t : ℕ) (xs : List A) → e ≤ t → drop t xs ≡ drop (t - e) (drop e xs)
drop_later zero t xs l = let same : t ≡ t - 0 = omega arith in ap (λ n. drop n xs) same
drop_later (suc e) zero xs l = absurd (omega arith)
drop_later (suc e) (suc t) [] l = sym (drop-nil (suc t - suc e))
drop_later (suc e) (suc t) (x ∷ xs) l = let same : t - e ≡ suc t - suc e = omega arith in drop_later e t xs (omega arith) ∙ ap (λ n. drop n (drop e xs)) same

-- two lists that begin alike have the same parts there, and two that end alike
pub part_before : {A : Type 0} (s t m : ℕ) (xs ys : List A) → take s xs ≡ take s ys → t + m ≤ s → take m (drop t xs) ≡ take m (drop t ys)
part_before s t m xs ys e l =
    sym (drop-take t m xs) ∙ ap (drop t) (sym (take-take (t + m) s xs l) ∙ ap (take (t + m)) e ∙ take-take (t + m) s ys l) ∙ drop-take t m ys

pub part_after : {A : Type 0} (s t m : ℕ) (xs ys : List A) → drop s xs ≡ drop s ys → s ≤ t → take m (drop t xs) ≡ take m (drop t ys)
part_after s t m xs ys e l = ap (take m) (drop_later s t xs l ∙ ap (drop (t - s)) e ∙ sym (drop_later s t ys l))

-- a list with the part from `s` on, up to `e`, put in anew
module _ {A : Type 0} (xs part : List A) (s e : ℕ) (within : e ≤ length xs) (sum : s + length part ≡ e) where
  first_length : length (take s xs) ≡ s
  first_length = let l = length-take s xs in omega arith

  pub put_before : take s (take s xs ++ part ++ drop e xs) ≡ take s xs
  put_before =
      let l = first_length in
      let m = length-append (take s xs) part in
      take-append-le s (take s xs ++ part) (drop e xs) (omega arith) ∙ take-append-le s (take s xs) part (omega arith) ∙ take-take s s xs (omega arith)

  pub put_after : drop e (take s xs ++ part ++ drop e xs) ≡ drop e xs
  put_after =
      let l = first_length in
      let m : length (take s xs ++ part) ≡ e = length-append (take s xs) part ∙ (omega arith) in
      ap (λ n. drop n (take s xs ++ part ++ drop e xs)) (sym m) ∙ drop-append_seam (take s xs ++ part) (drop e xs)

  pub put_itself : take (length part) (drop s (take s xs ++ part ++ drop e xs)) ≡ part
  put_itself =
      let l = first_length in
      let m = length-append (take s xs) part in
      ap (take (length part)) (drop-append-le s (take s xs ++ part) (drop e xs) (omega arith)
      ∙ ap (λ ys. ys ++ drop e xs) (ap (λ n. drop n (take s xs ++ part)) (sym l) ∙ drop-append_seam (take s xs) part))
      ∙ take-append_seam part (drop e xs)

-- a part of a list of one value
pub part_replicate : {A : Type 0} (t m n : ℕ) (x : A) → t + m ≤ n → take m (drop t (replicate n x)) ≡ replicate m x
part_replicate t m n x l = ap (take m) (drop-replicate t n x) ∙ take-replicate m (n - t) x (omega arith)
