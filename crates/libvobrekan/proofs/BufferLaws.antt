-- Laws of lists in buffers.
use Rattle.std.proofs.Common.{◌≡◌, ℕ, zero, suc, ◌+◌, ◌<◌, List, [], ◌∷◌, Some, None, length, take, min, slice_set, refl, ap, ◌∙◌, arith}
use Rattle.std.specs.Prelude.{option_map, slice_get}
use Rattle.libvobrekan.specs.Buffers.{put_each}

module _ {A B : Type 0} (tell : A → B) where
  -- one thing more
  pub put_more : (xs : List A) (ps : List B) (i : ℕ) (y : B) → option_map tell (slice_get xs i) ≡ Some y → i < length ps
      → slice_set (put_each tell (take i xs) ps) i y ≡ put_each tell (take (i + 1) xs) ps
  put_more [] ps i y e l = cc
  put_more (x ∷ xs) [] i y e l = absurd (omega (arith, l))
  put_more (x ∷ xs) (p ∷ ps) zero y e l = cc
  put_more (x ∷ xs) (p ∷ ps) (suc i) y e l =
      let at : suc (i + 1) ≡ suc i + 1 = omega arith in
      ap (λ l. tell x ∷ l) (put_more xs ps i y e (omega (arith, l))) ∙ ap (λ k. put_each tell (take k (x ∷ xs)) (p ∷ ps)) at

  -- there is one at each index of a list
  pub some_there : (xs : List A) (i : ℕ) → i < length xs → option_map tell (slice_get xs i) ≡ None → ⊥
  some_there [] i l e = absurd (omega (arith, l))
  some_there (x ∷ xs) zero l e = cc
  some_there (x ∷ xs) (suc i) l e = some_there xs i (omega (arith, l)) e

  take_none : (n : ℕ) → take {A = A} n [] ≡ []
  take_none zero = refl
  take_none (suc n) = refl

  -- all that there is room for
  pub put_all : (xs : List A) (ps : List B) (n : ℕ) → n ≡ min (length xs) (length ps) → put_each tell (take n xs) ps ≡ put_each tell xs ps
  put_all [] ps n e = ap (λ l. put_each tell l ps) (take_none n)
  put_all (x ∷ xs) [] zero e = refl
  put_all (x ∷ xs) [] (suc n) e = refl
  put_all (x ∷ xs) (p ∷ ps) zero e = absurd (omega (arith, e))
  put_all (x ∷ xs) (p ∷ ps) (suc n) e = ap (λ l. tell x ∷ l) (put_all xs ps n (omega (arith, e)))
