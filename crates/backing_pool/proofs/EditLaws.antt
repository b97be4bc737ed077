-- Laws of a hole that is put at an index, and of the holes before a word.
use Rattle.std.proofs.Common.{◌≡◌, ◌≢◌, ℕ, zero, suc, ◌+◌, ◌-◌, ◌<◌, ◌≤◌, true, false, ◌==◌, nat_lt, eq-eqb, ne_eqb, List, [], ◌∷◌, ◌++◌}
use Rattle.std.proofs.Common.{length, get_or, take, drop, subst, sym, refl, ap, ◌∙◌, arith}
use Rattle.std.specs.Prelude.{insert, slice_set}
use Rattle.std.specs.List.{AllWithin}
use Rattle.std.specs.List.Sorted.{IsPartitionedBy}
use Rattle.std.proofs.lemmas.Bool.Decides.{nat_tests}
use Rattle.std.proofs.lemmas.List.{append_assoc}
use Rattle.mem_base.specs.lists.Every.{Every}
use Rattle.mem_base.proofs.EveryLaws.{every_at}
use Rattle.backing_pool.specs.Holes.{end_of, Ascends, cut, put_last}

-- one element replaced
set_suc : {A : Type 0} (xs : List A) (i : ℕ) (x : A) → i < length xs → slice_set xs i x ≡ take i xs ++ x ∷ drop (suc i) xs
set_suc [] i x l = absurd (omega arith)
set_suc (y ∷ ys) zero x l = refl
set_suc (y ∷ ys) (suc i) x l = ap (λ zs. y ∷ zs) (set_suc ys i x (omega arith))

-- what is left of a hole in its place
pub cut_is : (xs : List (ℕ × ℕ)) (at words : ℕ) (hole : ℕ × ℕ) → at < length xs → hole.1 ≢ words
    → slice_set xs at (hole.0 + words, hole.1 - words) ≡ take at xs ++ cut words hole ++ drop (at + 1) xs
cut_is xs at words hole l apart =
    let no : (hole.1 == words) ≡ false = ne_eqb _ _ apart in
    let next : suc at ≡ at + 1 = omega arith in
    set_suc xs at (hole.0 + words, hole.1 - words) l ∙ ap (λ n. take at xs ++ (hole.0 + words, hole.1 - words) ∷ drop n xs) next
    ∙ rw no (sym (append_assoc (take at xs) ((hole.0 + words, hole.1 - words) ∷ []) (drop (at + 1) xs)))

module _ (start words : ℕ) where
  lengthened_suc : (xs : List (ℕ × ℕ)) (i : ℕ) (x d : ℕ × ℕ) → i < length xs → x ≡ get_or xs i d → end_of x ≡ start
      → slice_set xs i (x.0, x.1 + words) ≡ put_last start words (take (suc i) xs) ++ drop (suc i) xs
  lengthened_suc [] i x d l is ends = absurd (omega arith)
  lengthened_suc (y ∷ ys) zero x d l is ends =
      let touches : (end_of y == start) ≡ true = eq-eqb _ _ (ap end_of (sym is) ∙ ends) in
      rw touches (ap (λ (z : ℕ × ℕ). (z.0, z.1 + words) ∷ ys) is)
  lengthened_suc (y ∷ []) (suc i) x d l is ends = absurd (omega arith)
  lengthened_suc (y ∷ z ∷ ys) (suc i) x d l is ends = ap (λ zs. y ∷ zs) (lengthened_suc (z ∷ ys) i x d (omega arith) is ends)

  -- the last hole is lengthened
  pub lengthened : (xs : List (ℕ × ℕ)) (at : ℕ) (x d : ℕ × ℕ) → 0 < at → at ≤ length xs → x ≡ get_or xs (at - 1) d → end_of x ≡ start
      → slice_set xs (at - 1) (x.0, x.1 + words) ≡ put_last start words (take at xs) ++ drop at xs
  lengthened xs at x d some within is ends =
      let next : suc (at - 1) ≡ at = omega arith in
      lengthened_suc xs (at - 1) x d (omega arith) is ends ∙ ap (λ n. put_last start words (take n xs) ++ drop n xs) next

  inserted_suc : (xs : List (ℕ × ℕ)) (i : ℕ) (x d : ℕ × ℕ) → i < length xs → x ≡ get_or xs i d → end_of x ≢ start
      → insert xs (suc i) (start, words) ≡ put_last start words (take (suc i) xs) ++ drop (suc i) xs
  inserted_suc [] i x d l is apart = absurd (omega arith)
  inserted_suc (y ∷ ys) zero x d l is apart =
      let no : (end_of y == start) ≡ false = ne_eqb _ _ (λ e. apart (ap end_of is ∙ e)) in
      rw no refl
  inserted_suc (y ∷ []) (suc i) x d l is apart = absurd (omega arith)
  inserted_suc (y ∷ z ∷ ys) (suc i) x d l is apart = ap (λ zs. y ∷ zs) (inserted_suc (z ∷ ys) i x d (omega arith) is apart)

  -- a hole of its own is put in
  pub inserted : (xs : List (ℕ × ℕ)) (at : ℕ) (x d : ℕ × ℕ) → 0 < at → at ≤ length xs → x ≡ get_or xs (at - 1) d → end_of x ≢ start
      → insert xs at (start, words) ≡ put_last start words (take at xs) ++ drop at xs
  inserted xs at x d some within is apart =
      let next : suc (at - 1) ≡ at = omega arith in
      subst (λ n. insert xs n (start, words) ≡ put_last start words (take n xs) ++ drop n xs) next
      (inserted_suc xs (at - 1) x d (omega arith) is apart)

  pub inserted_first : (xs : List (ℕ × ℕ)) (at : ℕ) → at ≡ 0 → insert xs at (start, words) ≡ put_last start words (take at xs) ++ drop at xs
  inserted_first xs at none = rw none refl

-- the holes before a word

starts_rise : (holes : List (ℕ × ℕ)) → Ascends holes → (i j : ℕ) (d : ℕ × ℕ) → i ≤ j → j < length holes → (get_or holes i d).0 ≤ (get_or holes j d).0
starts_rise [] h i j d l m = absurd (omega arith)
starts_rise (k ∷ ks) h zero zero d l m = omega arith
starts_rise (k ∷ ks) h zero (suc j) d l m =
    let later : end_of k < (get_or ks j d).0 = every_at (λ x. end_of k < x.0) ks j d (omega arith) h.0 in omega (arith, later)
starts_rise (k ∷ ks) h (suc i) zero d l m = absurd (omega arith)
starts_rise (k ∷ ks) h (suc i) (suc j) d l m = starts_rise ks h.1 i j d (omega arith) (omega arith)

pub parted : (word : ℕ) (holes : List (ℕ × ℕ)) → Ascends holes → IsPartitionedBy (λ h. nat_lt h.0 word) holes
parted word holes h i j d l m e =
    let rises = starts_rise holes h i j d l m in
    let before : (get_or holes j d).0 < word = grind (arith, nat_tests) in
    grind (arith, nat_tests)

pub every_take : {A : Type 0} (P : A → Type 0) (xs : List A) (n : ℕ) → n ≤ length xs → AllWithin P xs 0 n → Every P (take n xs)
every_take P xs zero l h = tt
every_take P [] (suc n) l h = absurd (omega arith)
every_take P (x ∷ xs) (suc n) l h = (
  h 0 x (omega arith) (omega arith),
  every_take P xs n (omega arith) (λ k d a b. h (suc k) d (omega arith) (omega arith)),
)

pub every_drop : {A : Type 0} (P : A → Type 0) (xs : List A) (n : ℕ) → AllWithin P xs n (length xs) → Every P (drop n xs)
every_drop P [] zero h = tt
every_drop P [] (suc n) h = tt
every_drop P (x ∷ xs) zero h = (h 0 x (omega arith) (omega arith), every_drop P xs 0 (λ k d a b. h (suc k) d (omega arith) (omega arith)))
every_drop P (x ∷ xs) (suc n) h = every_drop P xs n (λ k d a b. h (suc k) d (omega arith) (omega arith))
