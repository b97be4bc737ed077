-- Lists of which each element is changed, one after another.
use Rattle.std.proofs.Common.{◌≡◌, ℕ, zero, suc, ◌+◌, ◌<◌, ◌≤◌, List, [], ◌∷◌, length, map, get_or, set, refl, ap, ◌∙◌, arith}

-- the first elements of a list changed by a function, and the rest as they are
abbrev pub mapped_to : {A : Type 0} → (A → A) → ℕ → List A → List A
mapped_to f zero xs = xs
mapped_to f (suc n) [] = []
mapped_to f (suc n) (x ∷ xs) = f x ∷ mapped_to f n xs

mapped_next : {A : Type 0} (f : A → A) (n : ℕ) (xs : List A) (d : A) → n < length xs
    → set (mapped_to f n xs) n (f (get_or (mapped_to f n xs) n d)) ≡ mapped_to f (suc n) xs
mapped_next f n [] d l = absurd (omega arith)
mapped_next f zero (x ∷ xs) d l = refl
mapped_next f (suc n) (x ∷ xs) d l = ap (λ ys. f x ∷ ys) (mapped_next f n xs d (omega arith))

mapped_whole : {A : Type 0} (f : A → A) (n : ℕ) (xs : List A) → length xs ≤ n → mapped_to f n xs ≡ map f xs
mapped_whole f zero [] l = refl
mapped_whole f zero (x ∷ xs) l = absurd (omega arith)
mapped_whole f (suc n) [] l = refl
mapped_whole f (suc n) (x ∷ xs) l = ap (λ ys. f x ∷ ys) (mapped_whole f n xs (omega arith))

mapped_length : {A : Type 0} (f : A → A) (n : ℕ) (xs : List A) → length (mapped_to f n xs) ≡ length xs
mapped_length f zero xs = refl
mapped_length f (suc n) [] = refl
mapped_length f (suc n) (x ∷ xs) = ap suc (mapped_length f n xs)

-- one element more
pub mapped_step : {A : Type 0} (f : A → A) (n : ℕ) (xs ys : List A) (d y : A) → ys ≡ mapped_to f n xs → n < length ys
    → y ≡ f (get_or ys n d) → set ys n y ≡ mapped_to f (n + 1) xs
mapped_step f n xs ys d y e l made =
    let same : length ys ≡ length xs = ap length e ∙ mapped_length f n xs in
    let next : suc n ≡ n + 1 = omega arith in
    ap (λ z. set ys n z) made ∙ ap (λ zs. set zs n (f (get_or zs n d))) e ∙ mapped_next f n xs d (omega arith) ∙ ap (λ m. mapped_to f m xs) next

-- no element is left
pub mapped_done : {A : Type 0} (f : A → A) (n : ℕ) (xs ys : List A) → ys ≡ mapped_to f n xs → length ys ≤ n → ys ≡ map f xs
mapped_done f n xs ys e l =
    let same : length ys ≡ length xs = ap length e ∙ mapped_length f n xs in
    e ∙ mapped_whole f n xs (omega arith)
