-- Actors put down one after another.
use Rattle.std.proofs.Common.{◌≡◌, ℕ, ◌+◌, ◌-◌, suc, ◌<◌, Bool, true, false, cond, List, [], ◌∷◌, ◌++◌, filter, append_assoc, refl, ap, ◌∙◌, arith}
use Rattle.std.specs.List.{range_with_len}

pub first_joined : (p : ℕ → Bool) (x : ℕ) (xs : List ℕ) → filter p (x ∷ []) ++ filter p xs ≡ filter p (x ∷ xs)
first_joined p x xs = go (p x)
  where
    go : (b : Bool) → cond b (x ∷ []) [] ++ filter p xs ≡ cond b (x ∷ filter p xs) (filter p xs)
    go true = refl
    go false = refl

pub next_put : (p : ℕ → Bool) (old new whole : List ℕ) (pass count : ℕ) → pass < count → new ≡ old ++ filter p (pass ∷ [])
    → old ++ filter p (range_with_len pass (count - pass)) ≡ whole → new ++ filter p (range_with_len (pass + 1) (count - (pass + 1))) ≡ whole
next_put p old new whole pass count l e h =
    let more : suc (count - (pass + 1)) ≡ count - pass = omega arith in
    let rest = range_with_len (pass + 1) (count - (pass + 1)) in
    ap (λ (xs : List ℕ). xs ++ filter p rest) e ∙ append_assoc old (filter p (pass ∷ [])) (filter p rest)
    ∙ ap (λ (xs : List ℕ). old ++ xs) (first_joined p pass rest)
    ∙ ap (λ (n : ℕ). old ++ filter p (range_with_len pass n)) more ∙ h
