-- Lists of values, one for each element of a list.
use Rattle.std.proofs.Common.{◌≡◌, ◌<◌, ◌+◌, ℕ, suc, List, [], ◌∷◌, ◌++◌, length, drop, get_or, map, add-one, sym, ap, ◌∙◌, append_assoc}
use Rattle.std.proofs.Math.Seq.{drop-cons}

-- one value more of those that a function gives
pub map_next : {X E : Type 0} (f : X → E) (xs : List X) (i : ℕ) (d x : X) (old new whole : List E) → i < length xs → x ≡ get_or xs i d
    → new ≡ old ++ f x ∷ [] → old ++ map f (drop i xs) ≡ whole → new ++ map f (drop (i + 1) xs) ≡ whole
map_next {X} {E} f xs i d x old new whole l is e h =
    let cut : drop i xs ≡ x ∷ drop (i + 1) xs =
    drop-cons xs i d l ∙ ap (λ y. y ∷ drop (suc i) xs) (sym is) ∙ ap (λ n. x ∷ drop n xs) (sym (add-one i)) in
    ap (λ (t : List E). t ++ map f (drop (i + 1) xs)) e ∙ append_assoc old (f x ∷ []) (map f (drop (i + 1) xs))
    ∙ ap (λ ys. old ++ map f ys) (sym cut) ∙ h
