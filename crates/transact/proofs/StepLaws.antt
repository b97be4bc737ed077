-- One turn of a loop over a list whose members are taken one after another.
use Rattle.std.proofs.Common.{◌≡◌, ℕ, ◌+◌, ◌<◌, ◌≤◌, List, [], ◌∷◌, ◌++◌, map, length, drop, get_or, sym, ap, ◌∙◌, append_assoc, arith}
use Rattle.std.specs.Prelude.{Bool, filter}
use Rattle.std.specs.List.{sum_by}
use Rattle.std.proofs.lemmas.List.{map-append}
use Rattle.std.proofs.lemmas.List.Elements.{filter-append}
use Rattle.std.proofs.lemmas.List.Sums.{sum_by-cons}
use Rattle.mem_base.proofs.ListLaws.{drop_next}

-- what is done, and what the members that are left give, is the whole
pub next_done : {A B : Type 0} (k : A → B) (done whole : List B) (xs : List A) (i : ℕ) (d : A) (y : B) → i < length xs → y ≡ k (get_or xs i d)
    → done ++ map k (drop i xs) ≡ whole → (done ++ y ∷ []) ++ map k (drop (i + 1) xs) ≡ whole
next_done k done whole xs i d y l e h =
    append_assoc done (y ∷ []) (map k (drop (i + 1) xs))
    ∙ ap (λ zs. done ++ zs) (ap (λ z. z ∷ map k (drop (i + 1) xs)) e ∙ ap (map k) (sym (drop_next xs i d l))) ∙ h

pub next_sum : {A : Type 0} (c : A → ℕ) (xs : List A) (i : ℕ) (d : A) → i < length xs
    → sum_by c (drop i xs) ≡ c (get_or xs i d) + sum_by c (drop (i + 1) xs)
next_sum c xs i d l = ap (sum_by c) (drop_next xs i d l) ∙ sum_by-cons c (get_or xs i d) (drop (i + 1) xs)

-- the same where one more stands at the end of a list
pub next_listed : {A B : Type 0} (k : A → B) (done new whole : List B) (xs : List A) (i : ℕ) (d : A) (y : B) → i < length xs → new ≡ done ++ y ∷ []
    → y ≡ k (get_or xs i d) → done ++ map k (drop i xs) ≡ whole → new ++ map k (drop (i + 1) xs) ≡ whole
next_listed k done new whole xs i d y l more e h = ap (λ zs. zs ++ map k (drop (i + 1) xs)) more ∙ next_done k done whole xs i d y l e h

pub next_mapped : {A B C : Type 0} (h : C → B) (k : A → B) (done new : List C) (whole : List B) (xs : List A) (i : ℕ) (d : A) (y : C) → i < length xs
    → new ≡ done ++ y ∷ [] → h y ≡ k (get_or xs i d) → map h done ++ map k (drop i xs) ≡ whole → map h new ++ map k (drop (i + 1) xs) ≡ whole
next_mapped h k done new whole xs i d y l more e inv =
    next_listed k (map h done) (map h new) whole xs i d (h y) l (ap (map h) more ∙ map-append h done (y ∷ [])) e inv

-- the same of those that pass a test
pub next_chosen : {A B : Type 0} (p : B → Bool) (k : A → B) (done new whole : List B) (xs : List A) (i : ℕ) (d : A) (y : B) → i < length xs
    → new ≡ done ++ filter p (y ∷ []) → y ≡ k (get_or xs i d) → done ++ filter p (map k (drop i xs)) ≡ whole
    → new ++ filter p (map k (drop (i + 1) xs)) ≡ whole
next_chosen p k done new whole xs i d y l more e h =
    let rest = map k (drop (i + 1) xs) in
    ap (λ zs. zs ++ filter p rest) more ∙ append_assoc done (filter p (y ∷ [])) (filter p rest)
    ∙ ap (λ zs. done ++ zs) (sym (filter-append p (y ∷ []) rest)
    ∙ ap (filter p) (ap (λ z. z ∷ rest) e ∙ ap (map k) (sym (drop_next xs i d l)))) ∙ h

-- what a turn spends, of what the members that are left may spend
pub spent : {A : Type 0} (c : A → ℕ) (xs : List A) (i : ℕ) (d : A) (before now bound : ℕ) → i < length xs → before + sum_by c (drop i xs) ≤ bound
    → now ≤ before + c (get_or xs i d) → now + sum_by c (drop (i + 1) xs) ≤ bound
spent c xs i d before now bound l h few = let all = next_sum c xs i d l in omega arith

pub beside : {A B : Type 0} {s : A} {x y : B} → x ≡ y → ◌≡◌ {A = A × B} (s, x) (s, y)
beside {s = s} e = λ i. (s, e i)
