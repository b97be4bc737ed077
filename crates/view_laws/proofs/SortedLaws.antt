-- Lists that are put in order, filtered, mapped or joined, and their elements.
use Rattle.std.proofs.Common.{◌≡◌, ◌⊎◌, Bool, true, false, ◌||◌, List, [], ◌∷◌, ◌++◌, map, refl, ap, sym, subst, inl, inr, arith, if◌then◌else◌}
use Rattle.std.specs.Prelude.{filter}
use Rattle.std.specs.List.{list_any}
use Rattle.std.specs.declared.cmp.Ordering.{Ordering}
use Rattle.std.specs.Ordering.{is_lt}
use Rattle.mem_base.specs.lists.Every.{Every}
use Rattle.mem_base.specs.lists.Sorting.{put_by, sorted_by}
use Rattle.view_laws.proofs.LiveLaws.{In}
use Rattle.std.proofs.lemmas.Bool.{or_left, or_right}

pub every_filter : {A : Type 0} (P Q : A → Type 0) (test : A → Bool) (xs : List A) → ((x : A) → test x ≡ true → P x → Q x) → Every P xs
    → Every Q (filter test xs)
every_filter P Q test [] f e = tt
every_filter P Q test (x ∷ xs) f e = go (test x) refl (every_filter P Q test xs f e.1)
  where
    go : (b : Bool) → test x ≡ b → Every Q (filter test xs) → Every Q (if b then x ∷ filter test xs else filter test xs)
    go true h rest = (f x h e.0, rest)
    go false h rest = rest

-- one of a list that is filtered

pub filter_in : {A : Type 0} (test : A → Bool) (z : A) (xs : List A) → In z (filter test xs) → In z xs × (test z ≡ true)
filter_in test z [] m = absurd m
filter_in test z (x ∷ xs) m = go (test x) refl m (λ l. later (filter_in test z xs l))
  where
    later : In z xs × (test z ≡ true) → In z (x ∷ xs) × (test z ≡ true)
    later t = (inr t.0, t.1)

    go : (b : Bool) → test x ≡ b → In z (if b then x ∷ filter test xs else filter test xs) → (In z (filter test xs) → In z (x ∷ xs) × (test z ≡ true))
        → In z (x ∷ xs) × (test z ≡ true)
    go true e (inl s) rest = (inl s, subst (λ y. test y ≡ true) (sym s) e)
    go true e (inr m) rest = rest m
    go false e m rest = rest m

pub filter_out : {A : Type 0} (test : A → Bool) (z : A) (xs : List A) → In z xs → test z ≡ true → In z (filter test xs)
filter_out test z [] m h = absurd m
filter_out test z (x ∷ xs) (inl s) h = subst (λ (b : Bool). In z (if b then x ∷ filter test xs else filter test xs))
    (sym (subst (λ y. test y ≡ true) s h)) (inl s)
filter_out test z (x ∷ xs) (inr m) h = go (test x) (filter_out test z xs m h)
  where
    go : (b : Bool) → In z (filter test xs) → In z (if b then x ∷ filter test xs else filter test xs)
    go true rest = inr rest
    go false rest = rest

-- elements of lists that are mapped or joined

pub each_in : {A : Type 0} (P : A → Type 0) (xs : List A) → ((x : A) → In x xs → P x) → Every P xs
each_in P [] h = tt
each_in P (x ∷ xs) h = (h x (inl refl), each_in P xs (λ y m. h y (inr m)))

pub record Mapped {A B : Type 0} (f : A → B) (z : B) (xs : List A) : Type 0 where
  pub item : A
  pub there : In item xs
  pub is : z ≡ f item

pub map_in : {A B : Type 0} (f : A → B) (z : B) (xs : List A) → In z (map f xs) → Mapped f z xs
map_in f z [] m = absurd m
map_in f z (x ∷ xs) (inl e) = record { item = x; there = inl refl; is = e }
map_in f z (x ∷ xs) (inr m) = let t = map_in f z xs m in record { item = t.item; there = inr t.there; is = t.is }

pub map_out : {A B : Type 0} (f : A → B) (x : A) (xs : List A) → In x xs → In (f x) (map f xs)
map_out f x [] m = absurd m
map_out f x (y ∷ ys) (inl e) = inl (ap f e)
map_out f x (y ∷ ys) (inr m) = inr (map_out f x ys m)

pub append_in : {A : Type 0} (z : A) (xs ys : List A) → In z (xs ++ ys) → In z xs ⊎ In z ys
append_in z [] ys m = inr m
append_in z (x ∷ xs) ys (inl e) = inl (inl e)
append_in z (x ∷ xs) ys (inr m) = later (append_in z xs ys m)
  where
    later : In z xs ⊎ In z ys → In z (x ∷ xs) ⊎ In z ys
    later (inl m) = inl (inr m)
    later (inr m) = inr m

pub append_left : {A : Type 0} (z : A) (xs ys : List A) → In z xs → In z (xs ++ ys)
append_left z [] ys m = absurd m
append_left z (x ∷ xs) ys (inl e) = inl e
append_left z (x ∷ xs) ys (inr m) = inr (append_left z xs ys m)

pub append_right : {A : Type 0} (z : A) (xs ys : List A) → In z ys → In z (xs ++ ys)
append_right z [] ys m = m
append_right z (x ∷ xs) ys m = inr (append_right z xs ys m)

-- one of a list that is put in order

pub put_by_in : {K : Type 0} (R : K → K → Ordering) (z x : K) (xs : List K) → In z (put_by R x xs) → (z ≡ x) ⊎ In z xs
put_by_in R z x [] m = m
put_by_in R z x (y ∷ ys) m = go (is_lt (R x y)) m (λ l. later (put_by_in R z x ys l))
  where
    later : (z ≡ x) ⊎ In z ys → (z ≡ x) ⊎ In z (y ∷ ys)
    later (inl e) = inl e
    later (inr m) = inr (inr m)

    go : (b : Bool) → In z (if b then x ∷ y ∷ ys else y ∷ put_by R x ys) → (In z (put_by R x ys) → (z ≡ x) ⊎ In z (y ∷ ys)) → (z ≡ x) ⊎ In z (y ∷ ys)
    go true m rest = m
    go false (inl e) rest = inr (inl e)
    go false (inr m) rest = rest m

pub put_by_out : {K : Type 0} (R : K → K → Ordering) (z x : K) (xs : List K) → (z ≡ x) ⊎ In z xs → In z (put_by R x xs)
put_by_out R z x [] m = m
put_by_out R z x (y ∷ ys) m = go (is_lt (R x y)) m (put_by_out R z x ys)
  where
    go : (b : Bool) → (z ≡ x) ⊎ In z (y ∷ ys) → ((z ≡ x) ⊎ In z ys → In z (put_by R x ys)) → In z (if b then x ∷ y ∷ ys else y ∷ put_by R x ys)
    go true m rest = m
    go false (inl e) rest = inr (rest (inl e))
    go false (inr (inl e)) rest = inl e
    go false (inr (inr m)) rest = inr (rest (inr m))

pub sorted_in : {K : Type 0} (R : K → K → Ordering) (z : K) (xs : List K) → In z (sorted_by R xs) → In z xs
sorted_in R z [] m = m
sorted_in R z (x ∷ xs) m = go (put_by_in R z x (sorted_by R xs) m) (sorted_in R z xs)
  where
    go : (z ≡ x) ⊎ In z (sorted_by R xs) → (In z (sorted_by R xs) → In z xs) → (z ≡ x) ⊎ In z xs
    go (inl e) rest = inl e
    go (inr m) rest = inr (rest m)

pub sorted_out : {K : Type 0} (R : K → K → Ordering) (z : K) (xs : List K) → In z xs → In z (sorted_by R xs)
sorted_out R z [] m = m
sorted_out R z (x ∷ xs) (inl e) = put_by_out R z x (sorted_by R xs) (inl e)
sorted_out R z (x ∷ xs) (inr m) = put_by_out R z x (sorted_by R xs) (inr (sorted_out R z xs m))

-- one of a list that passes a test

pub any_in : {A : Type 0} (test : A → Bool) (x : A) (xs : List A) → In x xs → test x ≡ true → list_any test xs ≡ true
any_in test x [] m h = absurd m
any_in test x (y ∷ ys) (inl e) h = or_left (test y) _ (subst (λ (z : _). test z ≡ true) e h)
any_in test x (y ∷ ys) (inr m) h = or_right (test y) _ (any_in test x ys m h)

pub any_found : {A : Type 0} (test : A → Bool) (xs : List A) → list_any test xs ≡ true → (x : A) × In x xs × (test x ≡ true)
any_found test [] h = absurd (grind arith)
any_found test (x ∷ xs) h = go (test x) refl h (any_found test xs)
  where
    go : (b : Bool) → test x ≡ b → (b || list_any test xs) ≡ true → (list_any test xs ≡ true → (y : _) × In y xs × (test y ≡ true))
        → (y : _) × In y (x ∷ xs) × (test y ≡ true)
    go true e h rest = (x, inl refl, e)
    go false e h rest = let t = rest h in (t.0, inr t.1, t.2)
