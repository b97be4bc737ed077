-- Laws of paths that are kept as notes.
use Rattle.std.proofs.Common.{◌≡◌, ℕ, zero, suc, ◌-◌, List, [], ◌∷◌, ◌++◌, map, Some, None, refl, sym, ap, ◌∙◌, arith}
use Rattle.std.proofs.lemmas.List.{append-nil, append_assoc}
use Rattle.std.specs.List.{slice_get}
use Rattle.mem_base.specs.declared.map.ids.RegionId.{RegionId}
use Rattle.mem_base.specs.declared.views.notes.Note.{Note}
use Rattle.mem_base.specs.views.Notes.{note_at, path_through, last_of_path}

-- no region is told
pub last-none : (notes : List Note) (most number : ℕ) → most ≡ 0 → last_of_path notes most number ≡ []
unfolding last_of_path
last-none notes zero number e = refl
last-none notes (suc most) number e = absurd (omega arith)

-- where no note has the number, the path is empty
pub last-no_note : (notes : List Note) (most number : ℕ) → note_at notes number ≡ None → last_of_path notes most number ≡ []
unfolding last_of_path
last-no_note notes zero number e = refl
last-no_note notes (suc most) number e = ap (path_through (last_of_path notes most)) e

-- the path to the note before, and then the note's region
pub last-note : (notes : List Note) (most number : ℕ) (n : Note) → (most ≡ 0 → ⊥) → note_at notes number ≡ Some n →
    last_of_path notes most number ≡ last_of_path notes (most - 1) n.before ++ n.region ∷ []
unfolding last_of_path
last-note notes zero number n z e = absurd (z refl)
last-note notes (suc most) number n z e =
    let less : suc most - 1 ≡ most = omega arith in
    ap (path_through (last_of_path notes most)) e ∙ ap (λ k. last_of_path notes k n.before ++ n.region ∷ []) (sym less)

-- a path that is put after another, and the next region after both
pub spelled_next : (old mid new before : List RegionId) (r : RegionId) (path : List RegionId) → mid ≡ old ++ before → new ≡ mid ++ r ∷ [] → path ≡ before
    ++ r ∷ [] → new ≡ old ++ path
spelled_next old mid new before r path e f g = f ∙ ap (λ q. q ++ r ∷ []) e ∙ append_assoc old before (r ∷ []) ∙ ap (λ q. old ++ q) (sym g)

pub spelled_none : (old path : List RegionId) → path ≡ [] → old ≡ old ++ path
spelled_none old path e = sym (append-nil old) ∙ ap (λ q. old ++ q) (sym e)

-- two lists with a last element each are the same where both parts are
pub lasts_meet : (xs ys : List RegionId) (x y : RegionId) → xs ++ x ∷ [] ≡ ys ++ y ∷ [] → (xs ≡ ys) × (x ≡ y)
lasts_meet [] [] x y e = (refl, cc)
lasts_meet [] (z ∷ []) x y e = cc
lasts_meet [] (z ∷ w ∷ ys) x y e = cc
lasts_meet (z ∷ []) [] x y e = cc
lasts_meet (z ∷ w ∷ xs) [] x y e = cc
lasts_meet (z ∷ xs) (w ∷ ys) x y e =
    let first : z ≡ w = cc in
    let rest : xs ++ x ∷ [] ≡ ys ++ y ∷ [] = cc in
    let t = lasts_meet xs ys x y rest in
    let same = t.0 in (cc, t.1)

-- no list that ends in an element is empty
pub last_not_empty : (xs : List RegionId) (x : RegionId) → xs ++ x ∷ [] ≡ [] → ⊥
last_not_empty [] x e = cc
last_not_empty (y ∷ ys) x e = cc

slice_get-map : (f : ℕ → List RegionId) (xs : List ℕ) (i : ℕ) (x : ℕ) → slice_get xs i ≡ Some x → slice_get (map f xs) i ≡ Some (f x)
slice_get-map f [] i x e = cc
slice_get-map f (y ∷ ys) zero x e = let same : y ≡ x = cc in ap (λ z. Some (f z)) same
slice_get-map f (y ∷ ys) (suc i) x e = slice_get-map f ys i x e

slice_get-map-none : (f : ℕ → List RegionId) (xs : List ℕ) (i : ℕ) → slice_get xs i ≡ None → slice_get (map f xs) i ≡ None
slice_get-map-none f [] i e = refl
slice_get-map-none f (y ∷ ys) zero e = cc
slice_get-map-none f (y ∷ ys) (suc i) e = slice_get-map-none f ys i e
