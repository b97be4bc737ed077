-- A text, or another list, of parts, one for each element of a list.
use Rattle.std.proofs.Common.{◌≡◌, ◌<◌, ◌≤◌, ◌+◌, ℕ, suc, List, [], ◌∷◌, ◌++◌, length, take, drop, get_or, add-one, refl, sym, ap, subst, ◌∙◌, append_assoc}
use Rattle.std.specs.Prelude.{flat_map}
use Rattle.std.proofs.Math.Seq.{drop-cons, take-suc}
use Rattle.std.proofs.lemmas.List.{append-nil, take_all}
use Rattle.scope_run.specs.Scripts.{TellsAll}

-- one text more of those that a function gives
pub flat_next : {X E : Type 0} (f : X → List E) (xs : List X) (i : ℕ) (d x : X) (old new whole : List E) → i < length xs → x ≡ get_or xs i d
    → new ≡ old ++ f x → old ++ flat_map f (drop i xs) ≡ whole → new ++ flat_map f (drop (i + 1) xs) ≡ whole
flat_next {X} {E} f xs i d x old new whole l is e h =
    let cut : drop i xs ≡ x ∷ drop (i + 1) xs =
    drop-cons xs i d l ∙ ap (λ y. y ∷ drop (suc i) xs) (sym is) ∙ ap (λ n. x ∷ drop n xs) (sym (add-one i)) in
    ap (λ (t : List E). t ++ flat_map f (drop (i + 1) xs)) e ∙ append_assoc old (f x) (flat_map f (drop (i + 1) xs))
    ∙ ap (λ ys. old ++ flat_map f ys) (sym cut) ∙ h

-- one part more
tells_more : {X E : Type 0} (tells : X → List E → Type 0) (xs : List X) (x : X) (old here : List E) → TellsAll tells xs old → tells x here
    → TellsAll tells (xs ++ x ∷ []) (old ++ here)
tells_more {X} {E} tells [] x old here h t = (here, [], ap (λ (o : List E). o ++ here) h ∙ sym (append-nil here), t, refl)
tells_more {X} {E} tells (y ∷ ys) x old here h t =
    (h.0, h.1 ++ here, ap (λ (o : List E). o ++ here) h.2 ∙ append_assoc h.0 h.1 here, h.3, tells_more tells ys x h.1 here h.4 t)

-- a text grew by parts
abbrev pub Grown : {X E : Type 0} → (X → List E → Type 0) → List X → List E → List E → Type 0
Grown {X} {E} tells xs old new = (here : List E) × (new ≡ old ++ here) × TellsAll tells xs here

pub grown_none : {X E : Type 0} (tells : X → List E → Type 0) (text : List E) → Grown tells [] text text
grown_none tells text = ([], sym (append-nil text), refl)

pub grown_more : {X E : Type 0} (tells : X → List E → Type 0) (xs : List X) (i : ℕ) (d : X) (x : X) (start old new here : List E) → i < length xs
    → x ≡ get_or xs i d → Grown tells (take i xs) start old → new ≡ old ++ here → tells x here → Grown tells (take (i + 1) xs) start new
grown_more {X} {E} tells xs i d x start old new here l is g e t =
    let longer : take i xs ++ x ∷ [] ≡ take (i + 1) xs =
    ap (λ y. take i xs ++ y ∷ []) is ∙ sym (take-suc xs i d l) ∙ ap (λ n. take n xs) (sym (add-one i)) in (
      g.0 ++ here,
      e ∙ ap (λ (o : List E). o ++ here) g.1 ∙ append_assoc start g.0 here,
      subst (λ (ys : _). TellsAll tells ys (g.0 ++ here)) longer (tells_more tells (take i xs) x g.0 here g.2 t),
    )

-- all parts
pub grown_all : {X E : Type 0} (tells : X → List E → Type 0) (xs : List X) (i : ℕ) (start now : List E) → length xs ≤ i → Grown tells (take i xs) start now
    → Grown tells xs start now
grown_all tells xs i start now l g = subst (λ (ys : _). Grown tells ys start now) (take_all i xs l) g

-- of a text that was empty at first
pub grown_whole : {X E : Type 0} (tells : X → List E → Type 0) (xs : List X) (now : List E) → Grown tells xs [] now → TellsAll tells xs now
grown_whole tells xs now g = subst (TellsAll tells xs) (sym g.1) g.2
