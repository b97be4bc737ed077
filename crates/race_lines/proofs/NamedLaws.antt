-- Laws of a table of names, as what is there changes.
use Rattle.std.proofs.Common.{◌≡◌, ◌≢◌, ◌<◌, ◌≤◌, ◌+◌, ℕ, suc, Bool, true, false, ◌&&◌, if◌then◌else◌, List, [], ◌∷◌, ◌++◌, length, Option, Some, None}
use Rattle.std.proofs.Common.{refl, sym, ap, subst, ◌∙◌, arith, zero-add, add-zero}
use mathlib.Core.Logic.{dite}
use native.Mathlib.Decide.{ℕ_discrete}
use Rattle.std.specs.Option.{option_or}
use Rattle.std.specs.Str.{bytes_eq}
use Rattle.std.proofs.lemmas.Slice.Eq.{bytes_eq-Decides}
use Rattle.mem_base.specs.script.Spelling.{Text}
use Rattle.mem_base.specs.script.States.{number_from}
use Rattle.view_laws.proofs.Tests.{none_is_not_some}
use Rattle.script_names.specs.Tables.{Rebinds, Table, number_of, table}
use Rattle.race_lines.specs.NamedTables.{AreSingle, IsNamed}
use Rattle.run_laws.proofs.Naming.{from_agree}
use Rattle.mem_base.proofs.BoolLaws.{both_ways, true_is_not_false}
use Rattle.std.proofs.lemmas.Option.{same_Some}
use Rattle.std.proofs.lemmas.Bool.{and_parts, and_from}

same_text : (x y : Text) → bytes_eq x y ≡ true → x ≡ y
same_text x y e = (bytes_eq-Decides x y).0 e

text_same : (x y : Text) → x ≡ y → bytes_eq x y ≡ true
text_same x y e = (bytes_eq-Decides x y).1 e

bytes_eq-sym : (x y : Text) → bytes_eq x y ≡ bytes_eq y x
bytes_eq-sym x y = both_ways (bytes_eq x y) (bytes_eq y x) (λ e. text_same y x (sym (same_text x y e)))
    (λ e. text_same x y (sym (same_text y x e)))

single_agree : (n : ℕ) (names : List Text) (p q : ℕ → Bool) → ((k : ℕ) → n ≤ k → k < n + length names → p k ≡ q k)
    → AreSingle n names p → AreSingle n names q
single_agree n [] p q h s = tt
single_agree n (x ∷ xs) p q h s =
    let here : p n ≡ q n = h n (omega arith) (omega arith) in
    let later : (k : ℕ) → n + 1 ≤ k → k < n + 1 + length xs → p k ≡ q k = (λ k l m. h k (omega arith) (omega arith)) in
    (λ t. sym (from_agree (n + 1) xs p q later x) ∙ s.0 (here ∙ t), single_agree (n + 1) xs p q later s.1)

-- one name more

at_end : ℕ → List Text → Text → (ℕ → Bool) → Text → Option ℕ
at_end n names x p name = if bytes_eq x name && p (n + length names) then Some (n + length names) else None

from_push : (n : ℕ) (names : List Text) (x : Text) (p : ℕ → Bool) (name : Text)
    → number_from n (names ++ x ∷ []) p name ≡ option_or (number_from n names p name) (at_end n names x p name)
unfolding at_end
from_push n [] x p name = ap (λ (k : ℕ). if bytes_eq x name && p k then Some k else None) (sym (add-zero n))
from_push n (y ∷ ys) x p name = go (bytes_eq y name && p n) (from_push (n + 1) ys x p name)
  where
    further : n + 1 + length ys ≡ n + suc (length ys)
    further = omega arith

    go : (b : Bool) → number_from (n + 1) (ys ++ x ∷ []) p name
        ≡ option_or (number_from (n + 1) ys p name) (at_end (n + 1) ys x p name)
        → (if b then Some n else number_from (n + 1) (ys ++ x ∷ []) p name)
        ≡ option_or (if b then Some n else number_from (n + 1) ys p name) (at_end n (y ∷ ys) x p name)
    go true ih = refl
    go false ih = ih
        ∙ ap (λ (k : ℕ). option_or (number_from (n + 1) ys p name) (if bytes_eq x name && p k then Some k else None)) further

none_else : (b : Bool) (n : ℕ) (rest : Option ℕ) → (if b then Some n else rest) ≡ None → (b ≡ false) × (rest ≡ None)
none_else true n rest e = none_is_not_some n (sym e)
none_else false n rest e = (refl, e)

none_or : (a b : Option ℕ) → a ≡ None → b ≡ None → option_or a b ≡ None
none_or None b e f = f
none_or (Some n) b e f = e

single_push : (n : ℕ) (names : List Text) (x : Text) (p : ℕ → Bool) → AreSingle n names p → number_from n names p x ≡ None
    → AreSingle n (names ++ x ∷ []) p
unfolding at_end
single_push n [] x p s free = (λ t. refl, tt)
single_push n (y ∷ ys) x p s free =
    let apart = none_else (bytes_eq y x && p n) n (number_from (n + 1) ys p x) free in (
      λ t. from_push (n + 1) ys x p y ∙ none_or (number_from (n + 1) ys p y) (at_end (n + 1) ys x p y) (s.0 t) (last t apart.0),
      single_push (n + 1) ys x p s.1 apart.1,
    )
  where
    other : (b : Bool) → bytes_eq x y ≡ b → (bytes_eq y x && p n) ≡ false → p n ≡ true
        → (if b && p (n + 1 + length ys) then Some (n + 1 + length ys) else None)
        ≡ None
    other false e h t = refl
    other true e h t = true_is_not_false (bytes_eq y x && p n) (and_from (bytes_eq y x) (p n) (bytes_eq-sym y x ∙ e) t) h

    last : p n ≡ true → (bytes_eq y x && p n) ≡ false → at_end (n + 1) ys x p y ≡ None
    last t h = other (bytes_eq x y) refl h t

-- one that is there no more

module _ (p q : ℕ → Bool) (r : ℕ) (others : (k : ℕ) → k ≢ r → q k ≡ p k) (gone : q r ≡ false) where
  weaker : (k : ℕ) → q k ≡ true → p k ≡ true
  weaker k t = dite (ℕ_discrete k r) (λ e. true_is_not_false (q k) t (ap q e ∙ gone)) (λ ne. sym (others k ne) ∙ t)

  still_none : (n : ℕ) (names : List Text) (x : Text) → number_from n names p x ≡ None → number_from n names q x ≡ None
  still_none n [] x e = refl
  still_none n (y ∷ ys) x e =
      let apart = none_else (bytes_eq y x && p n) n (number_from (n + 1) ys p x) e in
      go (bytes_eq y x && q n) refl apart.0 (still_none (n + 1) ys x apart.1)
    where
      go : (b : Bool) → (bytes_eq y x && q n) ≡ b → (bytes_eq y x && p n) ≡ false → number_from (n + 1) ys q x ≡ None
          → (if b then Some n else number_from (n + 1) ys q x) ≡ None
      go false e h ih = ih
      go true e h ih = let t = and_parts (bytes_eq y x) (q n) e in
          true_is_not_false (bytes_eq y x && p n) (and_from (bytes_eq y x) (p n) t.0 (weaker n t.1)) h

  single_left : (n : ℕ) (names : List Text) → AreSingle n names p → AreSingle n names q
  single_left n [] s = tt
  single_left n (y ∷ ys) s = (λ t. still_none (n + 1) ys y (s.0 (weaker n t)), single_left (n + 1) ys s.1)

  -- the numbers of some names are not below where they begin
  above : (n : ℕ) (names : List Text) (x : Text) → number_from n names p x ≡ Some r → n ≤ r
  above n [] x e = none_is_not_some r e
  above n (y ∷ ys) x e = go (bytes_eq y x && p n) e (above (n + 1) ys x)
    where
      go : (b : Bool) → (if b then Some n else number_from (n + 1) ys p x) ≡ Some r
          → (number_from (n + 1) ys p x ≡ Some r → n + 1 ≤ r) → n ≤ r
      go true e ih = let s = same_Some n r e in omega arith
      go false e ih = let l = ih e in omega arith

  beyond : (n : ℕ) (names : List Text) (x : Text) → r < n → number_from n names q x ≡ number_from n names p x
  beyond n names x l = from_agree n names q p (λ k a b. others k (λ e. omega arith)) x

  name_gone : (n : ℕ) (names : List Text) (x : Text) → AreSingle n names p → number_from n names p x ≡ Some r
      → number_from n names q x ≡ None
  name_gone n [] x s e = none_is_not_some r e
  name_gone n (y ∷ ys) x s e = go (bytes_eq y x && p n) refl e (name_gone (n + 1) ys x s.1)
    where
      head : (c : Bool) → (bytes_eq y x && q n) ≡ c → c ≡ false → number_from (n + 1) ys q x ≡ None
          → (if c then Some n else number_from (n + 1) ys q x) ≡ None
      head false e f ih = ih
      head true e f ih = true_is_not_false true refl f

      off : (a : Bool) → q n ≡ false → (a && q n) ≡ false
      off true e = e
      off false e = refl

      stays_off : (bytes_eq y x && p n) ≡ false → (b : Bool) → (bytes_eq y x && q n) ≡ b → b ≡ false
      stays_off h false e = refl
      stays_off h true e = let t = and_parts (bytes_eq y x) (q n) e in
          true_is_not_false (bytes_eq y x && p n) (and_from (bytes_eq y x) (p n) t.0 (weaker n t.1)) h

      go : (b : Bool) → (bytes_eq y x && p n) ≡ b → (if b then Some n else number_from (n + 1) ys p x) ≡ Some r
          → (number_from (n + 1) ys p x ≡ Some r → number_from (n + 1) ys q x ≡ None)
          → (if bytes_eq y x && q n then Some n else number_from (n + 1) ys q x) ≡ None
      go true h e ih =
          let t = and_parts (bytes_eq y x) (p n) h in
          let is : n ≡ r = same_Some n r e in
          let none : number_from (n + 1) ys p x ≡ None = ap (number_from (n + 1) ys p) (sym (same_text y x t.0)) ∙ s.0 t.1 in
          head (bytes_eq y x && q n) refl (off (bytes_eq y x) (ap q is ∙ gone)) (beyond (n + 1) ys x (omega arith) ∙ none)
      go false h e ih = head (bytes_eq y x && q n) refl (stays_off h (bytes_eq y x && q n) refl) (ih e)

  other_names : (n : ℕ) (names : List Text) (x y : Text) → bytes_eq x y ≡ false → number_from n names p x ≡ Some r
      → number_from n names q y ≡ number_from n names p y
  other_names n [] x y ne e = none_is_not_some r e
  other_names n (z ∷ zs) x y ne e = go (bytes_eq z x && p n) refl e (other_names (n + 1) zs x y ne)
    where
      not_it : (b : Bool) → bytes_eq z y ≡ b → z ≡ x → b ≡ false
      not_it false e s = refl
      not_it true e s = true_is_not_false (bytes_eq x y) (ap (λ (w : Text). bytes_eq w y) (sym s) ∙ e) ne

      both_off : (b : Bool) → b ≡ false → (b && q n) ≡ (b && p n)
      both_off false e = refl
      both_off true e = true_is_not_false true refl e

      go : (b : Bool) → (bytes_eq z x && p n) ≡ b → (if b then Some n else number_from (n + 1) zs p x) ≡ Some r
          → (number_from (n + 1) zs p x ≡ Some r → number_from (n + 1) zs q y ≡ number_from (n + 1) zs p y)
          → (if bytes_eq z y && q n then Some n else number_from (n + 1) zs q y)
          ≡ (if bytes_eq z y && p n then Some n else number_from (n + 1) zs p y)
      go true h e ih =
          let t = and_parts (bytes_eq z x) (p n) h in
          let is : n ≡ r = same_Some n r e in
          let head : (bytes_eq z y && q n) ≡ (bytes_eq z y && p n) = both_off (bytes_eq z y)
          (not_it (bytes_eq z y) refl (same_text z x t.0)) in
          let tail : number_from (n + 1) zs q y ≡ number_from (n + 1) zs p y = beyond (n + 1) zs y (omega arith) in
          (λ i. if head i then Some n else tail i)
      go false h e ih =
          let l = above (n + 1) zs x e in
          let here : q n ≡ p n = others n (λ is. omega arith) in
          let tail : number_from (n + 1) zs q y ≡ number_from (n + 1) zs p y = ih e in
          (λ i. if bytes_eq z y && here i then Some n else tail i)

-- Tables

bound_push : (bound : List (Text × ℕ)) (x name : Text) (n : ℕ)
    → number_of (bound ++ (x, n) ∷ []) name ≡ option_or (number_of bound name) (if bytes_eq name x then Some n else None)
bound_push [] x name n = refl
bound_push (e ∷ es) x name n = go (bytes_eq name e.0) (bound_push es x name n)
  where
    go : (b : Bool) → number_of (es ++ (x, n) ∷ []) name
        ≡ option_or (number_of es name) (if bytes_eq name x then Some n else None)
        → (if b then Some e.1 else number_of (es ++ (x, n) ∷ []) name)
        ≡ option_or (if b then Some e.1 else number_of es name) (if bytes_eq name x then Some n else None)
    go true ih = refl
    go false ih = ih

-- a name that was free, and is bound last
pub found_last : (bound : List (Text × ℕ)) (name : Text) (n : ℕ) → number_of bound name ≡ None
    → number_of (bound ++ (name, n) ∷ []) name ≡ Some n
found_last bound name n free = bound_push bound name name n
    ∙ (λ i. option_or (free i) (if text_same name name refl i then Some n else None))

pub named_same : (t : Table) (p q : ℕ → Bool) → ((k : ℕ) → q k ≡ p k) → IsNamed t p → IsNamed t q
named_same t p q same k = record {
  finds = λ name. k.finds name ∙ from_agree 0 t.made p q (λ n l m. sym (same n)) name;
  single = single_agree 0 t.made p q (λ n l m. sym (same n)) k.single;
}

pub named_none : (p : ℕ → Bool) → IsNamed (table [] []) p
named_none p = record { finds = λ name. refl; single = tt }

-- one more, whose name is free
pub named_push : (t : Table) (p q : ℕ → Bool) (x : Text) → IsNamed t p → number_of t.bound x ≡ None
    → ((k : ℕ) → k < length t.made → q k ≡ p k)
    → q (length t.made) ≡ true → IsNamed (table (t.bound ++ (x, length t.made) ∷ []) (t.made ++ x ∷ [])) q
unfolding at_end
named_push t p q x k free same new = record {
  finds = λ name.
      bound_push t.bound x name (length t.made)
      ∙ (λ i. option_or ((k.finds name ∙ agrees name) i) (last name i))
      ∙ sym (from_push 0 t.made x q name);
  single = single_push 0 t.made x q (single_agree 0 t.made p q (λ n l m. sym (same n (omega arith))) k.single)
      (sym (agrees x) ∙ sym (k.finds x) ∙ free);
}
  where
    agrees : (name : Text) → number_from 0 t.made p name ≡ number_from 0 t.made q name
    agrees name = from_agree 0 t.made p q (λ n l m. sym (same n (omega arith))) name

    and_true : (a b : Bool) → b ≡ true → a ≡ (a && b)
    and_true true b e = sym e
    and_true false b e = refl

    last : (name : Text) → (if bytes_eq name x then Some (length t.made) else None)
        ≡ (if bytes_eq x name && q (0 + length t.made) then Some (0 + length t.made) else None)
    last name =
        ap (λ (b : Bool). if b then Some (length t.made) else None)
        (bytes_eq-sym name x ∙ and_true (bytes_eq x name) (q (length t.made)) new)
        ∙ ap (λ (n : ℕ). if bytes_eq x name && q n then Some n else None) (sym (zero-add (length t.made)))

-- what had a name is there no more
pub named_drop : (t u : Table) (p q : ℕ → Bool) (x : Text) (r : ℕ) → IsNamed t p → number_of t.bound x ≡ Some r
    → ((k : ℕ) → k ≢ r → q k ≡ p k)
    → q r ≡ false → Rebinds t.bound u.bound x None → u.made ≡ t.made → IsNamed u q
named_drop t u p q x r k found others gone binds same =
    let at : number_from 0 t.made p x ≡ Some r = sym (k.finds x) ∙ found in
    record {
      finds = λ name. binds name ∙ go name (bytes_eq x name) refl at ∙ ap (λ (made : List Text). number_from 0 made q name)
          (sym same);
      single = subst (λ (made : List Text). AreSingle 0 made q) (sym same) (single_left p q r others gone 0 t.made k.single);
    }
  where
    go : (name : Text) (b : Bool) → bytes_eq x name ≡ b → number_from 0 t.made p x ≡ Some r
        → (if b then None else number_of t.bound name) ≡ number_from 0 t.made q name
    go name true e at = sym (ap (number_from 0 t.made q) (sym (same_text x name e))
        ∙ name_gone p q r others gone 0 t.made x k.single at)
    go name false e at = k.finds name ∙ sym (other_names p q r others gone 0 t.made x name e at)
