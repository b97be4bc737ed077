-- The lines of a script, one after another.
use Rattle.std.proofs.Common.{◌≡◌, ℕ, zero, suc, ◌+◌, ◌<◌, ◌≤◌, ◌==◌, Bool, true, false, List, [], ◌∷◌, ◌++◌, length, get_or, inl, inr, refl, sym, ap, subst, ◌∙◌, arith, add-one}
use Rattle.std.specs.Prelude.{take, drop}
use Rattle.std.proofs.lemmas.List.{take-append-drop}
use Rattle.std.proofs.lemmas.Bool.{eqb-true}
use Rattle.mem_base.specs.lists.Every.{Every}
use Rattle.mem_base.specs.script.Scripts.{Line}
use Rattle.mem_base.specs.script.Race.{Phase, alone, block, phases_of}
use Rattle.race_laws.specs.Outside.{block_of, phases_alone}
use Rattle.race_phases.specs.Plain.{AreParts}

map_joined : (xs ys : List Line) → phases_alone (xs ++ ys) ≡ phases_alone xs ++ phases_alone ys
map_joined [] ys = refl
map_joined (x ∷ xs) ys = ap (λ (zs : List Phase). alone x ∷ zs) (map_joined xs ys)

take_one : (lines : List Line) (i : ℕ) (line : Line) → i < length lines → line ≡ get_or lines i line → take (suc i) lines ≡ take i lines ++ line ∷ []
take_one [] i line near is = absurd (omega (arith, near))
take_one (x ∷ xs) zero line near is = λ j. sym is j ∷ []
take_one (x ∷ xs) (suc i) line near is = ap (λ (zs : List Line). x ∷ zs) (take_one xs i line (omega (arith, near)) is)

-- the first lines, with one more
pub next_line : (lines : List Line) (i : ℕ) (line : Line) → i < length lines → line ≡ get_or lines i line
    → phases_alone (take i lines) ++ alone line ∷ [] ≡ phases_alone (take (i + 1) lines)
next_line lines i line near is =
    sym (ap phases_alone (ap (λ (n : ℕ). take n lines) (add-one i) ∙ take_one lines i line near is) ∙ map_joined (take i lines) (line ∷ []))

-- the first lines, and the others
pub cut_lines : (lines : List Line) (i : ℕ) → phases_alone (take i lines) ++ phases_alone (drop i lines) ≡ phases_alone lines
cut_lines lines i = sym (map_joined (take i lines) (drop i lines)) ∙ ap phases_alone (take-append-drop i lines)

-- what holds of every line
pub line_of : (P : Line → Type 0) (lines : List Line) (i : ℕ) (line : Line) → i < length lines → line ≡ get_or lines i line → Every P lines → P line
line_of P [] i line near is h = absurd (omega (arith, near))
line_of P (x ∷ xs) zero line near is h = subst P (sym is) h.0
line_of P (x ∷ xs) (suc i) line near is h = line_of P xs i line (omega (arith, near)) is h.1

-- a block without lines
no_block : (lines : List Line) → length lines ≡ 0 → block_of lines ≡ []
no_block [] none = refl
no_block (x ∷ xs) none = absurd (omega (arith, none))

-- what holds of every line of a script holds of those of its parts

front_of : (P : Line → Type 0) (xs ys : List Line) → Every P (xs ++ ys) → Every P xs
front_of P [] ys h = tt
front_of P (x ∷ xs) ys h = (h.0, front_of P xs ys h.1)

back_of : (P : Line → Type 0) (xs ys : List Line) → Every P (xs ++ ys) → Every P ys
back_of P [] ys h = h
back_of P (x ∷ xs) ys h = back_of P xs ys h.1

pub record InParts (P : Line → Type 0) (before inside after : List Line) : Type 0 where
  pub before_it : Every P before
  pub in_it : Every P inside
  pub after_it : Every P after

pub in_parts : (P : Line → Type 0) (lines before inside after : List Line) → AreParts lines before inside after → Every P lines
    → InParts P before inside after
in_parts P lines before inside after (inl h) every = record {
  before_it = subst (Every P) h.0 every;
  in_it = subst (Every P) (sym h.1) tt;
  after_it = subst (Every P) (sym h.2) tt;
}
in_parts P lines before inside after (inr h) every =
    let all : Every P (before ++ h.0 ∷ (inside ++ h.1 ∷ after)) = subst (Every P) h.2 every in
    let rest : Every P (inside ++ h.1 ∷ after) = (back_of P before (h.0 ∷ (inside ++ h.1 ∷ after)) all).1 in record {
      before_it = front_of P before (h.0 ∷ (inside ++ h.1 ∷ after)) all;
      in_it = front_of P inside (h.1 ∷ after) rest;
      after_it = (back_of P inside (h.1 ∷ after) rest).1;
    }

-- by the test whether it has any
pub none_by : (lines : List Line) (b : Bool) → b ≡ (length lines == 0) → b ≡ true → block_of lines ≡ []
none_by lines b is none = no_block lines (eqb-true (length lines) 0 (sym is ∙ none))

pub some_by : (lines : List Line) (b : Bool) → b ≡ (length lines == 0) → b ≡ false → block_of lines ≡ block lines ∷ []
some_by [] b is some = absurd (let e : true ≡ false = sym is ∙ some in cc)
some_by (x ∷ xs) b is some = refl

-- all of the lines
pub take_all : (lines : List Line) (i : ℕ) → length lines ≤ i → phases_alone (take i lines) ≡ phases_alone lines
take_all lines i far = ap phases_alone (take_past i lines far)
  where
    take_past : (k : ℕ) (xs : List Line) → length xs ≤ k → take k xs ≡ xs
    take_past zero [] l = refl
    take_past zero (x ∷ xs) l = absurd (omega (arith, l))
    take_past (suc k) [] l = refl
    take_past (suc k) (x ∷ xs) l = ap (λ (ys : List Line). x ∷ ys) (take_past k xs (omega (arith, l)))

-- the phases of a script by its lines
pub phases_are : (script lines : List Line) (phases : List Phase) → lines ≡ script → phases_of lines ≡ phases → phases ≡ phases_of script
phases_are script lines phases same is = sym is ∙ ap phases_of same
