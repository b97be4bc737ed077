-- Texts that are cut at a space or a tab.
use Rattle.std.proofs.Common.{◌≡◌, ◌<◌, ◌+◌, ℕ, zero, suc, Bool, true, false, cond, List, [], ◌∷◌, ◌++◌, length, take, drop, get_or, filter, refl, sym, ap}
use Rattle.std.proofs.Common.{◌∙◌, arith, add-one, subst, position, Some}
use Rattle.std.specs.List.{onto_first, slice_split, list_all}
use Rattle.std.proofs.lemmas.List.{append-nil, take-append-drop, take_more}
use Rattle.std.proofs.lemmas.List.Elements.{filter-append}
use Rattle.std.proofs.lemmas.List.Quantifiers.{position-Some}
use Rattle.std.proofs.Math.Seq.{drop-cons}
use Rattle.mem_base.specs.script.Spelling.{Text}
use Rattle.mem_base.specs.script.Lines.{has_bytes, is_gap, tokens_of}
use Rattle.std.proofs.lemmas.Bool.{and_parts, and_from}

-- a list of parts is not empty
pub some_part : (p : ℕ → Bool) (text : Text) → (first : Text) × (rest : List Text) × (slice_split p text ≡ first ∷ rest)
some_part p [] = ([], [], refl)
some_part p (b ∷ bs) = by (p b) (some_part p bs) where
  by : (c : Bool) → (first : Text) × (rest : List Text) × (slice_split p bs ≡ first ∷ rest)
      → (first : Text) × (rest : List Text) × (cond c ([] ∷ slice_split p bs) (onto_first b (slice_split p bs)) ≡ first ∷ rest)
  by true h = ([], slice_split p bs, refl)
  by false h = (b ∷ h.0, h.1, ap (onto_first b) h.2)

onto_more : (b : ℕ) (parts more : List Text) (first : Text) (rest : List Text) → parts ≡ first ∷ rest → onto_first b (parts ++ more) ≡ onto_first b parts ++ more
onto_more b parts more first rest e =
    ap (λ (ps : List Text). onto_first b (ps ++ more)) e ∙ sym (ap (λ (ps : List Text). onto_first b ps ++ more) e)

-- the parts of a text that is cut at a byte are those of what stands before it, and those of what stands after it
split_more : (p : ℕ → Bool) (a : Text) (g : ℕ) (b : Text) → p g ≡ true → slice_split p (a ++ g ∷ b) ≡ slice_split p a ++ slice_split p b
split_more p [] g b e = ap (λ c. cond c ([] ∷ slice_split p b) (onto_first g (slice_split p b))) e
split_more p (x ∷ xs) g b e = by (p x) (split_more p xs g b e) where
  by : (c : Bool) → slice_split p (xs ++ g ∷ b) ≡ slice_split p xs ++ slice_split p b
      → cond c ([] ∷ slice_split p (xs ++ g ∷ b)) (onto_first x (slice_split p (xs ++ g ∷ b)))
      ≡ cond c ([] ∷ slice_split p xs) (onto_first x (slice_split p xs)) ++ slice_split p b
  by true h = ap (λ ps. [] ∷ ps) h
  by false h =
      let some = some_part p xs in ap (onto_first x) h ∙ onto_more x (slice_split p xs) (slice_split p b) some.0 some.1 some.2

-- so are its tokens
pub tokens_at_gap : (a : Text) (g : ℕ) (b : Text) → is_gap g ≡ true → tokens_of (a ++ g ∷ b) ≡ tokens_of a ++ tokens_of b
tokens_at_gap a g b e = ap (filter has_bytes) (split_more is_gap a g b e) ∙ filter-append has_bytes (slice_split is_gap a) (slice_split is_gap b)

pub cut_at : (text : Text) (n : ℕ) → n < length text → is_gap (get_or text n 0) ≡ true
    → tokens_of text ≡ tokens_of (take n text) ++ tokens_of (drop (n + 1) text)
cut_at text n l e =
    ap tokens_of (sym (take-append-drop n text) ∙ ap (λ (t : Text). take n text ++ t) (drop-cons text n 0 l ∙ ap (λ i. get_or text n 0 ∷ drop i text) (sym (add-one n))))
    ∙ tokens_at_gap (take n text) (get_or text n 0) (drop (n + 1) text) e

pub gap_last : (text : Text) (n : ℕ) → n < length text → is_gap (get_or text n 0) ≡ true → tokens_of (take (n + 1) text) ≡ tokens_of (take n text)
gap_last text n l e =
    ap tokens_of (take_more text n 0 l) ∙ tokens_at_gap (take n text) (get_or text n 0) [] e ∙ append-nil (tokens_of (take n text))

-- the first gap after the first bytes, as a byte of the whole
pub gap_there : (text : Text) (start len : ℕ) → position is_gap (drop start text) ≡ Some len → (start + len < length text) × (is_gap (get_or text (start + len) 0) ≡ true)
gap_there text start len e =
    let at = position-Some is_gap (drop start text) len 0 e in by text start at.0 at.1
  where
    by : (text : Text) (start : ℕ) → len < length (drop start text) → is_gap (get_or (drop start text) len 0) ≡ true
        → (start + len < length text) × (is_gap (get_or text (start + len) 0) ≡ true)
    by text zero l g = (omega (arith, l), subst (λ (i : ℕ). is_gap (get_or text i 0) ≡ true) (let e : len ≡ 0 + len = omega arith in e) g)
    by [] (suc n) l g = absurd (omega (arith, l))
    by (b ∷ bs) (suc n) l g =
        let rest = by bs n l g in
        let within : n + len < length bs = rest.0 in
        let same : suc (n + len) ≡ suc n + len = omega arith in
        (omega (arith, within), subst (λ (i : ℕ). is_gap (get_or (b ∷ bs) i 0) ≡ true) same rest.1)

pub all_front : (p : ℕ → Bool) (text : Text) (n : ℕ) → list_all p text ≡ true → list_all p (take n text) ≡ true
all_front p text zero h = refl
all_front p [] (suc n) h = refl
all_front p (b ∷ bs) (suc n) h =
    let both = and_parts (p b) (list_all p bs) h in and_from (p b) (list_all p (take n bs)) both.0 (all_front p bs n both.1)
