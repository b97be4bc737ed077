-- What is counted line by line, and what is counted over all lines.
use Rattle.std.proofs.Common.{◌≡◌, ℕ, ◌+◌, ◌<◌, Bool, true, false, cond, eqb, List, [], ◌∷◌, ◌++◌, length, filter}
use Rattle.std.proofs.Common.{take, drop, position, refl, sym, ap}
use Rattle.std.proofs.Common.{◌∙◌, arith, append_assoc, Option, None, Some}
use Rattle.std.specs.Prelude.{reverse, option_map}
use Rattle.std.specs.List.{slice_split}
use Rattle.std.proofs.lemmas.List.{append-nil, length-append, reverse-append}
use Rattle.std.proofs.lemmas.List.Elements.{filter-append}
use Rattle.std.proofs.lemmas.List.Splits.{length-slice_split}
use Rattle.mem_base.specs.script.Spelling.{Text}
use Rattle.mem_base.specs.script.Summary.{count, ended_lines, generation_in, is_decode, is_error, is_ok, is_refusal, is_view}
use Rattle.mem_base.specs.script.Summary.{last_view, lines_in}
use Rattle.script_text.proofs.Cuts.{split_first, split_none}
use Rattle.run_summary.specs.Counted.{Counted, after_line, after_lines, counted, one_if}
use Rattle.run_summary.specs.Counted.{view_after, viewed}

one_more : (test : Text → Bool) (lines : List Text) (line : Text)
    → count test (lines ++ line ∷ []) ≡ count test lines + one_if (test line)
one_more test lines line =
    ap length (filter-append test lines (line ∷ [])) ∙ length-append (filter test lines) (filter test (line ∷ []))
    ∙ elim (test line) as (λ b. count test lines + length (cond b (line ∷ []) []) ≡ count test lines + cond b 1 0)
    [ true ↦ refl | false ↦ refl ]

-- a line more after a view
view_later : (n : ℕ) (lines : List Text) → viewed (last_view (n + 1) lines)
    ≡ option_map (λ v. (v.0, v.1 + 1)) (viewed (last_view n lines))
view_later n [] = refl
view_later n (line ∷ lines) =
    elim (is_view line) as (λ b. viewed (cond b (Some (line, n + 1)) (last_view (n + 1 + 1) lines))
    ≡ option_map (λ v. (v.0, v.1 + 1)) (viewed (cond b (Some (line, n)) (last_view (n + 1) lines)))) [
      | true ↦ refl
      | false ↦ view_later (n + 1) lines
    ]

view_next : (lines : List Text) (line : Text)
    → viewed (last_view 0 (reverse (lines ++ line ∷ []))) ≡ view_after (viewed (last_view 0 (reverse lines))) line
view_next lines line =
    ap (λ ls. viewed (last_view 0 ls)) (reverse-append lines (line ∷ []))
    ∙ elim (is_view line) as (λ b. viewed (cond b (Some (line, 0)) (last_view 1 (reverse lines)))
    ≡ cond b (Some (generation_in (Some (line, 0)), 0))
    (option_map (λ v. (v.0, v.1 + 1)) (viewed (last_view 0 (reverse lines))))) [
      | true ↦ refl
      | false ↦ view_later 0 (reverse lines)
    ]

counted_next : (lines : List Text) (line : Text) → after_line (counted lines) line ≡ counted (lines ++ line ∷ [])
counted_next lines line =
    let more = sym (length-append lines (line ∷ [])) in
    let refused = sym (one_more is_refusal lines line) in
    let ok = sym (one_more is_ok lines line) in
    let error = sym (one_more is_error lines line) in
    let decode = sym (one_more is_decode lines line) in
    let view = sym (view_next lines line) in
    λ i. record { lines = more i; refused = refused i; ok = ok i; error = error i; decode = decode i; view = view i }

counted_from : (lines rest : List Text) → after_lines (counted lines) rest ≡ counted (lines ++ rest)
counted_from lines [] = ap counted (sym (append-nil lines))
counted_from lines (line ∷ rest) =
    ap (λ c. after_lines c rest) (counted_next lines line) ∙ counted_from (lines ++ line ∷ []) rest
    ∙ ap counted (append_assoc lines (line ∷ []) rest)

-- counting line by line counts all
pub counted_all : (lines : List Text) → after_lines (counted []) lines ≡ counted lines
counted_all lines = counted_from [] lines

-- The lines of a text

first_line : (part : Text) (parts : List Text) → 0 < length parts → ended_lines (part ∷ parts) ≡ part ∷ ended_lines parts
first_line part [] l = absurd (omega arith)
first_line part (next ∷ parts) l = refl

-- the first line, and those after it
pub lines_cut : (text : Text) (n : ℕ) → position (λ b. eqb b 10) text ≡ Some n
    → lines_in text ≡ take n text ∷ lines_in (drop (n + 1) text)
lines_cut text n e =
    let some = length-slice_split (λ b. eqb b 10) (drop (n + 1) text) in
    ap ended_lines (split_first (λ b. eqb b 10) n text e)
    ∙ first_line (take n text) (slice_split (λ b. eqb b 10) (drop (n + 1) text)) (omega (arith, some))

-- where no line ends there is none
pub no_lines : (text : Text) → position (λ b. eqb b 10) text ≡ None → lines_in text ≡ []
no_lines text e = ap ended_lines (split_none (λ b. eqb b 10) text e)

-- one line is counted, and then the rest
pub count_line : (c : Counted) (text : Text) (n : ℕ) (all : Counted) → position (λ b. eqb b 10) text ≡ Some n
    → after_lines c (lines_in text) ≡ all
    → after_lines (after_line c (take n text)) (lines_in (drop (n + 1) text)) ≡ all
count_line c text n all e h = ap (after_lines c) (sym (lines_cut text n e)) ∙ h

-- no line is left
pub counted_end : (c : Counted) (text : Text) (all : Counted) → position (λ b. eqb b 10) text ≡ None
    → after_lines c (lines_in text) ≡ all → c ≡ all
counted_end c text all e h = ap (after_lines c) (sym (no_lines text e)) ∙ h

pub none_from_not_some : {A : Type 0} (o : Option A) → ((x : A) → o ≡ Some x → ⊥) → o ≡ None
none_from_not_some None h = refl
none_from_not_some (Some x) h = absurd (h x refl)
