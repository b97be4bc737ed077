-- The lines of a text.
use Rattle.std.proofs.Common.{◌≡◌, ◌==◌, ◌<◌, ◌+◌, ◌-◌, ℕ, zero, suc, List, [], ◌∷◌, length, take, drop, position, Option, Some, None, Result, Ok, Err, ◌++◌, sym, ap, subst, ◌∙◌, append_assoc, arith, add-one, codes, get_or}
use Rattle.std.proofs.Math.Seq.{drop-cons}
use Rattle.std.specs.Prelude.{OnOk, flat_map}
use Rattle.std.specs.List.{slice_split}
use Rattle.mem_base.specs.declared.script.faults.BadScript.{BadScript}
use Rattle.mem_base.specs.script.Lines.{uncommented, without_return}
use Rattle.mem_base.specs.script.RefusalLines.{bad_line}
use Rattle.mem_base.specs.script.Spelling.{Text}
use Rattle.script_text.proofs.Cuts.{split_first, split_none}
use Rattle.script_marks.proofs.Cuts.{some_part}
use Rattle.script_marks.specs.Marks.{Marks}
use Rattle.script_marks.specs.declared.marks.Mark.{Mark}
use Rattle.script_explain.specs.Told.{GoesOn}
use Rattle.script_explain.specs.Faults.{Adds, TellsFault, ended, line_at, part_at, shown_text}

abbrev parts : Text → List Text
parts text = slice_split (λ b. b == 10) text

ended_more : (parts : List Text) (part first : Text) (rest : List Text) → parts ≡ first ∷ rest → ended parts part ≡ without_return part
ended_more parts part first rest e = ap (λ ps. ended ps part) e

-- a line that another one follows
pub first_line : (text : Text) (k n : ℕ) → position (λ b. b == 10) text ≡ Some k → n ≡ 0 → part_at n (parts text) ≡ without_return (take k text)
first_line text k n e z =
    let some = some_part (λ b. b == 10) (drop (k + 1) text) in
    ap (λ (j : ℕ). part_at j (parts text)) z ∙ ap (part_at 0) (split_first (λ b. b == 10) k text e)
    ∙ ended_more (parts (drop (k + 1) text)) (take k text) some.0 some.1 some.2

-- those that follow it
pub next_line : (text : Text) (k n : ℕ) → position (λ b. b == 10) text ≡ Some k → 0 < n
    → part_at n (parts text) ≡ part_at (n - 1) (parts (drop (k + 1) text))
next_line text k zero e l = absurd (omega (arith, l))
next_line text k (suc m) e l =
    ap (part_at (suc m)) (split_first (λ b. b == 10) k text e)
    ∙ ap (λ (j : ℕ). part_at j (parts (drop (k + 1) text))) (let same : m ≡ suc m - 1 = omega arith in same)

-- the last one
pub last_line : (text : Text) (n : ℕ) → position (λ b. b == 10) text ≡ None → n ≡ 0 → part_at n (parts text) ≡ text
last_line text n e z = ap (λ (j : ℕ). part_at j (parts text)) z ∙ ap (part_at 0) (split_none (λ b. b == 10) text e)

pub no_line : (text : Text) (n : ℕ) → position (λ b. b == 10) text ≡ None → 0 < n → part_at n (parts text) ≡ []
no_line text zero e l = absurd (omega (arith, l))
no_line text (suc m) e l = ap (part_at (suc m)) (split_none (λ b. b == 10) text e)

-- a caret more
pub caret_next : (xs : Text) (i : ℕ) (old new whole : Text) → i < length xs → new ≡ old ++ codes "^"
    → old ++ flat_map (λ (b : ℕ). codes "^") (drop i xs) ≡ whole → new ++ flat_map (λ (b : ℕ). codes "^") (drop (i + 1) xs) ≡ whole
caret_next xs i old new whole l e h =
    let rest : Text = flat_map (λ (b : ℕ). codes "^") (drop (i + 1) xs) in
    let cut : drop i xs ≡ get_or xs i 0 ∷ drop (i + 1) xs =
    drop-cons xs i 0 l ∙ ap (λ (j : ℕ). get_or xs i 0 ∷ drop j xs) (sym (add-one i))
    in
    ap (λ (t : Text). t ++ rest) e ∙ append_assoc old (codes "^") rest
    ∙ ap (λ (t : Text). old ++ t) (sym (ap (flat_map (λ (b : ℕ). codes "^")) cut)) ∙ h

-- the parts of what is told of a fault
pub fault_told : {T E : Type 0} (r : Result T E) (text : Text) (bad : BadScript) (line : Text) (mark : Option Mark) (more old new : Text)
    → line ≡ line_at bad.line text → Marks bad.cause (uncommented line) mark
    → OnOk r (new ≡ old ++ (bad_line bad ++ (shown_text bad.line line mark ++ more))) → OnOk r (Adds (TellsFault text bad) old new)
fault_told (Err x) text bad line mark more old new is m e = tt
fault_told (Ok x) text bad line mark more old new is m e = (
  bad_line bad ++ (shown_text bad.line line mark ++ more),
  e,
  record {
    mark = mark;
    marks = subst (λ (l : Text). Marks bad.cause (uncommented l) mark) is m;
    more = more;
    text_is = ap (λ (l : Text). bad_line bad ++ (shown_text bad.line l mark ++ more)) is;
  },
)

-- it begins with its first line
pub fault_begins : {T E : Type 0} (r : Result T E) (text : Text) (bad : BadScript) (old new : Text)
    → OnOk r (Adds (TellsFault text bad) old new) → OnOk r (GoesOn old (bad_line bad) new)
fault_begins (Err x) text bad old new h = tt
fault_begins (Ok x) text bad old new h =
    let rest : Text = shown_text bad.line (line_at bad.line text) h.2.mark ++ h.2.more in
    (rest, h.1 ∙ ap (λ (t : Text). old ++ t) h.2.text_is ∙ sym (append_assoc old (bad_line bad) rest))
