-- The commands of a text, from its first line on.
use Rattle.std.proofs.Common.{◌≡◌, ◌==◌, ◌<◌, ◌+◌, ℕ, List, [], ◌∷◌, ◌++◌, Bool, length, take, drop, position, refl, sym, ap, ◌∙◌, arith}
use Rattle.std.proofs.Common.{None, Some, Ok, Err, append_assoc}
use Rattle.std.specs.declared.option.Option.{Option}
use Rattle.std.specs.List.{slice_split}
use Rattle.std.proofs.lemmas.List.Splits.{length-slice_split}
use Rattle.mem_base.specs.declared.script.faults.BadScript.{BadScript}
use Rattle.script_text.specs.declared.faults.ParseFault.{ParseFault}
use Rattle.script_text.specs.declared.faults.ParseFault.TheVariants.{Bad, Memory}
use Rattle.mem_base.specs.declared.script.places.Section.{Section}
use Rattle.mem_base.specs.script.Lines.{line_of, without_return}
use Rattle.mem_base.specs.script.Scripts.{Line, Meaning, ends_at, line_then, script_from, with_line}
use Rattle.script_text.specs.Parses.{FailsBy, Steps, prepend}
use Rattle.script_text.proofs.Cuts.{split_first, split_none}

more : (section : Section) (line : ℕ) (part : List ℕ) (parts : List (List ℕ)) → 0 < length parts
    → script_from section line (part ∷ parts) ≡ line_then section line (line_of (without_return part)) (λ s. script_from s (line + 1) parts)
more section line part [] some = absurd (omega arith)
more section line part (next ∷ parts) some = refl

-- the first line of a text
pub first_line : (section : Section) (line k : ℕ) (text : List ℕ) → position (λ b. b == 10) text ≡ Some k
    → script_from section line (slice_split (λ b. b == 10) text)
    ≡ line_then section line (line_of (without_return (take k text))) (λ s. script_from s (line + 1) (slice_split (λ b. b == 10) (drop (k + 1) text)))
first_line section line k text e =
    let p : ℕ → Bool = λ b. b == 10 in
    ap (script_from section line) (split_first p k text e)
    ∙ more section line (take k text) (slice_split p (drop (k + 1) text)) (omega (arith, length-slice_split p (drop (k + 1) text)))

-- the last line, which has no line feed
pub last_line : (section : Section) (line : ℕ) (text : List ℕ) → position (λ b. b == 10) text ≡ None
    → script_from section line (slice_split (λ b. b == 10) text) ≡ line_then section line (line_of text) ends_at
last_line section line text e = ap (script_from section line) (split_none (λ b. b == 10) text e)

pub prepend_more : (front : List Line) (l : Line) (rest : Meaning)
    → prepend front (with_line l rest) ≡ prepend (front ++ l ∷ []) rest
prepend_more front l (Ok cs) = ap Ok (sym (append_assoc front (l ∷ []) cs))
prepend_more front l (Err e) = refl

pub none_from_not_some : (o : Option ℕ) → ((x : ℕ) → o ≡ Some x → ⊥) → o ≡ None
none_from_not_some None h = refl
none_from_not_some (Some x) h = absurd (h x refl)

append_nil : (xs : List Line) → xs ++ [] ≡ xs
append_nil [] = refl
append_nil (x ∷ xs) = ap (λ ys. x ∷ ys) (append_nil xs)

pub good_line : (section next : Section) (line k : ℕ) (text : List ℕ) (before after : List Line) (whole : Meaning) → position (λ b. b == 10) text ≡ Some k
    → Steps (Ok next) section line (line_of (without_return (take k text))) before after
    → prepend before (script_from section line (slice_split (λ b. b == 10) text)) ≡ whole
    → prepend after (script_from next (line + 1) (slice_split (λ b. b == 10) (drop (k + 1) text))) ≡ whole
good_line section next line k text before after whole e step h =
    sym (step (λ s. script_from s (line + 1) (slice_split (λ b. b == 10) (drop (k + 1) text))))
    ∙ ap (prepend before) (sym (first_line section line k text e)) ∙ h

pub bad_line : (fault : ParseFault) (section : Section) (line k : ℕ) (text : List ℕ) (before after : List Line) (whole : Meaning) →
    position (λ b. b == 10) text ≡ Some k
    → Steps (Err fault) section line (line_of (without_return (take k text))) before after
    → prepend before (script_from section line (slice_split (λ b. b == 10) text)) ≡ whole → FailsBy fault whole
bad_line Memory section line k text before after whole e step h = tt
bad_line (Bad fault) section line k text before after whole e step h =
    sym h ∙ ap (prepend before) (first_line section line k text e ∙ step (λ s. script_from s (line + 1) (slice_split (λ b. b == 10) (drop (k + 1) text))))

pub good_end : (section next : Section) (line : ℕ) (text : List ℕ) (before after : List Line) (whole : Meaning) → position (λ b. b == 10) text ≡ None
    → Steps (Ok next) section line (line_of text) before after → ends_at next ≡ Ok []
    → prepend before (script_from section line (slice_split (λ b. b == 10) text)) ≡ whole → whole ≡ Ok after
good_end section next line text before after whole e step ends h =
    sym h ∙ ap (prepend before) (last_line section line text e) ∙ step ends_at ∙ ap (prepend after) ends ∙ ap Ok (append_nil after)

pub open_end : (fault : BadScript) (section next : Section) (line : ℕ) (text : List ℕ) (before after : List Line) (whole : Meaning) →
    position (λ b. b == 10) text ≡ None
    → Steps (Ok next) section line (line_of text) before after → ends_at next ≡ Err fault
    → prepend before (script_from section line (slice_split (λ b. b == 10) text)) ≡ whole → whole ≡ Err fault
open_end fault section next line text before after whole e step ends h =
    sym h ∙ ap (prepend before) (last_line section line text e) ∙ step ends_at ∙ ap (prepend after) ends

pub bad_end : (fault : ParseFault) (section : Section) (line : ℕ) (text : List ℕ) (before after : List Line) (whole : Meaning) →
    position (λ b. b == 10) text ≡ None
    → Steps (Err fault) section line (line_of text) before after
    → prepend before (script_from section line (slice_split (λ b. b == 10) text)) ≡ whole → FailsBy fault whole
bad_end Memory section line text before after whole e step h = tt
bad_end (Bad fault) section line text before after whole e step h =
    sym h ∙ ap (prepend before) (last_line section line text e ∙ step ends_at)
