-- What reading a text of one line tells of its tokens.
use Rattle.std.proofs.Common.{◌≡◌, ◌⊎◌, inl, inr, ◌≤◌, ◌==◌, ℕ, Bool, true, false, not, cond, nat_le, List, [], ◌∷◌, ◌++◌, length, take, Option, Some, None}
use Rattle.std.proofs.Common.{Result, Ok, Err, is_ok, is_some, refl, sym, ap, ◌∙◌, arith, codes, true≢false, ◌+◌}
use Rattle.std.specs.Prelude.{MatchBool}
use Rattle.std.proofs.lemmas.List.{length-append}
use Rattle.std.specs.List.{list_all, slice_split, position_or_len}
use Rattle.std.proofs.lemmas.Bool.{le-leb, and_parts, and_from}
use Rattle.std.proofs.lemmas.Bool.Decides.{nat_tests}
use Rattle.std.proofs.lemmas.List.{append-nil, take_all}
use Rattle.std.proofs.lemmas.List.Folds.{list_all-append}
use Rattle.std.proofs.lemmas.List.Splits.{slice_split_none}
use Rattle.mem_base.specs.declared.script.faults.Cause.{Cause}
use Rattle.mem_base.specs.declared.script.faults.Cause.TheVariants as causes
use Rattle.mem_base.specs.declared.script.commands.Command.{Command}
use Rattle.mem_base.specs.declared.script.places.Section.{Section}
use Rattle.mem_base.specs.declared.script.places.Section.TheVariants.{Start, Setup, Block, Tail}
use Rattle.mem_base.specs.script.Spelling.{Text}
use Rattle.mem_base.specs.script.Forms.{command}
use Rattle.mem_base.specs.script.Operands.{made_by}
use Rattle.mem_base.specs.script.Lines.{command_or_blank, line_of, may_stand, tokens_of, uncommented}
use Rattle.mem_base.specs.script.Scripts.{bad, ends_at, line_then, most_text, placed, placed_then, rule_of, script_from, script_of}
use Rattle.script_laws.proofs.LineLaws.{none_pass}
use Rattle.std.proofs.lemmas.Option.{same_Some}
use Rattle.script_laws.proofs.Tokens.{list_all-more}
use Rattle.script_marks.specs.Marks.{IsShort, Opens, OpensNone, is_plain}
use Rattle.script_marks.specs.Openings.{cause_in, is_own, of_line, opens_by}
use Rattle.script_marks.proofs.Cuts.{tokens_at_gap}
use Rattle.script_marks.proofs.Forms.{Failing, Tells, own, probe}
use Rattle.script_marks.proofs.Lines.{command_good}

-- the cause that a line's reading has
abbrev reading : Result (Option Command) Cause → Option Cause
reading (Ok c) = None
reading (Err cause) = of_line cause

abbrev cause_at : List Text → Option Cause
cause_at ts = reading (command_or_blank ts)

-- A text of one line

no_hash : (b : ℕ) → is_plain b ≡ true → not (b == 35) ≡ true
no_hash b h = (and_parts (may_stand b) (not (b == 35)) h).1

stands : (b : ℕ) → is_plain b ≡ true → may_stand b ≡ true
stands b h = (and_parts (may_stand b) (not (b == 35)) h).0

no_feed : (b : ℕ) → is_plain b ≡ true → not (b == 10) ≡ true
no_feed b h = grind (arith, nat_tests)

none_found : (p : ℕ → Bool) (xs : Text) → list_all (λ b. not (p b)) xs ≡ true → position_or_len p xs ≡ length xs
none_found p [] h = refl
none_found p (x ∷ xs) h =
    let both = and_parts (not (p x)) (list_all (λ b. not (p b)) xs) h in
    let rest = none_found p xs both.1 in
    rw both.0 (omega (arith, rest))

plain_line : (text : Text) → list_all is_plain text ≡ true → line_of text ≡ command_or_blank (tokens_of text)
plain_line text h =
    let same : uncommented text ≡ text =
    ap (λ n. take n text) (none_found (λ b. b == 35) text (list_all-more is_plain (λ b. not (b == 35)) no_hash text h)) ∙ take_all (length text) text (omega arith)
    in
    ap (λ u. cond (list_all may_stand u) (command_or_blank (tokens_of u)) (Err causes.Byte)) same
    ∙ ap (λ b. cond b (command_or_blank (tokens_of text)) (Err causes.Byte)) (list_all-more is_plain may_stand stands text h)

one_line : (r : Result (Option Command) Cause) → cause_in (line_then Start 1 r ends_at) ≡ reading r
one_line (Err cause) = refl
one_line (Ok None) = refl
one_line (Ok (Some c)) = by (placed 1 Start (rule_of c)) where
  by : (o : Option Section) → cause_in (placed_then 1 c o ends_at) ≡ None
  by None = refl
  by (Some Start) = refl
  by (Some Setup) = refl
  by (Some (Block par)) = refl
  by (Some Tail) = refl

pub plain_script : (text : Text) → list_all is_plain text ≡ true → length text ≤ 65540 → cause_in (script_of text) ≡ cause_at (tokens_of text)
plain_script text h l =
    let whole : slice_split (λ b. b == 10) text ≡ text ∷ [] =
    slice_split_none (λ b. b == 10) text (none_pass (λ b. b == 10) text (list_all-more is_plain (λ b. not (b == 10)) no_feed text h))
    in
    let fits : nat_le (length text) most_text ≡ true = le-leb (length text) 1048576 (omega (arith, l)) in
    ap (λ b. cause_in (cond b (script_from Start 1 (slice_split (λ c. c == 10) text)) (bad 0 causes.Long))) fits
    ∙ ap (λ parts. cause_in (script_from Start 1 parts)) whole ∙ one_line (line_of text) ∙ ap reading (plain_line text h)

-- the text with another token
pub probed_script : (text : Text) → IsShort text → cause_in (script_of (text ++ codes " ?")) ≡ cause_at (tokens_of text ++ probe ∷ [])
probed_script text h =
    plain_script (text ++ codes " ?") (list_all-append is_plain text (codes " ?") ∙ and_from (list_all is_plain text) (list_all is_plain (codes " ?")) h.0 refl)
    (longer text (codes " ?") h.1 (omega arith))
    ∙ ap cause_at (tokens_at_gap text 32 (codes "?") refl)
  where
    longer : (a b : Text) → length a ≤ 65536 → length b ≤ 2 → length (a ++ b) ≤ 65540
    longer a b h k = let e : length (a ++ b) ≡ length a + length b = length-append a b in omega (arith, h, k, e)

pub short_script : (text : Text) → IsShort text → cause_in (script_of text) ≡ cause_at (tokens_of text)
short_script text h = plain_script text h.0 (let l : length text ≤ 65536 = h.1 in omega (arith, l))

-- What a cause tells

no_some : {A G : Type 0} {x : A} → None ≡ Some x → G
no_some e = absurd (true≢false (sym (ap is_some e)))

own_of_line : (c : Cause) → own c ≡ true → of_line c ≡ Some c
own_of_line causes.Word e = refl
own_of_line causes.Name e = refl
own_of_line causes.Number e = refl
own_of_line _ e = absurd (true≢false (sym e))

own_some : (c : Cause) → own c ≡ true → is_own (Some c) ≡ true
own_some causes.Word e = refl
own_some causes.Name e = refl
own_some causes.Number e = refl
own_some _ e = e

told_of_line : (c : Cause) → (own c ≡ true) ⊎ (c ≡ causes.Count) → of_line c ≡ Some c
told_of_line c (inl e) = own_of_line c e
told_of_line c (inr e) = ap of_line e ∙ ap Some (sym e)

read_ok : (r : Result Command Cause) → is_ok r ≡ true → reading (made_by Some r) ≡ None
read_ok (Ok c) e = refl
read_ok (Err c) e = absurd (true≢false (sym e))

same_end : (ts : List Text) → ts ++ [] ≡ ts
same_end ts = append-nil ts

always_here : (ts : List Text) (h : Failing command ts) → command ts ≡ Err h.cause
always_here ts h = sym (ap command (same_end ts)) ∙ h.always []

pub begun : Opens []
begun = (command_good.more, command_good.completes)

-- a text that reads opens a line
pub none_opens : (ts : List Text) → cause_at ts ≡ None → Opens ts
none_opens [] e = begun
none_opens (t ∷ ts) e = by (command_good.tells (t ∷ ts)) where
  by : Tells command (t ∷ ts) → Opens (t ∷ ts)
  by (inl h) = ([], ap (λ us. is_ok (command us)) (same_end (t ∷ ts)) ∙ h)
  by (inr (inl h)) = (h.more, h.completes)
  by (inr (inr h)) = no_some (sym e ∙ ap (λ r. reading (made_by Some r)) (always_here (t ∷ ts) h) ∙ told_of_line h.cause h.told)

abbrev is_count : Cause → Bool
is_count causes.Count = true
is_count _ = false

-- a token that is there is at fault
pub own_opens_none : (ts : List Text) (c : Cause) → cause_at ts ≡ Some c → is_count c ≡ false → OpensNone ts
own_opens_none [] c e other = no_some e
own_opens_none (t ∷ ts) c e other = by (command_good.tells (t ∷ ts)) where
  by : Tells command (t ∷ ts) → OpensNone (t ∷ ts)
  by (inl h) = no_some (sym (read_ok (command (t ∷ ts)) h) ∙ e)
  by (inr (inl h)) = absurd (true≢false (sym (ap is_count (same_Some c causes.Count (sym e ∙ ap (λ r. reading (made_by Some r)) h.is))) ∙ other))
  by (inr (inr h)) = λ more. ap is_ok (h.always more)

-- a token is missing: another one is at fault there
pub lacking_opens : (ts : List Text) → cause_at ts ≡ Some causes.Count → is_own (cause_at (ts ++ probe ∷ [])) ≡ true → Opens ts
lacking_opens [] e own = begun
lacking_opens (t ∷ ts) e owned = by (command_good.tells (t ∷ ts)) where
  by : Tells command (t ∷ ts) → Opens (t ∷ ts)
  by (inl h) = ([], ap (λ us. is_ok (command us)) (same_end (t ∷ ts)) ∙ h)
  by (inr (inl h)) = (h.more, h.completes)
  by (inr (inr h)) =
      let here : of_line h.cause ≡ Some causes.Count = sym (ap (λ r. reading (made_by Some r)) (always_here (t ∷ ts) h)) ∙ e in
      let there : cause_at (t ∷ (ts ++ probe ∷ [])) ≡ of_line h.cause = ap (λ r. reading (made_by Some r)) (h.always (probe ∷ [])) in
      absurd (true≢false (sym owned ∙ ap is_own (there ∙ here)))

-- one is left over: another one is as well
pub left_over_opens_none : (ts : List Text) → cause_at ts ≡ Some causes.Count → is_own (cause_at (ts ++ probe ∷ [])) ≡ false → OpensNone ts
left_over_opens_none [] e other = no_some e
left_over_opens_none (t ∷ ts) e other = by (command_good.tells (t ∷ ts)) where
  by : Tells command (t ∷ ts) → OpensNone (t ∷ ts)
  by (inl h) = no_some (sym (read_ok (command (t ∷ ts)) h) ∙ e)
  by (inr (inl h)) =
      let there : cause_at (t ∷ (ts ++ probe ∷ [])) ≡ Some h.cause = ap (λ r. reading (made_by Some r)) h.stops ∙ own_of_line h.cause h.owned in
      absurd (true≢false (sym (ap is_own there ∙ own_some h.cause h.owned) ∙ other))
  by (inr (inr h)) = λ more. ap is_ok (h.always more)

-- what both causes tell of a text
pub decides : (text : Text) (b : Bool) → IsShort text → b ≡ opens_by (cause_in (script_of text)) (cause_in (script_of (text ++ codes " ?")))
    → MatchBool b (Opens (tokens_of text)) (IsShort text → OpensNone (tokens_of text))
decides text b h e = by b (cause_at (tokens_of text)) refl (e ∙ (λ i. opens_by (short_script text h i) (probed_script text h i))) where
  by : (b : Bool) (o : Option Cause) → cause_at (tokens_of text) ≡ o → b ≡ opens_by o (cause_at (tokens_of text ++ probe ∷ []))
      → MatchBool b (Opens (tokens_of text)) (IsShort text → OpensNone (tokens_of text))
  by true None is e = none_opens (tokens_of text) is
  by true (Some causes.Count) is e = lacking_opens (tokens_of text) is (sym e)
  by false (Some causes.Count) is e = λ s. left_over_opens_none (tokens_of text) is (sym e)
  by false (Some causes.Byte) is e = λ s. own_opens_none (tokens_of text) causes.Byte is refl
  by false (Some causes.Word) is e = λ s. own_opens_none (tokens_of text) causes.Word is refl
  by false (Some causes.Name) is e = λ s. own_opens_none (tokens_of text) causes.Name is refl
  by false (Some causes.Number) is e = λ s. own_opens_none (tokens_of text) causes.Number is refl
  by false (Some causes.Place) is e = λ s. own_opens_none (tokens_of text) causes.Place is refl
  by false (Some causes.Long) is e = λ s. own_opens_none (tokens_of text) causes.Long is refl
  by false None is e = absurd (true≢false (sym e))
  by true (Some causes.Byte) is e = absurd (true≢false e)
  by true (Some causes.Word) is e = absurd (true≢false e)
  by true (Some causes.Name) is e = absurd (true≢false e)
  by true (Some causes.Number) is e = absurd (true≢false e)
  by true (Some causes.Place) is e = absurd (true≢false e)
  by true (Some causes.Long) is e = absurd (true≢false e)
