-- A script that was read, printed, reads as the same commands on lines 1, 2, 3 and so on.
use Rattle.std.proofs.Common.{◌≡◌, ◌==◌, ◌<◌, ◌≤◌, ◌+◌, ℕ, List, [], ◌∷◌, Bool, true, false, cond, nat_le, Option, Some, None, Result, Ok}
use Rattle.std.proofs.Common.{Err, is_ok, true≢false, refl, sym, ap, ◌∙◌, subst, arith, length, option_map}
use Rattle.std.specs.List.{slice_split}
use Rattle.std.proofs.lemmas.Bool.{le-leb}
use Rattle.std.proofs.lemmas.List.Splits.{length-slice_split, slice_split_at}
use Rattle.std.proofs.lemmas.Option.{none-some, same_Some}
use Rattle.mem_base.specs.declared.script.faults.BadScript.{BadScript}
use Rattle.mem_base.specs.declared.script.faults.Cause.{Cause}
use Rattle.mem_base.specs.declared.script.faults.Cause.TheVariants as causes
use Rattle.mem_base.specs.declared.script.commands.Command.{Command}
use Rattle.mem_base.specs.declared.script.places.PlaceRule.{PlaceRule}
use Rattle.mem_base.specs.declared.script.places.PlaceRule.TheVariants.{First, OutsideBlock, OpensBlock, ClosesBlock, Anywhere}
use Rattle.mem_base.specs.declared.script.places.Section.{Section}
use Rattle.mem_base.specs.declared.script.places.Section.TheVariants.{Start, Setup, Block, Tail}
use Rattle.mem_base.specs.script.Spelling.{Text}
use Rattle.mem_base.specs.script.Lines.{line_of, without_return}
use Rattle.mem_base.specs.script.Scripts.{Line, Meaning, bad, ends_at, line_then, most_text, placed, placed_then, script_from, script_of, rule_of, with_line}
use Rattle.mem_base.specs.script.Printing.{command_tokens, numbered, printed, spaced}
use Rattle.script_laws.proofs.LineLaws.{printed_feeds, printed_line, read_line}
use Rattle.mem_base.specs.script.Sound.{Sound}

no_lines : {G : Type 0} {fault : BadScript} {lines : List Line} → Err fault ≡ Ok lines → G
no_lines e = absurd (true≢false (sym (ap is_ok e)))

abbrev lines_or : Meaning → List Line
lines_or (Ok lines) = lines
lines_or (Err fault) = []

abbrev is_feed : ℕ → Bool
is_feed b = b == 10

-- What is read is sound

end_sound : (section : Section) (lines : List Line) → ends_at section ≡ Ok lines → Sound section lines
end_sound Start lines e = subst (Sound Start) (ap lines_or e) refl
end_sound Setup lines e = subst (Sound Setup) (ap lines_or e) refl
end_sound (Block par) lines e = no_lines e
end_sound Tail lines e = subst (Sound Tail) (ap lines_or e) refl

line_sound : (section : Section) (n : ℕ) (text : Text) (rest : Section → Meaning) (lines : List Line)
    → ((next : Section) (more : List Line) → rest next ≡ Ok more → Sound next more)
    → line_then section n (line_of text) rest ≡ Ok lines → Sound section lines
line_sound section n text rest lines sound e = by (line_of text) refl e
  where
    onto : (c : Command) (next : Section) → line_of text ≡ Ok (Some c) → placed n section (rule_of c) ≡ Some next
        → (o : Meaning) → rest next ≡ o → with_line (n, c) o ≡ Ok lines → Sound section lines
    onto c next is at (Err fault) r e = no_lines e
    onto c next is at (Ok more) r e = subst (Sound section) (ap lines_or e) (read_line text c is, (next, at, sound next more r))

    place : (c : Command) → line_of text ≡ Ok (Some c) → (o : Option Section) → placed n section (rule_of c) ≡ o → placed_then n c o rest ≡ Ok lines →
        Sound section lines
    place c is None at e = no_lines e
    place c is (Some next) at e = onto c next is at (rest next) refl e

    by : (o : Result (Option Command) Cause) → line_of text ≡ o → line_then section n o rest ≡ Ok lines → Sound section lines
    by (Err cause) is e = no_lines e
    by (Ok None) is e = sound section lines e
    by (Ok (Some c)) is e = place c is (placed n section (rule_of c)) refl e

pub from_sound : (parts : List Text) (section : Section) (n : ℕ) (lines : List Line) → script_from section n parts ≡ Ok lines → Sound section lines
from_sound [] section n lines e = end_sound section lines e
from_sound (part ∷ []) section n lines e = line_sound section n part ends_at lines end_sound e
from_sound (part ∷ next ∷ parts) section n lines e =
    line_sound section n (without_return part) (λ s. script_from s (n + 1) (next ∷ parts)) lines (λ s more r. from_sound (next ∷ parts) s (n + 1) more r) e

pub script_sound : (text : Text) (lines : List Line) → script_of text ≡ Ok lines → Sound Start lines
script_sound text lines e = by (nat_le (length text) most_text) e
  where
    by : (b : Bool) → cond b (script_from Start 1 (slice_split is_feed text)) (bad 0 causes.Long) ≡ Ok lines → Sound Start lines
    by true e = from_sound (slice_split is_feed text) Start 1 lines e
    by false e = no_lines e

-- What is sound is printed as a script

-- the section without the line of its `par`
abbrev forget : Section → Section
forget Start = Start
forget Setup = Setup
forget (Block par) = Block 0
forget Tail = Tail

-- the line of a `par` does not matter to what may stand
placed_forgets : (a b : ℕ) (section : Section) (rule : PlaceRule) →
    option_map forget (placed a section rule) ≡ option_map forget (placed b (forget section) rule)
placed_forgets a b Start First = refl
placed_forgets a b Start OutsideBlock = refl
placed_forgets a b Start OpensBlock = refl
placed_forgets a b Start ClosesBlock = refl
placed_forgets a b Start Anywhere = refl
placed_forgets a b Setup First = refl
placed_forgets a b Setup OutsideBlock = refl
placed_forgets a b Setup OpensBlock = refl
placed_forgets a b Setup ClosesBlock = refl
placed_forgets a b Setup Anywhere = refl
placed_forgets a b (Block par) First = refl
placed_forgets a b (Block par) OutsideBlock = refl
placed_forgets a b (Block par) OpensBlock = refl
placed_forgets a b (Block par) ClosesBlock = refl
placed_forgets a b (Block par) Anywhere = refl
placed_forgets a b Tail First = refl
placed_forgets a b Tail OutsideBlock = refl
placed_forgets a b Tail OpensBlock = refl
placed_forgets a b Tail ClosesBlock = refl
placed_forgets a b Tail Anywhere = refl

ends_forgets : (section : Section) → is_ok (ends_at section) ≡ is_ok (ends_at (forget section))
ends_forgets Start = refl
ends_forgets _ = refl

ends_well : (section : Section) → is_ok (ends_at section) ≡ true → ends_at section ≡ Ok []
ends_well (Block par) h = absurd (true≢false (sym h))
ends_well _ h = refl

same_next : (o : Option Section) (next : Section) → option_map forget (Some next) ≡ option_map forget o → (other : Section) × (o ≡ Some other)
    × (forget next ≡ forget other)
same_next None next e = absurd (none-some (forget next) (sym e))
same_next (Some other) next e = (other, refl, same_Some (forget next) (forget other) e)

more : (section : Section) (n : ℕ) (part : Text) (parts : List Text) → 0 < length parts
    → script_from section n (part ∷ parts) ≡ line_then section n (line_of (without_return part)) (λ s. script_from s (n + 1) parts)
more section n part [] some = absurd (omega arith)
more section n part (next ∷ parts) some = refl

pub sound_printed : (lines : List Line) (section other : Section) (n : ℕ) → Sound section lines → forget section ≡ forget other
    → script_from other n (slice_split is_feed (printed lines)) ≡ Ok (numbered n lines)
sound_printed [] section other n sound same =
    ends_well other (ends_forgets other ∙ ap (λ s. is_ok (ends_at s)) (sym same) ∙ sym (ends_forgets section) ∙ ap is_ok sound)
sound_printed (line ∷ lines) section other n sound same =
    let c : Command = line.1 in
    let text : Text = spaced (command_tokens c) in
    let rest : List Text = slice_split is_feed (printed lines) in
    let at = same_next (placed n other (rule_of c)) sound.1.0
    (ap (option_map forget) (sym sound.1.1) ∙ placed_forgets line.0 0 section (rule_of c) ∙ ap (λ s. option_map forget (placed 0 s (rule_of c))) same
    ∙ sym (placed_forgets n 0 other (rule_of c))) in
    ap (script_from other n) (slice_split_at is_feed text 10 (printed lines) (printed_feeds c sound.0) refl)
    ∙ more other n text rest (omega (arith, length-slice_split is_feed (printed lines)))
    ∙ ap (λ o. line_then other n o (λ s. script_from s (n + 1) rest)) (printed_line c sound.0)
    ∙ ap (λ o. placed_then n c o (λ s. script_from s (n + 1) rest)) at.1
    ∙ ap (with_line (n, c)) (sound_printed lines sound.1.0 at.0 (n + 1) sound.1.2 at.2)

pub printed_again : (lines : List Line) → Sound Start lines → length (printed lines) ≤ most_text → script_of (printed lines) ≡ Ok (numbered 1 lines)
printed_again lines sound fits =
    ap (λ b. cond b (script_from Start 1 (slice_split is_feed (printed lines))) (bad 0 causes.Long)) (le-leb (length (printed lines)) most_text fits)
    ∙ sound_printed lines Start Start 1 sound refl
