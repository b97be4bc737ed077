-- A line that is printed in single spaces is read as its tokens.
use Rattle.std.proofs.Common.{◌≡◌, ◌==◌, ◌-◌, ◌&&◌, ℕ, List, [], ◌∷◌, Bool, true, false, not, cond, nat_lt, Some, None, Ok, Err, refl}
use Rattle.std.proofs.Common.{ap, ◌∙◌, subst, arith, length, take, filter}
use Rattle.std.specs.List.{All, list_all, position_or_len}
use Rattle.std.proofs.lemmas.Bool.Decides.{nat_tests}
use Rattle.std.proofs.lemmas.List.Elements.{All-cons, All-nil}
use Rattle.std.proofs.lemmas.List.Folds.{list_all-append}
use Rattle.std.proofs.lemmas.List.Splits.{slice_split_at, slice_split_none}
use Rattle.std.proofs.lemmas.List.{take_all}
use Rattle.std.proofs.lemmas.Option.{none-some, same_Some}
use Rattle.mem_base.specs.declared.script.faults.Cause.TheVariants.{Byte}
use Rattle.mem_base.specs.declared.script.commands.Command.{Command}
use Rattle.mem_base.specs.script.Spelling.{Text, between, last_of}
use Rattle.mem_base.specs.script.Forms.{command}
use Rattle.mem_base.specs.script.Operands.{made_by}
use Rattle.mem_base.specs.script.Lines.{command_or_blank, has_bytes, is_gap, is_return, line_of, may_stand, tokens_of, uncommented, without_return}
use Rattle.mem_base.specs.script.Printing.{command_tokens, spaced}
use Rattle.script_laws.proofs.Tokens.{are_tokens, is_graphic, is_token, list_all-more}
use Rattle.script_laws.proofs.Numerals.{last_step}
use Rattle.script_laws.proofs.Reading.{Outcome, no_ok, same_Ok}
use Rattle.script_laws.proofs.CommandLaws.{Reads, command_again}
use Rattle.std.proofs.lemmas.Bool.{not-true, and_parts, and_from}

-- a byte of a printed line
abbrev pub is_plain : ℕ → Bool
is_plain b = between 32 126 b && not (b == 35)

graphic-plain : (b : ℕ) → is_graphic b ≡ true → is_plain b ≡ true
graphic-plain b h = grind (arith, nat_tests)

spaced_plain : (ts : List Text) → are_tokens ts ≡ true → list_all is_plain (spaced ts) ≡ true
spaced_plain [] all = refl
spaced_plain (t ∷ []) all = list_all-more is_graphic is_plain graphic-plain t
    (and_parts (nat_lt 0 (length t)) (list_all is_graphic t) (and_parts (is_token t) true all).0).1
spaced_plain (t ∷ u ∷ us) all =
    let both = and_parts (is_token t) (are_tokens (u ∷ us)) all in
    list_all-append is_plain t (32 ∷ spaced (u ∷ us))
    ∙ and_from (list_all is_plain t) (list_all is_plain (32 ∷ spaced (u ∷ us)))
    (list_all-more is_graphic is_plain graphic-plain t (and_parts (nat_lt 0 (length t)) (list_all is_graphic t) both.0).1) (spaced_plain (u ∷ us) both.1)

-- nothing that passes is found
none_found : (p : ℕ → Bool) (xs : List ℕ) → list_all (λ b. not (p b)) xs ≡ true → position_or_len p xs ≡ length xs
none_found p [] h = refl
none_found p (x ∷ xs) h =
    let both = and_parts (not (p x)) (list_all (λ b. not (p b)) xs) h in
    let rest = none_found p xs both.1 in
    rw both.0 (omega (arith, rest))

-- none passes, by index
pub none_pass : (p : ℕ → Bool) (xs : List ℕ) → list_all (λ b. not (p b)) xs ≡ true → All (λ b. p b ≡ false) xs
none_pass p [] h = All-nil (λ b. p b ≡ false)
none_pass p (x ∷ xs) h =
    let both = and_parts (not (p x)) (list_all (λ b. not (p b)) xs) h in
    All-cons (λ b. p b ≡ false) x xs (not-true (p x) both.0) (none_pass p xs both.1)

pub no_hash : (b : ℕ) → is_plain b ≡ true → not (b == 35) ≡ true
no_hash b h = grind (arith, nat_tests)

pub stands : (b : ℕ) → is_plain b ≡ true → may_stand b ≡ true
stands b h = grind (arith, nat_tests)

pub no_feed : (b : ℕ) → is_plain b ≡ true → not (b == 10) ≡ true
no_feed b h = grind (arith, nat_tests)

no_gap : (b : ℕ) → is_graphic b ≡ true → not (is_gap b) ≡ true
no_gap b h = grind (arith, nat_tests)

no_return : (b : ℕ) → is_plain b ≡ true → (b == 13) ≡ false
no_return b h = grind (arith, nat_tests)

one_left : (b : ℕ) → last_of (b ∷ []) ≡ Some b
one_left b = refl

-- a plain line has no comment and no carriage return
uncommented_plain : (line : Text) → list_all is_plain line ≡ true → uncommented line ≡ line
uncommented_plain line h =
    ap (λ n. take n line) (none_found (λ b. b == 35) line (list_all-more is_plain (λ b. not (b == 35)) no_hash line h))
    ∙ take_all (length line) line (omega arith)

last_plain : (line : Text) → list_all is_plain line ≡ true → is_return (last_of line) ≡ false
last_plain [] h = refl
last_plain (b ∷ []) h = ap is_return (one_left b) ∙ no_return b (and_parts (is_plain b) true h).0
last_plain (b ∷ c ∷ cs) h = ap is_return (last_step b c cs) ∙ last_plain (c ∷ cs) (and_parts (is_plain b) (list_all is_plain (c ∷ cs)) h).1

without_return_plain : (line : Text) → list_all is_plain line ≡ true → without_return line ≡ line
without_return_plain line h = ap (λ b. cond b (take (length line - 1) line) line) (last_plain line h)

no_gaps : (t : Text) → is_token t ≡ true → All (λ b. is_gap b ≡ false) t
no_gaps t h = none_pass is_gap t (list_all-more is_graphic (λ b. not (is_gap b)) no_gap t (and_parts (nat_lt 0 (length t)) (list_all is_graphic t) h).1)

bytes_there : (t : Text) → is_token t ≡ true → has_bytes t ≡ true
bytes_there t h = (and_parts (nat_lt 0 (length t)) (list_all is_graphic t) h).0

-- tokens between single spaces are read as they were
spaced_reads : (ts : List Text) → are_tokens ts ≡ true → tokens_of (spaced ts) ≡ ts
spaced_reads [] all = refl
spaced_reads (t ∷ []) all =
    let here = (and_parts (is_token t) true all).0 in
    ap (filter has_bytes) (slice_split_none is_gap t (no_gaps t here)) ∙ rw (bytes_there t here) refl
spaced_reads (t ∷ u ∷ us) all =
    let both = and_parts (is_token t) (are_tokens (u ∷ us)) all in
    ap (filter has_bytes) (slice_split_at is_gap t 32 (spaced (u ∷ us)) (no_gaps t both.0) refl)
    ∙ rw (bytes_there t both.0) (ap (λ ts. t ∷ ts) (spaced_reads (u ∷ us) both.1))

blank_or : (ts : List Text) (c : Command) → command ts ≡ Ok c → command_or_blank ts ≡ Ok (Some c)
blank_or [] c e = no_ok e
blank_or (word ∷ t) c e = ap (made_by Some) e

-- a printed line is its command
pub printed_line : (c : Command) → Reads c → line_of (without_return (spaced (command_tokens c))) ≡ Ok (Some c)
printed_line c r =
    let text : Text = spaced (command_tokens c) in
    let plain : list_all is_plain text ≡ true = spaced_plain (command_tokens c) r.0 in
    let stand : list_all may_stand text ≡ true = list_all-more is_plain may_stand stands text plain in
    ap line_of (without_return_plain text plain)
    ∙ ap (λ u. cond (list_all may_stand u) (command_or_blank (tokens_of u)) (Err Byte)) (uncommented_plain text plain)
    ∙ ap (λ b. cond b (command_or_blank (tokens_of text)) (Err Byte)) stand
    ∙ ap command_or_blank (spaced_reads (command_tokens c) r.0)
    ∙ blank_or (command_tokens c) c r.1

-- it has no line feed
pub printed_feeds : (c : Command) → Reads c → All (λ b. (b == 10) ≡ false) (spaced (command_tokens c))
printed_feeds c r =
    none_pass (λ b. b == 10) (spaced (command_tokens c))
    (list_all-more is_plain (λ b. not (b == 10)) no_feed (spaced (command_tokens c)) (spaced_plain (command_tokens c) r.0))

-- the command of a line that was read
of_tokens : (ts : List Text) (c : Command) → command_or_blank ts ≡ Ok (Some c) → Reads c
of_tokens [] c e = absurd (none-some c (same_Ok None (Some c) (Ok None) refl e))
of_tokens (word ∷ t) c e = by (command (word ∷ t)) refl e
  where
    by : (o : Outcome Command) → command (word ∷ t) ≡ o → made_by Some o ≡ Ok (Some c) → Reads c
    by (Err x) is e = no_ok e
    by (Ok d) is e = subst Reads (same_Some d c (same_Ok (Some d) (Some c) (Ok (Some d)) refl e)) (command_again (word ∷ t) d is)

pub read_line : (line : Text) (c : Command) → line_of line ≡ Ok (Some c) → Reads c
read_line line c e = by (list_all may_stand (uncommented line)) e
  where
    by : (b : Bool) → cond b (command_or_blank (tokens_of (uncommented line))) (Err Byte) ≡ Ok (Some c) → Reads c
    by true e = of_tokens (tokens_of (uncommented line)) c e
    by false e = no_ok e
