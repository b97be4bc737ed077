-- A text that is cut at the first byte which passes a test, and the tokens of a text that is cut at a space or a tab.
use Rattle.std.proofs.Common.{◌≡◌, ◌<◌, ◌≤◌, ◌+◌, ℕ, List, [], ◌∷◌, Bool, true, false, cond, length, take, drop, position, filter, refl}
use Rattle.std.proofs.Common.{sym, ap, ◌∙◌, arith, None, Some}
use Rattle.std.specs.List.{slice_split, position_or_len}
use Rattle.std.proofs.lemmas.Bool.{lt-ltb, ltb-true, ltb-false}
use Rattle.std.proofs.lemmas.Option.{cond_some}
use Rattle.std.proofs.lemmas.List.{length-take-le}
use Rattle.std.proofs.lemmas.List.Elements.{All-from_get_or}
use Rattle.std.proofs.lemmas.List.Sums.{fails_before_first}
use Rattle.std.proofs.lemmas.List.Splits.{slice_split_first, slice_split_none}
use Rattle.std.proofs.Math.Dec.{ltb}
use Rattle.std.proofs.Math.Seq.{drop-length, take-length}
use Rattle.mem_base.specs.script.Spelling.{Text}
use Rattle.mem_base.specs.script.Lines.{has_bytes, is_gap, tokens_of}

within_first : (p : ℕ → Bool) (k : ℕ) (text : Text) → position p text ≡ Some k → (position_or_len p text < length text) × (position_or_len p text ≡ k)
within_first p k text e =
    let at = cond_some (ltb (position_or_len p text) (length text)) (position_or_len p text) k e in
    (ltb-true _ _ at.0, at.1)

pub split_first : (p : ℕ → Bool) (k : ℕ) (text : Text) → position p text ≡ Some k
    → slice_split p text ≡ take k text ∷ slice_split p (drop (k + 1) text)
split_first p k text e =
    let at = within_first p k text e in
    slice_split_first p text 0 at.0 ∙ ap (λ n. take n text ∷ slice_split p (drop (n + 1) text)) at.1

none_is_false : (b : Bool) (n : ℕ) → cond b (Some n) None ≡ None → b ≡ false
none_is_false true n e = cc
none_is_false false n e = refl

pub split_none : (p : ℕ → Bool) (text : Text) → position p text ≡ None → slice_split p text ≡ text ∷ []
split_none p text e =
    let beyond : length text ≤ position_or_len p text = ltb-false _ _ (none_is_false (ltb (position_or_len p text) (length text)) (position_or_len p text) e) in
    slice_split_none p text (All-from_get_or (λ x. p x ≡ false) text 0 (λ i h. fails_before_first p text i 0 (omega arith)))

kept : (token : Text) (parts : List Text) → 0 < length token → filter has_bytes (token ∷ parts) ≡ token ∷ filter has_bytes parts
kept token parts some = ap (λ b. cond b (token ∷ filter has_bytes parts) (filter has_bytes parts)) (lt-ltb 0 (length token) some)

-- a space or a tab at the start is passed over
pub gap_first : (k : ℕ) (text : Text) → position is_gap text ≡ Some k → k ≤ 0 → tokens_of text ≡ tokens_of (drop (k + 1) text)
gap_first k text e none =
    let zero : k ≡ 0 = omega (arith, none) in
    ap (filter has_bytes) (split_first is_gap k text e)
    ∙ ap (λ n. filter has_bytes (take n text ∷ slice_split is_gap (drop (k + 1) text))) zero

-- a token is what stands before the first space or tab
pub token_first : (k : ℕ) (text : Text) → position is_gap text ≡ Some k → 0 < k → tokens_of text ≡ take k text ∷ tokens_of (drop (k + 1) text)
token_first k text e some =
    let at = within_first is_gap k text e in
    ap (filter has_bytes) (split_first is_gap k text e)
    ∙ kept (take k text) (slice_split is_gap (drop (k + 1) text)) (omega (arith, some, length-take-le k text (omega (arith, at.0, at.1))))

-- the last token has no space after it
pub token_last : (text : Text) → position is_gap text ≡ None → 0 < length text → tokens_of text ≡ text ∷ []
token_last text e some = ap (filter has_bytes) (split_none is_gap text e) ∙ kept text [] some

-- the last token, and nothing after it
pub whole : (text front back : Text) → front ≡ take (length text) text → back ≡ drop (length text) text → (text ∷ []) ≡ front ∷ tokens_of back
whole text front back is none =
    ap (λ t. t ∷ []) (sym (take-length text) ∙ sym is) ∙ ap (λ t. front ∷ tokens_of t) (sym (drop-length text) ∙ sym none)
