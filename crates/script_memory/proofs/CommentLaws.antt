-- The lines of a text, one after another.
use Rattle.std.proofs.Common.{◌≡◌, ◌==◌, ◌+◌, ℕ, Bool, List, [], ◌∷◌, ◌++◌, Some, None, append_assoc, map, take, drop, position, sym, ap, ◌∙◌}
use Rattle.std.specs.List.{slice_split}
use Rattle.mem_base.specs.script.Spelling.{Text}
use Rattle.script_text.proofs.Cuts.{split_first, split_none}

-- what is told of the first line of a text, and then of the rest
pub lines_next : (f : Text → Bool) (k : ℕ) (text : Text) (old new whole : List Bool) → position (λ b. b == 10) text ≡ Some k
    → new ≡ old ++ f (take k text) ∷ [] → old ++ map f (slice_split (λ b. b == 10) text) ≡ whole
    → new ++ map f (slice_split (λ b. b == 10) (drop (k + 1) text)) ≡ whole
lines_next f k text old new whole e n h =
    let rest : List Bool = map f (slice_split (λ b. b == 10) (drop (k + 1) text)) in
    ap (λ (xs : List Bool). xs ++ rest) n ∙ append_assoc old (f (take k text) ∷ []) rest
    ∙ ap (λ (lines : List Text). old ++ map f lines) (sym (split_first (λ b. b == 10) k text e)) ∙ h

-- and of the last line
pub lines_last : (f : Text → Bool) (text : Text) (old new whole : List Bool) → position (λ b. b == 10) text ≡ None
    → new ≡ old ++ f text ∷ [] → old ++ map f (slice_split (λ b. b == 10) text) ≡ whole → new ≡ whole
lines_last f text old new whole e n h =
    n ∙ ap (λ (lines : List Text). old ++ map f lines) (sym (split_none (λ b. b == 10) text e)) ∙ h
