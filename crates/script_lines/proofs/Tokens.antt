-- Tokens that are written one after another.
use Rattle.std.proofs.Common.{◌≡◌, ◌+◌, ℕ, List, [], ◌∷◌, ◌++◌, append_assoc, length, take, drop, refl, sym, ap, ◌∙◌}
use Rattle.std.proofs.Math.Seq.{drop-append-add, take-append_seam}
use Rattle.mem_base.specs.script.Spelling.{Text}
use Rattle.mem_base.specs.script.Printing.{spaced}
use Rattle.script_lines.specs.Tokens.{after_spaces}

pub after_spaces_append : (a b : List Text) → after_spaces (a ++ b) ≡ after_spaces a ++ after_spaces b
after_spaces_append [] b = refl
after_spaces_append (t ∷ ts) b = ap (λ u. 32 ∷ u) (ap (λ u. t ++ u) (after_spaces_append ts b) ∙ sym (append_assoc t (after_spaces ts) (after_spaces b)))

more : (self : Text) (a rest : List Text) → (self ++ after_spaces a) ++ after_spaces rest ≡ self ++ after_spaces (a ++ rest)
more self a rest = append_assoc self (after_spaces a) (after_spaces rest) ∙ ap (λ u. self ++ u) (sym (after_spaces_append a rest))

pub six_parts : (self kind : Text) (a b c d e f : List Text)
    → (((((self ++ 32 ∷ kind) ++ after_spaces a) ++ after_spaces b) ++ after_spaces c) ++ after_spaces d) ++ after_spaces e ++ after_spaces f
    ≡ self ++ after_spaces (kind ∷ (a ++ (b ++ (c ++ (d ++ (e ++ f))))))
six_parts self kind a b c d e f =
    let s : Text = self ++ 32 ∷ kind in
    more ((((s ++ after_spaces a) ++ after_spaces b) ++ after_spaces c) ++ after_spaces d) e f
    ∙ more (((s ++ after_spaces a) ++ after_spaces b) ++ after_spaces c) d (e ++ f)
    ∙ more ((s ++ after_spaces a) ++ after_spaces b) c (d ++ (e ++ f))
    ∙ more (s ++ after_spaces a) b (c ++ (d ++ (e ++ f)))
    ∙ more s a (b ++ (c ++ (d ++ (e ++ f))))
    ∙ append_assoc self (32 ∷ kind) (after_spaces (a ++ (b ++ (c ++ (d ++ (e ++ f))))))

-- the first token has no space before it
pub spaced_tokens : (t : Text) (ts : List Text) → spaced (t ∷ ts) ≡ t ++ after_spaces ts
spaced_tokens t [] = sym (nil t)
  where
    nil : (xs : Text) → xs ++ [] ≡ xs
    nil [] = refl
    nil (x ∷ xs) = ap (λ ys. x ∷ ys) (nil xs)
spaced_tokens t (u ∷ us) = ap (λ v. t ++ 32 ∷ v) (spaced_tokens u us)

pub spaced_drop : (ts : List Text) → drop 1 (after_spaces ts) ≡ spaced ts
spaced_drop [] = refl
spaced_drop (t ∷ ts) = sym (spaced_tokens t ts)

-- a text and tokens after it, without the space before the first
pub without_space : (text new : Text) (tokens : List Text) (start : ℕ) → start ≡ length text → new ≡ text ++ after_spaces tokens
    → take start new ++ drop (start + 1) new ≡ text ++ spaced tokens
without_space text new tokens start at is =
    ap (λ n. take n new ++ drop (n + 1) new) at
    ∙ ap (λ t. take (length text) t ++ drop (length text + 1) t) is
    ∙ ap (λ t. t ++ drop (length text + 1) (text ++ after_spaces tokens)) (take-append_seam text (after_spaces tokens))
    ∙ ap (λ t. text ++ t) (drop-append-add text (after_spaces tokens) 1 ∙ spaced_drop tokens)
