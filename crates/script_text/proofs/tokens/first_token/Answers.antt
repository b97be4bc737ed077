use Rattle.std.proofs.Common.{◌≡◌, ◌∷◌, ◌+◌, drop, sym, ap, ◌∙◌, rules}
use Rattle.std.proofs.lemmas.List.{drop-drop}
use Rattle.mem_base.specs.script.Lines.{tokens_of}
use Rattle.script_text.proofs.Cuts.{token_first, token_last, whole}
use Rattle.script_text.proofs.Parts.{none_from_not_some}
use Rattle.script_text.proofs.tokens.first_token.Goals as goal

pub returns-then-end-gt0 : goal.returns-then-end-gt0
returns-then-end-gt0 c =
    let left = c.loop-end.left.now in
    let rest : c.split_at-in-Some.result.1.now ≡ drop (c.in-Some.end + 1) left =
    c.split_at-in-Some.ensures.back ∙ ap (drop 1) c.split_at.ensures.back ∙ drop-drop 1 c.in-Some.end left in
    sym c.loop-end.invariant ∙ token_first c.in-Some.end left (sym c.gap_of.ensures.value ∙ c.in-Some.is) c.if-end-gt0.true
    ∙ ap (λ t. t ∷ tokens_of (drop (c.in-Some.end + 1) left)) (sym c.split_at.ensures.front)
    ∙ ap (λ t. c.split_at.result.0.now ∷ tokens_of t) (sym rest)

pub returns-else-is_empty : goal.returns-else-is_empty
returns-else-is_empty c =
    let left = c.loop-end.left.now in
    sym c.loop-end.invariant
    ∙ token_last left (sym c.gap_of.ensures.value ∙ none_from_not_some c.gap_of.result c.in_default.not-Some) (search rules)
    ∙ whole left c.split_at-else-is_empty.result.0.now c.split_at-else-is_empty.result.1.now (search rules) (search rules)
