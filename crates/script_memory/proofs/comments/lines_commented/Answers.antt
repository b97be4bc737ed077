use Rattle.std.proofs.Common.{◌≡◌, ◌+◌, ◌∷◌, ◌++◌, [], drop, sym, ap, ◌∙◌}
use Rattle.std.proofs.lemmas.List.{drop-drop}
use Rattle.script_text.proofs.Parts.{none_from_not_some}
use Rattle.script_memory.specs.Comments.{is_commented}
use Rattle.script_memory.proofs.CommentLaws.{lines_last, lines_next}
use Rattle.script_memory.proofs.comments.lines_commented.Goals as goal

pub loop-end-preserved : goal.loop-end-preserved
loop-end-preserved c =
    let rest : c.split_at-in-Some.result.1.now ≡ drop (c.in-Some.end + 1) c.loop-end.rest.now =
    c.split_at-in-Some.ensures.back ∙ ap (drop 1) c.split_at.ensures.back ∙ drop-drop 1 c.in-Some.end c.loop-end.rest.now in
    let next = lines_next is_commented c.in-Some.end c.loop-end.rest.now c.loop-end.lines.items c.push-in-Some.new.self.items _
    (sym c.line_end.ensures ∙ c.in-Some.is)
    (c.in_ok-push-2.ensures.items
    ∙ ap (λ b. c.loop-end.lines.items ++ b ∷ []) (c.is_commented.ensures ∙ ap is_commented c.split_at.ensures.front)) c.loop-end.invariant in
    rw rest next

pub returns : goal.returns
returns c =
    lines_last is_commented c.loop-end.rest.now c.loop-end.lines.items c.push-2.new.self.items _
    (sym c.line_end.ensures ∙ none_from_not_some c.line_end.result c.in_default.not-Some)
    (c.in_ok-push-3.ensures.items ∙ ap (λ b. c.loop-end.lines.items ++ b ∷ []) c.is_commented-2.ensures) c.loop-end.invariant
