use Rattle.std.proofs.Common.{rules, ◌≡◌, ◌+◌, ◌==◌, arith, drop, sym, ap, ◌∙◌, Ok, Err, subst}
use Rattle.std.proofs.lemmas.List.{drop-drop}
use Rattle.std.specs.List.{slice_split}
use Rattle.mem_base.specs.script.Lines.{without_return}
use Rattle.script_text.proofs.Parts.{none_from_not_some}
use Rattle.monitor_text.specs.Rows.{tree_line}
use Rattle.monitor_text.specs.Texts.{TakesLine, lines_from}
use Rattle.monitor_text.proofs.LineLaws.{bad_end, bad_line, behind_none, good_end, good_line}
use Rattle.monitor_text.proofs.lines.read_tree.Goals as goal

pub loop-end-init : goal.loop-end-init
loop-end-init c =
    (omega arith, behind_none c.new-lines.result.items (lines_from tree_line 1 (slice_split (λ b. b == 10) c.args.text.now)) (search rules))

pub returns-in-Err : goal.returns-in-Err
returns-in-Err c =
    bad_line tree_line c.in-Err.fault c.loop-end.number c.in-Some.end c.loop-end.rest.now c.loop-end.lines.items c.put_tree.new.lines.items _
    (sym c.line_end.ensures ∙ c.in-Some.is)
    (subst (λ t. TakesLine (Err c.in-Err.fault) c.loop-end.number (tree_line (without_return t)) c.loop-end.lines.items c.put_tree.new.lines.items)
    c.split_at.ensures.front c.in-Err.ensures) c.loop-end.invariant.1

pub loop-end-preserved : goal.loop-end-preserved
loop-end-preserved c =
    let rest : c.split_at-in-Some.result.1.now ≡ drop (c.in-Some.end + 1) c.loop-end.rest.now =
    c.split_at-in-Some.ensures.back ∙ ap (drop 1) c.split_at.ensures.back ∙ drop-drop 1 c.in-Some.end c.loop-end.rest.now in
    let next = good_line tree_line c.loop-end.number c.in-Some.end c.loop-end.rest.now c.loop-end.lines.items c.put_tree.new.lines.items _
    (sym c.line_end.ensures ∙ c.in-Some.is)
    (subst (λ t. TakesLine (Ok tt) c.loop-end.number (tree_line (without_return t)) c.loop-end.lines.items c.put_tree.new.lines.items)
    c.split_at.ensures.front c.in-Ok.ensures) c.loop-end.invariant.1 in
    (omega (arith, c.loop-end.invariant.0, c.split_at-in-Some.ensures.back_len, c.split_at.ensures.back_len), rw rest next)

pub returns-in-Ok-put_tree : goal.returns-in-Ok-put_tree
returns-in-Ok-put_tree c =
    good_end tree_line c.loop-end.number c.loop-end.rest.now c.loop-end.lines.items c.put_tree-2.new.lines _
    (sym c.line_end.ensures ∙ none_from_not_some c.line_end.result c.in_default.not-Some) c.in-Ok-put_tree.ensures c.loop-end.invariant.1

pub returns-in-Err-put_tree : goal.returns-in-Err-put_tree
returns-in-Err-put_tree c =
    bad_end tree_line c.in-Err-put_tree.fault c.loop-end.number c.loop-end.rest.now c.loop-end.lines.items c.put_tree-2.new.lines.items _
    (sym c.line_end.ensures ∙ none_from_not_some c.line_end.result c.in_default.not-Some) c.in-Err-put_tree.ensures c.loop-end.invariant.1
