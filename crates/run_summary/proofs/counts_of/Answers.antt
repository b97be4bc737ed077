use Rattle.std.proofs.Common.{◌≡◌, ◌+◌, arith, drop, sym, ap, ◌∙◌}
use Rattle.std.proofs.lemmas.List.{drop-drop}
use Rattle.mem_base.specs.script.Summary.{lines_in}
use Rattle.run_summary.specs.Counted.{after_line, after_lines, counted}
use Rattle.run_summary.proofs.CountLaws.{count_line, counted_all, counted_end, none_from_not_some}
use Rattle.run_summary.proofs.counts_of.Goals as goal

pub loop-end-init : goal.loop-end-init
loop-end-init c =
    let none = ap (λ n. n.lines) c.new-counts.ensures in (
      omega (arith, none),
      ap (λ n. after_lines n (lines_in c.args.text.now)) c.new-counts.ensures
          ∙ counted_all (lines_in c.args.text.now),
    )

pub loop-end-preserved : goal.loop-end-preserved
loop-end-preserved c =
    let found = sym c.line_end.ensures.value ∙ c.in-Some.is in
    let rest : c.split_at-in-Some.result.1.now ≡ drop (c.in-Some.end + 1) c.loop-end.rest.now =
    c.split_at-in-Some.ensures.back ∙ ap (drop 1) c.split_at.ensures.back ∙ drop-drop 1 c.in-Some.end c.loop-end.rest.now in
    let next : c.add.new.self ≡ after_line c.loop-end.counts c.split_at.result.0.now = c.add.ensures in
    let more = ap (λ n. n.lines) next in
    let all = count_line c.loop-end.counts c.loop-end.rest.now c.in-Some.end (counted (lines_in c.args.text.now)) found
    c.loop-end.invariant.1 in (
      omega (arith, more, c.loop-end.invariant.0, c.split_at-in-Some.ensures.back_len, c.split_at.ensures.back_len),
      ap (λ n. after_lines n (lines_in c.split_at-in-Some.result.1.now)) next
          ∙ (λ i. after_lines (after_line c.loop-end.counts (c.split_at.ensures.front i)) (lines_in (rest i))) ∙ all,
    )

pub returns : goal.returns
returns c =
    counted_end c.loop-end.counts c.loop-end.rest.now (counted (lines_in c.args.text.now))
    (sym c.line_end.ensures.value ∙ none_from_not_some c.line_end.result c.in_default.not-Some) c.loop-end.invariant.1
