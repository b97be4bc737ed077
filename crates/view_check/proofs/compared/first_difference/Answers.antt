use Rattle.std.proofs.Common.{rules, ◌≡◌, ◌≤◌, length, sym, arith}
use Rattle.std.proofs.lemmas.Option.{get_or_from_slice_get}
use Rattle.script_names.specs.Tables.{printed_names}
use Rattle.view_check.proofs.ShownLaws.{found_here, next_shown, rows_differ, same_at_end, view_differs}
use Rattle.view_check.proofs.compared.first_difference.Goals as goal
use Rattle.view_check.proofs.compared.first_difference.Goals.{then-loop-at-test+else-at-view, else-loop-at-test}

pub returns-then-not-branch-clause-first : goal.returns-then-not-branch-clause-first
returns-then-not-branch-clause-first c =
    sym (found_here (printed_names c.args.names.now) c.args.memory.now c.loop-at.at c.args.rows.now c.args.view.now c.row_at-row.result.now
    c.range_at-range.result.now _ c.loop-at-test.true c.if-at-view.true
    (sym (get_or_from_slice_get c.args.rows.now c.loop-at.at _ c.row_at-row.result.now c.row_at-row.ensures))
    (sym (get_or_from_slice_get c.args.view.now c.loop-at.at _ c.range_at-range.result.now c.range_at-range.ensures))
    (search rules) c.loop-at.invariant.rest)

pub loop-at-preserved : goal.loop-at-preserved
loop-at-preserved c = record {
  rows = omega (arith, c.loop-at-test.true);
  view = omega (arith, c.if-at-view.true);
  rest = next_shown (printed_names c.args.names.now) c.args.memory.now c.loop-at.at c.args.rows.now c.args.view.now c.row_at-row.result.now
      c.range_at-range.result.now _ c.loop-at-test.true c.if-at-view.true
      (sym (get_or_from_slice_get c.args.rows.now c.loop-at.at _ c.row_at-row.result.now c.row_at-row.ensures))
      (sym (get_or_from_slice_get c.args.view.now c.loop-at.at _ c.range_at-range.result.now c.range_at-range.ensures))
      (search rules) c.loop-at.invariant.rest;
}

pub returns-then-rows-view-clause-same : goal.returns-then-rows-view-clause-same
returns-then-rows-view-clause-same c =
    let h = c.loop-at.invariant.rest in
    let equal : length c.args.rows.now ≡ length c.args.view.now = c.if-rows-view.true in
    elim c.loop-at-test.branch [
      | then-loop-at-test+else-at-view w ↦ λ e. same_at_end (printed_names c.args.names.now) c.args.memory.now c.loop-at.at c.args.rows.now c.args.view.now
          (omega (arith, equal, w.if-at-view.false)) (omega (arith, w.if-at-view.false)) h
      | else-loop-at-test w ↦ λ e. same_at_end (printed_names c.args.names.now) c.args.memory.now c.loop-at.at c.args.rows.now c.args.view.now
          (omega (arith, w.loop-at-test.false)) (omega (arith, equal, w.loop-at-test.false)) h
    ]

pub returns-else-rows-view-clause-first : goal.returns-else-rows-view-clause-first
returns-else-rows-view-clause-first c =
    let h = c.loop-at.invariant.rest in
    let rows : c.loop-at.at ≤ length c.args.rows.now = c.loop-at.invariant.rows in
    let view : c.loop-at.at ≤ length c.args.view.now = c.loop-at.invariant.view in
    let differ = c.if-rows-view.false in
    elim c.loop-at-test.branch [
      | then-loop-at-test+else-at-view w ↦ view_differs (printed_names c.args.names.now) c.args.memory.now c.loop-at.at c.args.rows.now
          c.args.view.now w.loop-at-test.true
          (omega (arith, w.if-at-view.false)) h
      | else-loop-at-test w ↦ rows_differ (printed_names c.args.names.now) c.args.memory.now c.loop-at.at c.args.rows.now
          c.args.view.now (omega (arith, w.loop-at-test.false))
          (omega (arith, w.loop-at-test.false, differ, rows, view)) h
    ]
