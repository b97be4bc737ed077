use Rattle.std.proofs.Common.{◌+◌, ℕ, sym, subst, ◌∙◌}
use Rattle.view_picture.proofs.RowLaws.{RowsSoFar, closed_ranges, closed_tiles, open_ranges, open_tiles, row_more}
use Rattle.view_picture.proofs.rows.rows_of.Goals as goal
use Rattle.view_picture.proofs.rows.rows_of.Goals.{then-next+in_ok-push, else-next}

pub loop-range-preserved : goal.loop-range-preserved
loop-range-preserved c =
    subst (λ (n : ℕ). RowsSoFar c.as_slice-range-items.result.now (c.loop-range.range-index + 1) (n + 1) c.add_range.new.rows.items)
    (sym c.from-next.ensures)
    (row_more c.as_slice-range-items.result.now c.loop-range.range-index c.loop-range.next c.loop-range.rows.items c.add_range.new.rows.items _
    c.loop-range-test.true c.loop-range.invariant c.in_ok-add_range.ensures)

pub returns-clause-tiles : goal.returns-clause-tiles
returns-clause-tiles c = elim c.if-next.branch [
  | then-next+in_ok-push w ↦ rw w.rows-is (open_tiles c.as_slice-range-items.result.now c.loop-range.range-index c.loop-range.next
      c.loop-range.rows.items _ c.loop-range.invariant w.if-next.true w.in_ok-push.ensures.items)
  | else-next w ↦ rw w.rows-is (closed_tiles c.as_slice-range-items.result.now c.loop-range.range-index c.loop-range.next
      c.loop-range.rows.items c.loop-range-test.false c.loop-range.invariant w.if-next.false)
]

pub returns-clause-ranges : goal.returns-clause-ranges
returns-clause-ranges c = elim c.if-next.branch [
  | then-next+in_ok-push w ↦ rw w.rows-is (open_ranges c.as_slice-range-items.result.now c.loop-range.range-index c.loop-range.next
      c.loop-range.rows.items _ c.loop-range-test.false c.loop-range.invariant w.in_ok-push.ensures.items ∙ c.as_slice-range-items.ensures.value)
  | else-next w ↦ rw w.rows-is (closed_ranges c.as_slice-range-items.result.now c.loop-range.range-index c.loop-range.next
      c.loop-range.rows.items c.loop-range-test.false c.loop-range.invariant ∙ c.as_slice-range-items.ensures.value)
]
