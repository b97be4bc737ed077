use Rattle.view_picture.proofs.RowLaws.{RowsSoFar}
use Rattle.view_picture.proofs.rows.rows_of.Given as goal

abbrev pub invariant-loop-range : goal.invariant-loop-range
invariant-loop-range l = RowsSoFar l.range-items l.range-index l.next l.rows.items
