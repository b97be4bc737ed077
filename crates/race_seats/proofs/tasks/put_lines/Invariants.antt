use Rattle.std.proofs.Common.{◌≡◌, ◌+◌, ◌≤◌, ◌++◌, length, take}
use Rattle.std.specs.Prelude.{vec_capacity}
use Rattle.race_block.specs.Desks.{lines_meant}
use Rattle.race_seats.proofs.tasks.put_lines.Given as goal

abbrev pub invariant-loop-line : goal.invariant-loop-line
invariant-loop-line l = (lines_meant l.work.own.items ≡ lines_meant l.fn.work.own.items ++ take l.line-index l.lines)
    × (length l.work.own.items ≡ length l.fn.work.own.items + l.line-index)
    × (length l.fn.work.own.items + length l.lines ≤ vec_capacity l.work.own) × (l.work.bounce ≡ l.fn.work.bounce)
