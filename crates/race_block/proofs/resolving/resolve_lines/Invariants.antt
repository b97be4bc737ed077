use Rattle.std.proofs.Common.{take, All}
use Rattle.race_block.specs.Desks.{lines_meant}
use Rattle.race_block.specs.Lines.{FitsLine}
use Rattle.race_block.specs.Resolving.{AreTasksOf, copy_room}
use Rattle.race_block.proofs.resolving.resolve_lines.Given as goal

abbrev pub invariant-loop-line : goal.invariant-loop-line
invariant-loop-line l = AreTasksOf l.known (lines_meant (take l.line-index l.lines)) l.own.items × All (FitsLine copy_room) l.own.items
