use Rattle.std.proofs.Common.{◌≡◌, ◌++◌, drop}
use Rattle.mem_base.specs.script.SpotLines.{range_lines}
use Rattle.script_names.specs.Tables.{printed_names}
use Rattle.race_lines.proofs.lists.add_range_lines.Given as goal

abbrev pub invariant-loop-range : goal.invariant-loop-range
invariant-loop-range l =
    l.line ++ range_lines (printed_names l.names) (drop l.range-index l.ranges) ≡ l.fn.line ++ range_lines (printed_names l.names) l.ranges
