use Rattle.std.proofs.Common.{◌≡◌, ◌++◌, drop}
use Rattle.mem_base.specs.script.Output.{released_lines}
use Rattle.script_names.specs.Tables.{printed_names}
use Rattle.race_lines.proofs.lists.add_released_lines.Given as goal

abbrev pub invariant-loop-region : goal.invariant-loop-region
invariant-loop-region l =
    l.line ++ released_lines (printed_names l.names) (drop l.region-index l.regions) ≡ l.fn.line ++ released_lines (printed_names l.names) l.regions
