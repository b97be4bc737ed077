use Rattle.std.proofs.Common.{◌≡◌, ◌++◌, drop}
use Rattle.mem_base.specs.script.Output.{told_lines}
use Rattle.script_names.specs.Tables.{printed_names}
use Rattle.race_lines.proofs.lists.add_told_lines.Given as goal

abbrev pub invariant-loop-listener : goal.invariant-loop-listener
invariant-loop-listener l =
    l.line ++ told_lines (printed_names l.names) (drop l.listener-index l.told) ≡ l.fn.line ++ told_lines (printed_names l.names) l.told
