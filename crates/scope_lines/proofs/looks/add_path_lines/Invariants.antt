use Rattle.std.proofs.Common.{◌≡◌, ◌≤◌, ◌++◌, ◌+◌, drop}
use Rattle.script_names.specs.Tables.{printed_names}
use Rattle.scope_lines.specs.Whys.{path_lines}
use Rattle.scope_lines.proofs.looks.add_path_lines.Given as goal

abbrev pub invariant-loop-look : goal.invariant-loop-look
invariant-loop-look l = record {
  depth : l.depth ≤ l.look-index + 1;
  text : l.line ++ path_lines (printed_names l.names) l.depth (drop l.look-index l.looks) ≡ l.fn.line ++ path_lines (printed_names l.names) 1 l.looks;
}
