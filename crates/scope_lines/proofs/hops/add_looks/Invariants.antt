use Rattle.std.proofs.Common.{◌≡◌, ◌++◌, drop}
use Rattle.std.specs.Prelude.{flat_map}
use Rattle.script_names.specs.Tables.{printed_names}
use Rattle.scope_lines.specs.Whys.{look_lines}
use Rattle.scope_lines.proofs.hops.add_looks.Given as goal

abbrev pub invariant-loop-look : goal.invariant-loop-look
invariant-loop-look l =
    l.line ++ flat_map (look_lines (printed_names l.names)) (drop l.look-index l.looks) ≡ l.fn.line ++ flat_map (look_lines (printed_names l.names)) l.looks
