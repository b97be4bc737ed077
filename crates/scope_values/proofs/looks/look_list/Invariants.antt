use Rattle.std.proofs.Common.{◌≡◌, ◌++◌, drop}
use Rattle.std.specs.Prelude.{map}
use Rattle.json_build.specs.Held.{values}
use Rattle.script_names.specs.Tables.{printed_names}
use Rattle.scope_values.specs.Searches.{look_data}
use Rattle.scope_values.proofs.looks.look_list.Given as goal

abbrev pub invariant-loop-look : goal.invariant-loop-look
invariant-loop-look l = values l.items ++ map (look_data (printed_names l.names)) (drop l.look-index l.looks) ≡ map (look_data (printed_names l.names)) l.looks
