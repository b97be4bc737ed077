use Rattle.std.proofs.Common.{◌≡◌, ◌++◌, drop}
use Rattle.std.specs.Prelude.{map}
use Rattle.json_build.specs.Held.{values}
use Rattle.script_names.specs.Tables.{printed_names}
use Rattle.scope_values.specs.Rows.{row_data}
use Rattle.scope_values.proofs.rows.row_list.Given as goal

abbrev pub invariant-loop-row : goal.invariant-loop-row
invariant-loop-row l = values l.items ++ map (row_data (printed_names l.names)) (drop l.row-index l.rows) ≡ map (row_data (printed_names l.names)) l.rows
