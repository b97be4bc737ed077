use Rattle.std.proofs.Common.{◌≡◌, ◌++◌, drop}
use Rattle.std.specs.Prelude.{map}
use Rattle.json_build.specs.Held.{values}
use Rattle.script_names.specs.Tables.{printed_names}
use Rattle.scope_values.specs.Findings.{finding_data}
use Rattle.scope_values.proofs.findings.finding_list.Given as goal

abbrev pub invariant-loop-finding : goal.invariant-loop-finding
invariant-loop-finding l =
    values l.items ++ map (finding_data (printed_names l.names)) (drop l.finding-index l.finding-items)
    ≡ map (finding_data (printed_names l.names)) l.fn.findings
