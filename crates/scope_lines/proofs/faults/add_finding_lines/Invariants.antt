use Rattle.std.proofs.Common.{◌≡◌, ◌++◌, drop}
use Rattle.std.specs.Prelude.{flat_map}
use Rattle.script_names.specs.Tables.{printed_names}
use Rattle.scope_lines.specs.Faults.{finding_line}
use Rattle.scope_lines.proofs.faults.add_finding_lines.Given as goal

abbrev pub invariant-loop-finding : goal.invariant-loop-finding
invariant-loop-finding l =
    l.line ++ flat_map (finding_line (printed_names l.names)) (drop l.finding-index l.finding-items)
    ≡ l.fn.line ++ flat_map (finding_line (printed_names l.names)) l.fn.findings
