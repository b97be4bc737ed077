use Rattle.std.proofs.Common.{◌≡◌, ◌++◌, drop}
use Rattle.std.specs.Prelude.{flat_map}
use Rattle.script_names.specs.Tables.{printed_names}
use Rattle.scope_lines.specs.Whys.{hop_lines}
use Rattle.scope_lines.proofs.hops.add_why_lines.Given as goal

abbrev pub invariant-loop-hop : goal.invariant-loop-hop
invariant-loop-hop l =
    l.line ++ flat_map (hop_lines (printed_names l.names)) (drop l.hop-index l.hop-items) ≡ l.fn.line ++ flat_map (hop_lines (printed_names l.names)) l.fn.hops
