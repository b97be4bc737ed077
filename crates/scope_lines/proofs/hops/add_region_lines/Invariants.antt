use Rattle.std.proofs.Common.{◌≡◌, ◌++◌, drop}
use Rattle.std.specs.Prelude.{flat_map}
use Rattle.script_names.specs.Tables.{printed_names}
use Rattle.scope_lines.specs.Whys.{concern_of}
use Rattle.scope_lines.proofs.hops.add_region_lines.Given as goal

abbrev pub invariant-loop-hop : goal.invariant-loop-hop
invariant-loop-hop l =
    l.line ++ flat_map (concern_of (printed_names l.names) l.region) (drop l.hop-index l.all)
    ≡ l.fn.line ++ flat_map (concern_of (printed_names l.names) l.region) l.all
