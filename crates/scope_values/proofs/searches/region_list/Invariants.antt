use Rattle.std.proofs.Common.{◌≡◌, ◌++◌, drop}
use Rattle.std.specs.Prelude.{map}
use Rattle.json_build.specs.Held.{values}
use Rattle.script_names.specs.Tables.{printed_names}
use Rattle.scope_values.specs.Searches.{concern_data}
use Rattle.scope_values.proofs.searches.region_list.Given as goal

abbrev pub invariant-loop-hop : goal.invariant-loop-hop
invariant-loop-hop l =
    values l.items ++ map (concern_data (printed_names l.names) l.region) (drop l.hop-index l.hops)
    ≡ map (concern_data (printed_names l.names) l.region) l.hops
