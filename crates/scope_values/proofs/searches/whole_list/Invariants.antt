use Rattle.std.proofs.Common.{◌≡◌, ◌++◌, drop}
use Rattle.std.specs.Prelude.{map}
use Rattle.json_build.specs.Held.{values}
use Rattle.script_names.specs.Tables.{printed_names}
use Rattle.scope_values.specs.Searches.{search_data}
use Rattle.scope_values.proofs.searches.whole_list.Given as goal

abbrev pub invariant-loop-hop : goal.invariant-loop-hop
invariant-loop-hop l = values l.items ++ map (search_data (printed_names l.names)) (drop l.hop-index l.hops) ≡ map (search_data (printed_names l.names)) l.hops
