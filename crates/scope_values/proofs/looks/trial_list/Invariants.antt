use Rattle.std.proofs.Common.{◌≡◌, ◌++◌, drop}
use Rattle.std.specs.Prelude.{map}
use Rattle.json_build.specs.Held.{values}
use Rattle.script_names.specs.Tables.{printed_names}
use Rattle.scope_values.specs.Searches.{tried_data}
use Rattle.scope_values.proofs.looks.trial_list.Given as goal

abbrev pub invariant-loop-tried : goal.invariant-loop-tried
invariant-loop-tried l =
    values l.items ++ map (tried_data (printed_names l.names)) (drop l.tried-index l.trials)
    ≡ map (tried_data (printed_names l.names)) l.trials
