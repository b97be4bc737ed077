use Rattle.std.proofs.Common.{◌≡◌, ◌++◌, drop}
use Rattle.std.specs.Prelude.{flat_map}
use Rattle.json_build.specs.Held.{values}
use Rattle.script_names.specs.Tables.{printed_names}
use Rattle.scope_values.specs.Searches.{concern}
use Rattle.scope_values.proofs.looks.add_concerns.Given as goal

abbrev pub invariant-loop-tried : goal.invariant-loop-tried
invariant-loop-tried l =
    values l.items ++ flat_map (concern (printed_names l.names) l.region) (drop l.tried-index l.trials)
    ≡ values l.fn.items ++ flat_map (concern (printed_names l.names) l.region) l.trials
