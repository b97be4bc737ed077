use Rattle.std.proofs.Common.{◌≡◌, ◌++◌, drop}
use Rattle.std.specs.Prelude.{flat_map}
use Rattle.json_build.specs.Held.{values}
use Rattle.script_names.specs.Tables.{printed_names}
use Rattle.scope_values.specs.Searches.{look_concern}
use Rattle.scope_values.proofs.looks.add_look_concerns.Given as goal

abbrev pub invariant-loop-look : goal.invariant-loop-look
invariant-loop-look l =
    values l.items ++ flat_map (look_concern (printed_names l.names) l.region) (drop l.look-index l.looks)
    ≡ values l.fn.items ++ flat_map (look_concern (printed_names l.names) l.region) l.looks
