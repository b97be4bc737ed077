use Rattle.std.proofs.Common.{◌≡◌, ◌++◌, drop}
use Rattle.std.specs.Prelude.{flat_map}
use Rattle.script_names.specs.Tables.{printed_names}
use Rattle.scope_lines.specs.Whys.{concern}
use Rattle.scope_lines.proofs.hops.add_concerns.Given as goal

abbrev pub invariant-loop-tried : goal.invariant-loop-tried
invariant-loop-tried l =
    l.line ++ flat_map (concern (printed_names l.names) l.region) (drop l.tried-index l.trials)
    ≡ l.fn.line ++ flat_map (concern (printed_names l.names) l.region) l.trials
