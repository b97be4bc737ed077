use Rattle.std.proofs.Common.{◌≡◌, ◌++◌, drop}
use Rattle.std.specs.Prelude.{flat_map}
use Rattle.script_names.specs.Tables.{printed_names}
use Rattle.scope_lines.specs.Whys.{trial_lines}
use Rattle.scope_lines.proofs.looks.add_trials.Given as goal

abbrev pub invariant-loop-tried : goal.invariant-loop-tried
invariant-loop-tried l =
    l.line ++ flat_map (trial_lines (printed_names l.names)) (drop l.tried-index l.trials) ≡ l.fn.line ++ flat_map (trial_lines (printed_names l.names)) l.trials
