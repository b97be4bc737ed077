use Rattle.std.proofs.Common.{◌≡◌, ◌++◌, drop}
use Rattle.std.specs.Prelude.{flat_map}
use Rattle.scope_run.specs.Diffs.{change_text}
use Rattle.scope_run.proofs.differing.add_changes.Given as goal

abbrev pub invariant-loop-step : goal.invariant-loop-step
invariant-loop-step l =
    l.text ++ flat_map (change_text l.labels.made) (drop l.step-index l.steps)
    ≡ l.fn.text ++ flat_map (change_text l.labels.made) l.steps
