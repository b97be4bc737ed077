use Rattle.std.proofs.Common.{◌≡◌, ◌++◌, drop}
use Rattle.std.specs.Prelude.{flat_map}
use Rattle.json_build.specs.Held.{values}
use Rattle.scope_json.specs.Diffs.{changes_of}
use Rattle.scope_json.proofs.differing.changes_in.Given as goal

abbrev pub invariant-loop-step : goal.invariant-loop-step
invariant-loop-step l = values l.items ++ flat_map (changes_of l.labels.made) (drop l.step-index l.steps) ≡ flat_map (changes_of l.labels.made) l.steps
