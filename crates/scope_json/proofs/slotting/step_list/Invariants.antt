use Rattle.std.proofs.Common.{◌≡◌, ◌++◌, drop}
use Rattle.std.specs.Prelude.{map}
use Rattle.json_build.specs.Held.{values}
use Rattle.script_names.specs.Tables.{printed_names}
use Rattle.scope_json.specs.Tables.{step_data}
use Rattle.scope_json.proofs.slotting.step_list.Given as goal

abbrev pub invariant-loop-step : goal.invariant-loop-step
invariant-loop-step l =
    values l.items ++ map (step_data l.edges (printed_names l.names)) (drop l.step-index l.steps) ≡ map (step_data l.edges (printed_names l.names)) l.steps
