use Rattle.std.proofs.Common.{◌≡◌, ◌++◌, drop}
use Rattle.std.specs.Prelude.{flat_map}
use Rattle.script_names.specs.Tables.{printed_names}
use Rattle.scope_run.specs.Tables.{numbered_step}
use Rattle.scope_run.proofs.slotting.add_steps.Given as goal

abbrev pub invariant-loop-step : goal.invariant-loop-step
invariant-loop-step l =
    l.text ++ flat_map (numbered_step l.edges (printed_names l.names)) (drop l.step-index l.steps)
    ≡ l.fn.text ++ flat_map (numbered_step l.edges (printed_names l.names)) l.steps
