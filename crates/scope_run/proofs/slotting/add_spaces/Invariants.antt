use Rattle.std.proofs.Common.{take}
use Rattle.mem_base.specs.script.States.{space_named}
use Rattle.script_map.specs.Left.{all_shown}
use Rattle.scope_run.specs.Tables.{TellsSlotsOf}
use Rattle.scope_run.proofs.Parts.{Grown}
use Rattle.scope_run.proofs.slotting.add_spaces.Given as goal

abbrev pub invariant-loop-number : goal.invariant-loop-number
invariant-loop-number l =
    Grown (λ name here. TellsSlotsOf l.map.state.names (all_shown l.published) (space_named l.map.state name) here)
    (take l.number l.map.state.names.spaces) l.fn.text l.text
