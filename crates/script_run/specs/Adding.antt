-- What a command does: the text that it writes, and the state that it leaves.
use Rattle.std.specs.Prelude.{◌≡◌, ◌++◌}
use Rattle.mem_base.specs.machine.World.{World}
use Rattle.mem_base.specs.script.Spelling.{Text}
use Rattle.mem_base.specs.script.States.{Outcome, State}
use Rattle.mem_base.specs.script.Tasks.{Known}
use Rattle.run_laws.specs.TaskSteps.{known_state}
use Rattle.script_run.specs.Standing.{IsReady, Standing}

-- a text grew by what an outcome writes, the outcome's state is left, and the next command may come
pub record Adds (old new : Text) (x : Outcome) (k : Known) (w : World) : Type 0 where
  pub text : new ≡ old ++ x.0
  pub is : known_state k w ≡ x.1
  pub ready : IsReady k w

-- so it is of what a pass did from a world on, whatever is known of names
abbrev pub PassAdds : Text → Text → World → (State → Outcome) → World → Type 0
PassAdds old new w does v = (k : Known) → IsReady k w → Adds old new (does (known_state k w)) k v

-- and of a command, by what stands after it
abbrev pub StepAdds : Text → Text → Outcome → Standing → Type 0
StepAdds old new x s = Adds old new x s.known s.world
