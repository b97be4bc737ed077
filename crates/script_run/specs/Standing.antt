-- What stands while a script runs: what is known of names and watchers, and the machine.
use Rattle.std.specs.Prelude.{◌≡◌, ◌<◌, true}
use Rattle.mem_base.specs.map.PassIds.{PassId}
use Rattle.mem_base.specs.map.Limits.{most_passes}
use Rattle.mem_base.specs.machine.World.{World, is_at_rest}
use Rattle.mem_base.specs.machine.Completions.{may_access}
use Rattle.mem_base.specs.script.States.{State}
use Rattle.mem_base.specs.script.Tasks.{Known}
use Rattle.run_laws.specs.KnownNames.{KnowsNames}
use Rattle.run_laws.specs.TaskSteps.{known_state}

pub record Standing : Type 0 where
  pub known : Known
  pub world : World

-- the state of the run
abbrev pub state_of : Standing → State
state_of s = known_state s.known s.world

-- what is known of names is what the machine has; the machine is at rest, and each pass may make an access
pub record IsReady (k : Known) (w : World) : Type 0 where
  pub names : KnowsNames k w.writer.desk
  pub rests : is_at_rest w.writer.desk ≡ true
  pub passes : (pass : PassId) → pass.0 < most_passes → may_access w pass ≡ true

-- the next command may come
abbrev pub MayGoOn : Standing → Type 0
MayGoOn s = IsReady s.known s.world
