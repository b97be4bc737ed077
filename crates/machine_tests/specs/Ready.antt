-- A world between two calls of its user: the writer's next call may come, and each pass may make an access.
use Rattle.std.specs.Prelude.{◌≡◌, ◌<◌, true}
use Rattle.mem_base.specs.map.PassIds.{PassId}
use Rattle.mem_base.specs.map.Limits.{most_passes}
use Rattle.mem_base.specs.machine.World.{World, is_at_rest}
use Rattle.mem_base.specs.machine.Completions.{may_access}

pub record IsReady (w : World) : Type 0 where
  pub rests : is_at_rest w.writer.desk ≡ true
  pub passes : (pass : PassId) → pass.0 < most_passes → may_access w pass ≡ true
