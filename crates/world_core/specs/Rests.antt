-- What a call of the writer keeps, whatever it answers.
use Rattle.std.specs.Prelude.{◌≡◌, true}
use Rattle.mem_base.specs.machine.World.{World, is_at_rest}

-- nothing is due or unfilled after it, and the passes are as they were
pub record StaysAtRest (w v : World) : Type 0 where
  pub rests : is_at_rest v.writer.desk ≡ true
  pub passes : v.passes ≡ w.passes
