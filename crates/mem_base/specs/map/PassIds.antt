-- The name of a pass.
use Rattle.std.specs.Prelude.{ℕ}

-- a pass, by its number: those of a machine are numbered from 0 on
pub record PassId : Type 0 where
  pub 0 : ℕ
