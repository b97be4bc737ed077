-- How much of an access one window moves.
use Rattle.std.specs.Prelude.{◌≡◌, ℕ, ◌<◌, ◌≤◌, ◌⊎◌}
use Rattle.mem_base.specs.declared.map.forests.Forest.{Forest}
use Rattle.mem_base.specs.declared.access.accesses.WindowStart.{WindowStart}
use Rattle.mem_base.specs.access.Windows.{chunk_length}

-- the first chunk of some addresses, or all of them
pub record IsFirst (f : Forest) (s : WindowStart) (n count : ℕ) : Type 0 where
  pub some : 0 < count
  pub most : count ≤ n
  pub either : (count ≡ n) ⊎ (count ≡ chunk_length f s n)
