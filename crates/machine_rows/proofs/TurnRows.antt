-- Worked turns read as a history of the pure machine, by computing.
use Rattle.std.proofs.Common.{refl}
use Rattle.mem_base.specs.access.Places.{holes}
use Rattle.machine_rows.specs.TurnRows.{TurnRows}

pub rows : TurnRows
unfolding holes
rows = record {
  after-the-sweep = refl;
  before-the-fill = refl;
  before-a-later-fill = refl;
  after-the-last = refl;
  first-of-all = refl;
}
