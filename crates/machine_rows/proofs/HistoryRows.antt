-- Worked histories of the pure machine: what is released, what is held, and who listens.
use Rattle.std.proofs.Common.{refl}
use Rattle.mem_base.specs.access.Places.{holes}
use Rattle.machine_rows.specs.HistoryRows.{HistoryRows}

pub rows : HistoryRows
unfolding holes
rows = record {
  releases-at-once = refl;
  no-place-before = refl;
  a-place-after = refl;
  may-reap = refl;
  found-none = refl;
  holds-the-one-before = refl;
  may-listen = refl;
  listens-then = refl;
  dropped-ascend = refl;
}
