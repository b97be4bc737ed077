-- Worked walks and publishes, by computing.
use Rattle.std.proofs.Common.{refl}
use Rattle.mem_base.specs.map.Search.{found_in}
use Rattle.mem_base.specs.views.Flattened.{ranges_from}
use Rattle.mem_base.specs.views.LiveEvents.{lives_below}
use Rattle.machine_rows.specs.ListenerRows.{ListenerRows}

pub rows : ListenerRows
unfolding found_in lives_below ranges_from
rows = record {
  splits-a-range = refl;
  starts-a-log = refl;
  stops-a-log = refl;
  replays = refl;
  replays-what-a-joiner-hears = refl;
  adds-twice = refl;
  begins-twice = refl;
  moves-an-ioeventfd = refl;
  joins-in-order = refl;
  lives-by-address = refl;
  lives-by-range = refl;
  view-by-address = refl;
  begins-before-zero = refl;
  commits-twice = refl;
  a-refused-change = refl;
  refused-in-a-transaction = refl;
  deleted-before-added = refl;
}
