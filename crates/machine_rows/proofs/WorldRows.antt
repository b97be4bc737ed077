-- Worked calls of the pure machine and turns of the running one, by computing. What a forest names is never computed,
use Rattle.std.proofs.Common.{refl}
use Rattle.mem_base.specs.map.Search.{found_in}
use Rattle.mem_base.specs.map.Steps.{depth_by, weight_by, reaches_by}
use Rattle.mem_base.specs.access.Places.{holes}
use Rattle.machine_rows.specs.WorldRows.{WorldRows, call, enabling, global, latch, made, outcome_of, outcomes, pending, published}

pub rows : WorldRows
unfolding call depth_by enabling found_in global holes latch made outcome_of outcomes pending published reaches_by weight_by
rows = record {
  eight-generations = refl;
  an-old-generation = refl;
  refusals-of-the-machine = refl;
  too-nested = refl;
  fits-the-hole = refl;
  no-hole-fits = refl;
  a-publish = refl;
  eight-turns = refl;
  seven-accepted = refl;
  a-fill = refl;
  a-notifier = refl;
  its-event = refl;
}
