use Rattle.std.proofs.Common.{◌≡◌, drop}
use Rattle.mem_base.specs.access.PlacesByRegion.{place_in}
use Rattle.backing_pool.proofs.pool.listed_position.Given as goal

abbrev pub invariant-loop-at : goal.invariant-loop-at
invariant-loop-at l = place_in (drop l.at l.places) l.region ≡ place_in l.places l.region
