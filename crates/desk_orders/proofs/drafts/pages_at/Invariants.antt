use Rattle.std.proofs.Common.{◌≡◌, drop}
use Rattle.mem_base.specs.access.PlacesByRegion.{place_in}
use Rattle.desk_orders.proofs.drafts.pages_at.Given as goal

abbrev pub invariant-loop-i : goal.invariant-loop-i
invariant-loop-i l = place_in l.places l.region ≡ place_in (drop l.i l.places) l.region
