use Rattle.std.proofs.Common.{length}
use Rattle.race_seats.proofs.seats.+seat_passes.Given as goal

abbrev pub decreases-seat_passes : goal.decreases-seat_passes
decreases-seat_passes l = length l.cpus.now.items
