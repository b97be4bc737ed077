use Rattle.std.proofs.Common.{length}
use Rattle.race_seats.proofs.seats.+unseat_passes.Given as goal

abbrev pub decreases-unseat_passes : goal.decreases-unseat_passes
decreases-unseat_passes l = length l.busy.now
