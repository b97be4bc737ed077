use Rattle.std.proofs.Common.{length}
use Rattle.race_run.proofs.closing.+take_all_in.Given as goal

abbrev pub decreases-take_all_in : goal.decreases-take_all_in
decreases-take_all_in l = length l.cpus.now.items
