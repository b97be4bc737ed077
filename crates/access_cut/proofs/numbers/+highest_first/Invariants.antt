use Rattle.std.proofs.Common.{length}
use Rattle.access_cut.proofs.numbers.+highest_first.Given as goal

abbrev pub decreases-highest_first : goal.decreases-highest_first
decreases-highest_first l = length l.bytes.now
