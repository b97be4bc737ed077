use Rattle.std.proofs.Common.{◌+◌, ◌*◌}
use Rattle.mtree_tests.proofs.plain.+plain.Given as goal

abbrev pub decreases-find_in : goal.decreases-find_in
decreases-find_in l = 2 * l.depth

abbrev pub decreases-find_below : goal.decreases-find_below
decreases-find_below l = 2 * l.depth + 1
