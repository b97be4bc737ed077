use Rattle.std.proofs.Common.{length}
use Rattle.io_window.proofs.moves.+read_by_windows.Given as goal

abbrev pub decreases-read_by_windows : goal.decreases-read_by_windows
decreases-read_by_windows g l = length l.out.now
