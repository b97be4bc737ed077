use Rattle.std.proofs.Common.{length}
use Rattle.io_window.proofs.moves.+write_by_windows.Given as goal

abbrev pub decreases-write_by_windows : goal.decreases-write_by_windows
decreases-write_by_windows g l = length l.bytes.now
