use Rattle.std.proofs.Common.{◌-◌}
use Rattle.view_slots.proofs.pieces.+cut.Given as goal

abbrev pub decreases-cut : goal.decreases-cut
decreases-cut l = l.range.last - l.range.start
