use Rattle.std.proofs.Common.{length}
use Rattle.race_join.proofs.joining.+hear_notes.Given as goal

abbrev pub decreases-hear_notes : goal.decreases-hear_notes
decreases-hear_notes l = length l.notes.now.items
