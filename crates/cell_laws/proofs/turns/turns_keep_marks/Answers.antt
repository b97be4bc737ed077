use Rattle.cell_laws.proofs.TurnHistories.{turns_keep_marks}
use Rattle.cell_laws.proofs.turns.turns_keep_marks.Goals as goal

pub returns : goal.returns
returns c = turns_keep_marks
