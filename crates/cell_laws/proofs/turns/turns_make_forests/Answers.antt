use Rattle.cell_laws.proofs.MadeTurns.{turns_make_forests}
use Rattle.cell_laws.proofs.turns.turns_make_forests.Goals as goal

pub returns : goal.returns
returns c = turns_make_forests
