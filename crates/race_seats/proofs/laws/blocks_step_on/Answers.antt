use Rattle.race_seats.proofs.PhaseTextLaws.{blocks_step_on}
use Rattle.race_seats.proofs.laws.blocks_step_on.Goals as goal

pub returns : goal.returns
returns c = blocks_step_on
