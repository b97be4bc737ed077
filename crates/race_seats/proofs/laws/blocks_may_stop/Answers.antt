use Rattle.race_seats.proofs.PhaseTextLaws.{blocks_may_stop}
use Rattle.race_seats.proofs.laws.blocks_may_stop.Goals as goal

pub returns : goal.returns
returns c = blocks_may_stop
