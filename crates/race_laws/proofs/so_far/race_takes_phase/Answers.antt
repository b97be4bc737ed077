use Rattle.race_laws.proofs.SoFarLaws.{takes_phase}
use Rattle.race_laws.proofs.so_far.race_takes_phase.Goals as goal

pub returns : goal.returns
returns c = takes_phase
