use Rattle.turn_laws.proofs.TurnsLaw.{turns_join}
use Rattle.turn_laws.proofs.turns.turns_join.Goals as goal

pub returns : goal.returns
returns c = turns_join
