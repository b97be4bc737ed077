use Rattle.race_laws.proofs.SoFarLaws.{stops}
use Rattle.race_laws.proofs.so_far.race_stops.Goals as goal

pub returns : goal.returns
returns c = stops
