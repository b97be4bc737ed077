use Rattle.race_laws.proofs.OutsideLaws.{has_phases}
use Rattle.race_laws.proofs.outside.has_phases.Goals as goal

pub returns : goal.returns
returns c = has_phases
