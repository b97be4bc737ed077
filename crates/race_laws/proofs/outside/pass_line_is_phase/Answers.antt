use Rattle.race_laws.proofs.OneLine.{pass_line_is_phase}
use Rattle.race_laws.proofs.outside.pass_line_is_phase.Goals as goal

pub returns : goal.returns
returns c = pass_line_is_phase
