use Rattle.race_laws.proofs.OneLine.{desk_line_is_phase}
use Rattle.race_laws.proofs.outside.desk_line_is_phase.Goals as goal

pub returns : goal.returns
returns c = desk_line_is_phase
