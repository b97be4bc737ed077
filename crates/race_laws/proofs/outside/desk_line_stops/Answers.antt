use Rattle.race_laws.proofs.OneLine.{desk_line_stops}
use Rattle.race_laws.proofs.outside.desk_line_stops.Goals as goal

pub returns : goal.returns
returns c = desk_line_stops
