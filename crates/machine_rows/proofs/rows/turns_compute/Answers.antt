use Rattle.machine_rows.proofs.TurnRows.{rows}
use Rattle.machine_rows.proofs.rows.turns_compute.Goals as goal

pub returns : goal.returns
returns c = rows
