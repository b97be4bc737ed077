use Rattle.machine_rows.proofs.WorldRows.{rows}
use Rattle.machine_rows.proofs.rows.worlds_compute.Goals as goal

pub returns : goal.returns
returns c = rows
