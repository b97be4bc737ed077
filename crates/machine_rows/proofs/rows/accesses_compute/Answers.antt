use Rattle.machine_rows.proofs.AccessRows.{rows}
use Rattle.machine_rows.proofs.rows.accesses_compute.Goals as goal

pub returns : goal.returns
returns c = rows
