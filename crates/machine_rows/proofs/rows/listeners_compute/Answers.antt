use Rattle.machine_rows.proofs.ListenerRows.{rows}
use Rattle.machine_rows.proofs.rows.listeners_compute.Goals as goal

pub returns : goal.returns
returns c = rows
