use Rattle.machine_rows.proofs.HistoryRows.{rows}
use Rattle.machine_rows.proofs.rows.histories_compute.Goals as goal

pub returns : goal.returns
returns c = rows
