use Rattle.machine_rows.proofs.PartRows.{rows}
use Rattle.machine_rows.proofs.rows.parts_compute.Goals as goal

pub returns : goal.returns
returns c = rows
