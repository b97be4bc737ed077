use Rattle.machine_rows.proofs.HostRows.{rows}
use Rattle.machine_rows.proofs.rows.host_memory_computes.Goals as goal

pub returns : goal.returns
returns c = rows
