use Rattle.std.proofs.Common.{rules}
use Rattle.race_lines.specs.LineTasks.{name_made}
use Rattle.race_block.proofs.resolving.pass_task.Goals as goal

pub returns-in-Ok-Ordered : goal.returns-in-Ok-Ordered
returns-in-Ok-Ordered c = (name_made c.in-Ok-Ordered.field-0-1, search rules)
