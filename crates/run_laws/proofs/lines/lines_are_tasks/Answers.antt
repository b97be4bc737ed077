use Rattle.run_laws.proofs.TaskLaws.{lines_are_tasks}
use Rattle.run_laws.proofs.lines.lines_are_tasks.Goals as goal

pub returns : goal.returns
returns c = lines_are_tasks
