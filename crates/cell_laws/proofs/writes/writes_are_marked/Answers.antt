use Rattle.cell_laws.proofs.WriteMarkLaws.{writes_are_marked}
use Rattle.cell_laws.proofs.writes.writes_are_marked.Goals as goal

pub returns : goal.returns
returns c = writes_are_marked
