use Rattle.cell_laws.proofs.Carrying.{accesses_may_follow}
use Rattle.cell_laws.proofs.steps.accesses_may_follow.Goals as goal

pub returns : goal.returns
returns c = accesses_may_follow
