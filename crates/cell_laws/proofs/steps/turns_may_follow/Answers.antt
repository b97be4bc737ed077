use Rattle.cell_laws.proofs.Following.{turns_may_follow}
use Rattle.cell_laws.proofs.steps.turns_may_follow.Goals as goal

pub returns : goal.returns
returns c = turns_may_follow
