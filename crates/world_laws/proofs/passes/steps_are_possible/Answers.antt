use Rattle.world_laws.proofs.Entering.{steps_are_possible}
use Rattle.world_laws.proofs.passes.steps_are_possible.Goals as goal

pub returns : goal.returns
returns c = steps_are_possible
