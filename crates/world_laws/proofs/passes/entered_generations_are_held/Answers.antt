use Rattle.world_laws.proofs.Entering.{entered_generations_are_held}
use Rattle.world_laws.proofs.passes.entered_generations_are_held.Goals as goal

pub returns : goal.returns
returns c = entered_generations_are_held
