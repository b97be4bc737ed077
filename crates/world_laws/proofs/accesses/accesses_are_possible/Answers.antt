use Rattle.world_laws.proofs.Accessing.{accesses_are_possible}
use Rattle.world_laws.proofs.accesses.accesses_are_possible.Goals as goal

pub returns : goal.returns
returns c = accesses_are_possible
