use Rattle.script_memory.proofs.AlikeLaws.{shows_the_same}
use Rattle.script_memory.proofs.laws.memory_shows_the_same.Goals as goal

pub returns : goal.returns
returns c = shows_the_same
