use Rattle.history_laws.proofs.NumberLaws.{sound}
use Rattle.history_laws.proofs.numbers.shared_histories_are_sound.Goals as goal

pub returns : goal.returns
returns c = sound
