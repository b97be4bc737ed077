use Rattle.map_laws.proofs.CallLaws.{IsOrderedForest-made}
use Rattle.map_laws.proofs.SoundCallLaws.{IsClosedForest-made}
use Rattle.map_laws.proofs.forests_are_sound.Goals as goal

pub returns-clause-ordered : goal.returns-clause-ordered
returns-clause-ordered c = IsOrderedForest-made

pub returns-clause-closed : goal.returns-clause-closed
returns-clause-closed c = IsClosedForest-made
