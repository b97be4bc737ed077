use Rattle.history_laws.proofs.ReleasedLaws.{free_passes_release_all}
use Rattle.history_laws.proofs.releasing.free_passes_release_all.Goals as goal

pub returns : goal.returns
returns c = free_passes_release_all
