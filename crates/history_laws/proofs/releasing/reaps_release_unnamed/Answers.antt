use Rattle.history_laws.proofs.ReleasedLaws.{releases_unnamed}
use Rattle.history_laws.proofs.releasing.reaps_release_unnamed.Goals as goal

pub returns : goal.returns
returns c = releases_unnamed
