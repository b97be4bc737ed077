use Rattle.history_laws.proofs.PublishedLaws.{generations_are_committed}
use Rattle.history_laws.proofs.histories.generations_are_committed.Goals as goal

pub returns : goal.returns
returns c = generations_are_committed
