use Rattle.history_laws.proofs.PublishedLaws.{publishes_are_committed}
use Rattle.history_laws.proofs.histories.publishes_are_committed.Goals as goal

pub returns : goal.returns
returns c = publishes_are_committed
