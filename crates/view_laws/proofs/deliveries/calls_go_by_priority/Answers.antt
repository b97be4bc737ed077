use Rattle.view_laws.proofs.PairLaws.{two_hear}
use Rattle.view_laws.proofs.deliveries.calls_go_by_priority.Goals as goal

pub returns : goal.returns
returns c = two_hear
