use Rattle.history_laws.proofs.OrderLaws.{order}
use Rattle.history_laws.proofs.histories.legal_histories_are_in_order.Goals as goal

pub returns : goal.returns
returns c = order
