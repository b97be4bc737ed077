use Rattle.desk_orders.proofs.StayLaws.{receipts_stay}
use Rattle.desk_orders.proofs.laws.receipts_stay.Goals as goal

pub returns : goal.returns
returns c = receipts_stay
