use Rattle.desk_orders.proofs.StayLaws.{first_is_empty}
use Rattle.desk_orders.proofs.laws.first_is_empty.Goals as goal

pub returns : goal.returns
returns c = first_is_empty
