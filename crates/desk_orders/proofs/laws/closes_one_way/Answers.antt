use Rattle.desk_orders.proofs.StayLaws.{closes_one_way}
use Rattle.desk_orders.proofs.laws.closes_one_way.Goals as goal

pub returns : goal.returns
returns c = closes_one_way
