use Rattle.desk_orders.proofs.StayLaws.{later_makes_turns}
use Rattle.desk_orders.proofs.laws.later_makes_turns.Goals as goal

pub returns : goal.returns
returns c = later_makes_turns
