use Rattle.world_laws.proofs.OrderLaws.{orders_are_legal}
use Rattle.world_laws.proofs.orders.orders_are_legal.Goals as goal

pub returns : goal.returns
returns c = orders_are_legal
