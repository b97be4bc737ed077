use Rattle.std.proofs.Common.{refl}
use Rattle.mem_base.specs.machine.World.{number_in, reply}
use Rattle.history_laws.proofs.OrderLaws.{order_after}
use Rattle.history_laws.proofs.histories.each_event_keeps_order.Goals as goal

pub returns : goal.returns
returns c = λ w e k may. order_after w k e (number_in (reply w e)) may refl
