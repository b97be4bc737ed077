-- What follows of a record that grew, and of a receipt.
use Rattle.std.specs.Prelude.{ℕ, List, [], ◌++◌}
use Rattle.mem_base.specs.declared.machine.records.DeskOrder.{DeskOrder}
use Rattle.mem_base.specs.machine.Records.{Given, FitsDeskOrder}
use Rattle.desk_orders.specs.declared.orders.Receipt.{Receipt}
use Rattle.desk_orders.specs.Records.{RecordState, GrewBy, IsLater}
use Rattle.desk_lock.specs.Turned.{Takes}

-- how records grow: by nothing, by one order, and on
pub record RecordsGrow : Type 0 where
  pub same : (v : RecordState) → GrewBy [] v v
  pub joins : (given more : List Given) (u v w : RecordState) → GrewBy given u v → GrewBy more v w → GrewBy (given ++ more) u w
  pub takes : (v w : RecordState) (who : ℕ) (order : DeskOrder) (r : Receipt) → Takes v who order r w → FitsDeskOrder order → IsLater v w
