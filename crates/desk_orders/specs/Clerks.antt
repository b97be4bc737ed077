-- What a clerk writes down.
use Rattle.std.specs.Prelude.{[], ◌∷◌, ◌++◌}
use Rattle.mem_base.specs.declared.machine.records.DeskOrder.{DeskOrder}
use Rattle.mem_base.specs.machine.Records.{Clerk}
use Rattle.desk_orders.specs.declared.orders.Receipt.{Receipt}
use Rattle.desk_orders.specs.Given.{entry_got}

-- the clerk with one order more, which got this receipt
abbrev pub wrote_down : Clerk → DeskOrder → Receipt → Clerk
wrote_down c order r = record { who = c.who; got = c.got ++ entry_got c.who order r ∷ [] }
