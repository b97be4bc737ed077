-- An order that was given.
use Rattle.std.proofs.Common.{ℕ, List}
use Rattle.mem_base.specs.declared.machine.records.DeskOrder.{DeskOrder}
use Rattle.mem_base.specs.machine.Records.{Given}

-- an order, by who gave it and the replies that its steps got
abbrev pub given_by : ℕ → DeskOrder → List ℕ → Given
given_by who order replies = record { who = who; order = order; replies = replies }
