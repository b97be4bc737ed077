-- That the calls of the writer are legal, in every history of the pure machine.
use Rattle.std.specs.Prelude.{◌≡◌, ℕ, ◌<◌, true, List}
use Rattle.mem_base.specs.map.Limits.{notifier_count}
use Rattle.mem_base.specs.map.Forest.{IsMade}
use Rattle.mem_base.specs.machine.Orders.{Order, load, notified}
use Rattle.mem_base.specs.machine.World.{World, opening, is_at_rest}
use Rattle.mem_base.specs.machine.History.{PureEntry, after_entries, IsLegalFrom, IsLegal}
use Rattle.mem_base.specs.machine.Composites.{completed}

-- what an order asks of the world: bytes are loaded into a region of a forest that calls make which fit their types, and
-- a notifier that is taken is one of those that there are
abbrev pub IsFitting : World → Order → Type 0
IsFitting w (load region offset bytes) = IsMade w.writer.desk.forest
IsFitting w (notified number) = number < notifier_count
IsFitting w k = Unit {0}

-- the events of a call of the writer are possible one after another, they lead to the call's world, and nothing is due or
-- unfilled there
pub record IsLegalCall (w : World) (k : Order) : Type 0 where
  pub legal : IsLegalFrom w (completed w k).entries
  pub ends : after_entries w (completed w k).entries ≡ (completed w k).world
  pub rests : is_at_rest (completed w k).world.writer.desk ≡ true

abbrev pub OrdersAreLegal : Type 0
OrdersAreLegal = (pool_words passes : ℕ) (xs : List PureEntry) → IsLegal pool_words passes xs →
    let w = after_entries (opening pool_words passes) xs in
    is_at_rest w.writer.desk ≡ true → (k : Order) → IsFitting w k → IsLegalCall w k
