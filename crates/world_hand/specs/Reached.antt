-- Worlds to which legal histories lead.
use Rattle.std.specs.Prelude.{◌≡◌, ℕ, List}
use Rattle.mem_base.specs.views.Listening.{Delivery}
use Rattle.mem_base.specs.machine.History.{PureEntry, IsLegal, after_entries}
use Rattle.mem_base.specs.machine.World.{World, opening}
use Rattle.world_hand.specs.Taken.{told_before}

-- A legal history leads to the world, but for the calls that were taken out of its journal: with these before the others it is the
-- world after that history. So what holds after every legal history holds of the world, and what is said there of the journal holds of
-- what was taken out and the journal together; where nothing was taken out, the history leads to the world itself
pub record IsReached (w : World) : Type 0 where
  pub pool_words : ℕ
  pub passes : ℕ
  pub taken : List Delivery
  pub entries : List PureEntry
  pub legal : IsLegal pool_words passes entries
  pub leads : after_entries (opening pool_words passes) entries ≡ told_before taken w
