-- What a desk is seen as, and what holds of it.
-- QEMU's core has the tree, the depth of transactions and what is pending under its big lock.
use Rattle.std.specs.Prelude.{◌≡◌, ℕ, ◌+◌, ◌≤◌, Bool, false, if◌then◌else◌, List, [], Option}
use Rattle.mem_base.specs.declared.map.ids.RegionId.{RegionId}
use Rattle.mem_base.specs.declared.map.ids.SpaceId.{SpaceId}
use Rattle.mem_base.specs.declared.map.forests.Forest.{Forest}
use Rattle.mem_base.specs.map.Limits.{most_nested}
use Rattle.mem_base.specs.map.Calls.{empty}
use Rattle.mem_base.specs.map.Forest.{IsMade}
use Rattle.mem_base.specs.machine.Committed.{TransactionState, transaction}
use Rattle.generation.specs.Published.{Published, published}
use Rattle.touched_spaces.specs.Noted.{AreNoted}
use Rattle.touched_spaces.specs.Reached.{reached_in}
use Rattle.transact.specs.Spares.{IsSpare}

-- the forest that calls have made, with the transactions that are open, and the generation that is current
pub record DeskState : Type 0 where
  pub state : TransactionState
  pub current : Published

abbrev pub desk_state : TransactionState → Published → DeskState
desk_state state current = record { state = state; current = current }

-- at first there is nothing, and generation 0 publishes it
abbrev pub first_state : DeskState
first_state = desk_state (transaction empty 0 false) (published 0 empty [])

-- the desk after a call, a begin or a commit that publishes nothing
abbrev pub with_state : TransactionState → DeskState → DeskState
with_state state d = desk_state state d.current

-- a pending change counts as one more publish
abbrev pub publishes_due : Bool → ℕ
publishes_due pending = if pending then 1 else 0

-- the forest is one that accepted calls make; at most 64 transactions are open, and nothing is pending outside them; each
-- publish had a call of its own; of each space of the current generation it is known which regions are reached; the regions
-- that changed since then are noted, unless there were too many; and the second tree comes to the same forest
pub record IsDesk (d : DeskState) (known : List (SpaceId × List RegionId)) (noted : Option (List RegionId)) (spare : Option Forest) : Type 0 where
  pub made : IsMade d.state.forest
  pub nested : d.state.depth ≤ most_nested
  pub idle : d.state.depth ≡ 0 → d.state.pending ≡ false
  pub counted : d.current.number + publishes_due d.state.pending ≤ d.state.forest.calls
  pub known_is : known ≡ reached_in d.current.forest
  pub noted_are : AreNoted d.current.forest d.state.forest noted
  pub spare_is : IsSpare d.state.forest spare
