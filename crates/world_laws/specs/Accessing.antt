-- That accesses are legal, in every history of the pure machine.
use Rattle.std.specs.Prelude.{◌≡◌, ℕ, List}
use Rattle.mem_base.specs.map.PassIds.{PassId}
use Rattle.mem_base.specs.declared.map.ids.SpaceId.{SpaceId}
use Rattle.mem_base.specs.map.Forest.{IsMade}
use Rattle.mem_base.specs.access.AccessSteps.{Transfer, AccessStep, events_of_steps}
use Rattle.mem_base.specs.access.Access.{access}
use Rattle.mem_base.specs.machine.Generations.{Generation}
use Rattle.mem_base.specs.machine.World.{World, opening}
use Rattle.mem_base.specs.machine.History.{PureEntry, after_entries, IsLegalFrom, IsLegal, run_events}
use Rattle.world_laws.specs.Entered.{IsEnteredIn}

-- the events of these steps by a pass are possible one after another, they lead to the world that they run to, and there
-- the pass is entered in the same generation still
pub record AreLegalSteps (w : World) (pass : PassId) (x : Generation) (ds : List AccessStep) : Type 0 where
  pub legal : IsLegalFrom w (run_events w (events_of_steps pass ds)).entries
  pub ends : after_entries w (run_events w (events_of_steps pass ds)).entries ≡ (run_events w (events_of_steps pass ds)).world
  pub stays : IsEnteredIn (run_events w (events_of_steps pass ds)).world pass x

-- so are those of each access by a pass to the forest of the generation in which it is entered, where calls that fit
-- their types made that forest
abbrev pub AccessesArePossible : Type 0
AccessesArePossible = (pool_words passes : ℕ) (xs : List PureEntry) → IsLegal pool_words passes xs →
    let w = after_entries (opening pool_words passes) xs in
    (pass : PassId) (x : Generation) → IsEnteredIn w pass x → IsMade x.forest →
    (space : SpaceId) (addr : ℕ) (transfer : Transfer) → AreLegalSteps w pass x (access x.forest space addr transfer)
