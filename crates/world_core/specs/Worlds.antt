-- What the parts of the pure machine make together: a world, to which a legal history led.
use Rattle.std.specs.Prelude.{◌≡◌, ℕ, ◌+◌, Bool, false, List, [], length, map, Option, Some, None, IfSome}
use Rattle.mem_base.specs.declared.map.ids.RegionId.{RegionId}
use Rattle.mem_base.specs.declared.access.cells.Cell.{Cell}
use Rattle.mem_base.specs.declared.access.cells.Place.{Place}
use Rattle.mem_base.specs.declared.machine.events.Event.{Event}
use Rattle.mem_base.specs.map.Limits.{notifier_count}
use Rattle.mem_base.specs.machine.World.{World, world}
use Rattle.mem_base.specs.machine.Reaps.{writer}
use Rattle.mem_base.specs.machine.History.{run_events}
use Rattle.mem_base.specs.machine.Publishing.{current_forest}
use Rattle.kept_generations.specs.KeptState.{KeptState, generations_of, with_swept}
use Rattle.mem_base.specs.access.PlaceCells.{blocks_at}
use Rattle.transact.specs.Preparing.{Readied}
use Rattle.place_words.specs.Blocks.{cleared}
use Rattle.transact.specs.Backed.{all_places}
use Rattle.writer_desk.specs.declared.idle.IdleDesk.{IdleDesk}
use Rattle.writer_desk.specs.Listened.{ListenedState}
use Rattle.writer_desk.specs.Writers.{WriterState, writer_state, Beside, IsReady, desk_of}
use Rattle.world_hand.specs.Reached.{IsReached}

-- the writer's desk, by what is ready to be published

abbrev pub state_with : ListenedState → Option Readied → WriterState
state_with s due = writer_state s.backed s.set.listening due

abbrev pub state_of : IdleDesk → Option Readied → WriterState
state_of desk due = state_with desk.listened due

-- what is kept beside the larger parts: the regions that are dropped and not released, and the cells that are not cleared yet
pub record Aside : Type 0 where
  pub dropped : List RegionId
  pub unfilled : List Cell

abbrev pub aside : List RegionId → List Cell → Aside
aside dropped unfilled = record { dropped = dropped; unfilled = unfilled }

-- what others than the writer's desk keep of the machine's desk
abbrev pub beside : Aside → List Bool → Beside
beside x swept = record { dropped = x.dropped; unfilled = x.unfilled; swept = swept }

-- the world that the writer's desk, the generations with the passes, the words, and what is kept beside make together
abbrev pub world_of : WriterState → KeptState → List ℕ → Aside → World
world_of d k words x =
    world (writer (desk_of d (beside x k.swept)) (generations_of k)) k.states
    (blocks_at words (all_places d.backed.backing))

-- the world is reached; the desk's current generation is the one that is kept as such; what is due was prepared of the desk; and
-- there is a word for each of the pool and of the notifiers
pub record IsWorld (d : WriterState) (k : KeptState) (words : List ℕ) (x : Aside) : Type 0 where
  pub reached : IsReached (world_of d k words x)
  pub current : current_forest (generations_of k) ≡ d.backed.desk.current.forest
  pub number : d.backed.desk.current.number ≡ k.current
  pub ready : IfSome d.due (IsReady d.backed)
  pub wide : length words ≡ d.backed.backing.pool_words + notifier_count

-- the same where each cell is cleared, by the dropped regions alone

abbrev pub filled_beside : List RegionId → List Bool → Beside
filled_beside dropped swept = beside (aside dropped []) swept

abbrev pub filled_world : WriterState → KeptState → List ℕ → List RegionId → World
filled_world d k words dropped = world_of d k words (aside dropped [])

abbrev pub IsFilledWorld : WriterState → KeptState → List ℕ → List RegionId → Type 0
IsFilledWorld d k words dropped = IsWorld d k words (aside dropped [])

-- the words, with those of a place 0
abbrev pub cleared_at : List ℕ → Option Place → List ℕ
cleared_at ws None = ws
cleared_at ws (Some p) = cleared ws p

-- no pass is swept after a private event
abbrev pub unswept : KeptState → KeptState
unswept k = with_swept k (map (λ swept. false) k.swept)

-- the world after some events, each with the world's own reply
abbrev pub after_events : World → List Event → World
after_events w es = (run_events w es).world
