-- Sweeps of one pass and of every pass.
use Rattle.std.specs.Prelude.{◌≡◌, ℕ, ◌+◌, true, if◌then◌else◌, List, [], ◌∷◌, length, map, slice_set, Option, None}
use Rattle.mem_base.specs.map.PassIds.{PassId}
use Rattle.mem_base.specs.declared.machine.events.Event.TheVariants.{Sweep}
use Rattle.mem_base.specs.declared.machine.events.Carried.TheVariants.{Nothing}
use Rattle.mem_base.specs.declared.map.refusals.Refusal.{Refusal}
use Rattle.mem_base.specs.machine.Passes.{PassState, pass_id}
use Rattle.mem_base.specs.machine.Generations.{PassTrack, pin_word, known_after_sweep, generations_after, number_told}
use Rattle.mem_base.specs.machine.Publishing.{holds_up, held_at}
use Rattle.mem_base.specs.machine.Reaps.{writer}
use Rattle.mem_base.specs.machine.Orders.{pass_ids, sweeps}
use Rattle.mem_base.specs.machine.World.{World, world}
use Rattle.mem_base.specs.machine.History.{run_events}
use Rattle.kept_generations.specs.KeptState.{KeptState, generations_of}

-- after a Sweep of one pass
abbrev pub after_sweep : KeptState → PassId → KeptState
after_sweep k pass = record k {
  tracks = (generations_after (generations_of k) (Sweep pass) Nothing (number_told (generations_of k) k.states (Sweep pass))).passes;
  swept = slice_set k.swept pass.0 true;
}

-- after a Sweep of each of these passes
abbrev pub after_sweeps : KeptState → List PassId → KeptState
after_sweeps k [] = k
after_sweeps k (pass ∷ passes) = after_sweeps (after_sweep k pass) passes

abbrev pub swept_track : ℕ → PassTrack → PassState → PassTrack
swept_track current k p = known_after_sweep current k (pin_word p.announced)

-- what is known of each pass after a Sweep of it
abbrev pub swept_tracks : ℕ → List PassTrack → List PassState → List PassTrack
swept_tracks current [] ps = []
swept_tracks current (k ∷ ks) [] = k ∷ ks
swept_tracks current (k ∷ ks) (p ∷ ps) = swept_track current k p ∷ swept_tracks current ks ps

-- after a Sweep of every pass
abbrev pub all_swept : KeptState → KeptState
all_swept k = record k { tracks = swept_tracks k.current k.tracks k.states; swept = map (λ swept. true) k.swept }

-- the least pass, of those counted from `first`, that announced a number so old that it holds a publish up
abbrev pub announced_from : ℕ → ℕ → List PassState → Option Refusal
announced_from current first [] = None
announced_from current first (p ∷ ps) =
    if holds_up current p.announced then held_at (pass_id first) p.announced else announced_from current (first + 1) ps

-- one Sweep after another, of the passes ascending, leave just what the definition says
abbrev pub SweepsFold : Type 0
SweepsFold = (k : KeptState) → length k.states ≡ length k.tracks → length k.swept ≡ length k.tracks
    → after_sweeps k (pass_ids (generations_of k)) ≡ all_swept k

-- the world has these generations, these states of the passes, and these of them swept
pub record IsKeptBy (k : KeptState) (w : World) : Type 0 where
  pub generations : w.writer.generations ≡ generations_of k
  pub states : w.passes ≡ k.states
  pub swept : w.writer.desk.swept ≡ k.swept

-- a world with these generations and flags
abbrev pub world_with : World → KeptState → World
world_with w k = world (writer (record w.writer.desk { swept = k.swept }) (generations_of k)) w.passes w.blocks

-- so do the machine's own events
abbrev pub SweepsRun : Type 0
SweepsRun = (k : KeptState) (w : World) → length k.states ≡ length k.tracks → length k.swept ≡ length k.tracks → IsKeptBy k w
    → (run_events w (sweeps w.writer.generations)).world ≡ world_with w (all_swept k)
