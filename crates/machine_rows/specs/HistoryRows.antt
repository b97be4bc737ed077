-- Worked histories of the pure machine: what is released, what is held, and who listens.
use Rattle.std.specs.Prelude.{◌≡◌, ℕ, true, false, List, [], ◌∷◌, ◌++◌, map, pos, None}
use Rattle.mem_base.specs.declared.map.kinds.Kind.TheVariants as kinds
use Rattle.mem_base.specs.declared.map.kinds.DeviceKind.TheVariants.{Latch}
use Rattle.mem_base.specs.declared.map.calls.Call.TheVariants as calls
use Rattle.mem_base.specs.declared.map.calls.Config.TheVariants as configs
use Rattle.mem_base.specs.declared.machine.events.Event.{Event}
use Rattle.mem_base.specs.declared.machine.events.Event.TheVariants as events
use Rattle.mem_base.specs.access.Places.{place_from, extent}
use Rattle.mem_base.specs.access.Cells.{cell}
use Rattle.mem_base.specs.machine.Generations.{is_held}
use Rattle.mem_base.specs.machine.Reaps.{released}
use Rattle.mem_base.specs.machine.World.{World, possible, opening}
use Rattle.mem_base.specs.machine.History.{run_events}
use Rattle.machine_rows.specs.Values.{region, space, pass, listener, ops, device}

abbrev pub world_of : ℕ → ℕ → List Event → World
world_of pool_words passes es = (run_events (opening pool_words passes) es).world

-- a pool of 4 words: a device with 4 registers takes them all, is dropped, and a reap gives them back

abbrev pub latch : Event
latch = events.Config (configs.Call (calls.Region (kinds.Io (device Latch 4 (ops 1 8 1 8 false))) 8))

abbrev pub fills : ℕ → List Event
fills n = map (λ i. events.Fill (cell (region n) i)) (0 ∷ 1 ∷ 2 ∷ 3 ∷ [])

abbrev pub dropped : List Event
dropped = (latch ∷ fills 0) ++ events.Config (configs.Call (calls.Drop (region 0))) ∷ []

-- a sweep before the publish finds the pass unannounced, and the reap after the publish is possible: but the pass's
-- lowest number is the one before, which is held still

abbrev pub early : World
early = world_of 4 1 (events.Sweep (pass 0) ∷ events.Config (configs.Call (calls.Global true)) ∷ events.Sweep (pass 0) ∷ events.Place (pass 0)
    ∷ events.Publish ∷ [])

-- a listener may join a space that a publish showed, and is there then

abbrev pub spaced : List Event
spaced = events.Config (configs.Call (calls.Region kinds.Container 8)) ∷ events.Config (configs.Call (calls.Space (space 0) (region 0))) ∷ events.Publish ∷ []

abbrev pub container : Event
container = events.Config (configs.Call (calls.Region kinds.Container 8))

abbrev pub drops : ℕ → Event
drops n = events.Config (configs.Call (calls.Drop (region n)))

pub record HistoryRows : Type 0 where
  pub releases-at-once : released (world_of 4 0 dropped).writer ≡ region 0 ∷ []
  pub no-place-before : (world_of 4 0 (dropped ++ latch ∷ [])).writer.desk.places ≡ place_from (region 0) 0 (extent 0 4) ∷ []
  pub a-place-after : (world_of 4 0 (dropped ++ events.Reap ∷ latch ∷ fills 1)).writer.desk.places ≡ place_from (region 1) 0 (extent 0 4) ∷ []
  pub may-reap : possible early events.Reap ≡ true
  pub found-none : map (λ k. k.found) early.writer.generations.passes ≡ None ∷ []
  pub holds-the-one-before : is_held early.writer.generations 0 ≡ true
  pub may-listen : possible (world_of 4 0 spaced) (events.Config (configs.Listen (listener 5) (space 0) (pos 0))) ≡ true
  pub listens-then : map (λ l. l.listener)
      (world_of 4 0 (spaced ++ events.Config (configs.Listen (listener 5) (space 0) (pos 0)) ∷ [])).writer.desk.listening.listeners ≡ listener 5 ∷ []
  -- dropped regions ascend, in whatever order they are dropped
  pub dropped-ascend : (world_of 4 0 (container ∷ container ∷ container ∷ drops 2 ∷ drops 0 ∷ drops 1 ∷ [])).writer.desk.dropped ≡ region 0 ∷ region 1
      ∷ region 2 ∷ []
