-- Worked turns read as a history of the pure machine: where a private event stands among the entries of a pass.
use Rattle.std.specs.Prelude.{◌≡◌, ℕ, true, false, List, [], ◌∷◌, ◌++◌, map, take, drop, flat_map}
use Rattle.mem_base.specs.declared.map.kinds.DeviceKind.TheVariants.{Latch}
use Rattle.mem_base.specs.declared.map.kinds.Kind.TheVariants as kinds
use Rattle.mem_base.specs.declared.map.calls.Call.{Call}
use Rattle.mem_base.specs.declared.map.calls.Call.TheVariants as calls
use Rattle.mem_base.specs.declared.map.calls.Config.TheVariants as configs
use Rattle.mem_base.specs.declared.access.cells.WordStep.TheVariants.{Take}
use Rattle.mem_base.specs.declared.machine.events.Hand.TheVariants as hands
use Rattle.mem_base.specs.declared.machine.events.Event.{Event}
use Rattle.mem_base.specs.declared.machine.events.Event.TheVariants as events
use Rattle.mem_base.specs.declared.machine.events.Carried.TheVariants.{Nothing}
use Rattle.mem_base.specs.declared.machine.events.HistoryEntry.{HistoryEntry}
use Rattle.mem_base.specs.access.Cells.{cell, notifier_cell}
use Rattle.mem_base.specs.machine.Orders.{configure, notified}
use Rattle.mem_base.specs.machine.Reaps.{first_writer}
use Rattle.mem_base.specs.machine.Turns.{Answered, WriterCall, turns, entries_of_turn, history_entry}
use Rattle.mem_base.specs.machine.JoinedHistory.{joined_history}
use Rattle.machine_rows.specs.Values.{region, pass, ops, device}

-- a pool of 4 words and one pass
abbrev pub calls_of : List Answered → List WriterCall
calls_of os = turns (first_writer 4 1) os

-- the entries of these calls, and after the first `n` of them a Look of the pass
abbrev pub with_look : ℕ → List WriterCall → List HistoryEntry
with_look n ts = let xs = flat_map entries_of_turn ts in take n xs ++ history_entry (events.Look (pass 0)) Nothing 0 ∷ drop n xs

-- the events of the history in which the private ones stand
abbrev pub joined_events : ℕ → List Answered → List Event
joined_events n os = let ts = calls_of os in map (λ y. y.event) (joined_history ts (with_look n ts))

abbrev pub look : Event
look = events.Look (pass 0)

abbrev pub config : Call → Event
config call = events.Config (configs.Call call)

abbrev pub latch : Call
latch = calls.Region (kinds.Io (device Latch 2 (ops 1 4 1 4 false))) 8

abbrev pub container : Call
container = calls.Region kinds.Container 8

abbrev pub take_notifier : Event
take_notifier = events.Word hands.Writer (notifier_cell 3) Take

pub record TurnRows : Type 0 where
  -- a publish: its private event stands directly after its last Sweep, before what a pass does then
  pub after-the-sweep : joined_events 1 ((configure (configs.Call (calls.Global true)), 0 ∷ 0 ∷ 1 ∷ []) ∷ [])
      ≡ events.Sweep (pass 0) ∷ config (calls.Global true) ∷ look ∷ events.Place (pass 0) ∷ events.Publish ∷ []
  -- a region that is made: directly before its first Fill, after what a pass did before
  pub before-the-fill : joined_events 0 ((configure (configs.Call latch), 0 ∷ 0 ∷ []) ∷ [])
      ≡ look ∷ config latch ∷ events.Fill (cell (region 0) 0) ∷ events.Fill (cell (region 0) 1) ∷ []
  -- also where the writer did something before the pass
  pub before-a-later-fill : joined_events 1 ((notified 3, 0 ∷ []) ∷ (configure (configs.Call latch), 0 ∷ 0 ∷ []) ∷ [])
      ≡ take_notifier ∷ look ∷ config latch ∷ events.Fill (cell (region 0) 0) ∷ events.Fill (cell (region 0) 1) ∷ []
  -- a call without a shared event: directly after the writer's last entry, and where there is none, first of all
  pub after-the-last : joined_events 1 ((notified 3, 0 ∷ []) ∷ (configure (configs.Call container), []) ∷ (notified 3, 0 ∷ []) ∷ [])
      ≡ take_notifier ∷ config container ∷ look ∷ take_notifier ∷ []
  pub first-of-all : joined_events 0 ((configure (configs.Call container), []) ∷ (notified 3, 0 ∷ []) ∷ [])
      ≡ config container ∷ look ∷ take_notifier ∷ []
