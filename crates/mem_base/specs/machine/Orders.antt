-- What the writer is asked to do, as a list of events: those before its private event, that event, and those after
-- it. The pure machine and the running one share this.
-- A publish is a sweep of each pass, the listeners' calls, a copy for each pass, and the store of the next number. A
-- region with words is made and then cleared. This project's own order.
use Rattle.std.specs.Prelude.{ℕ, ◌+◌, ◌/◌, Bool, nat_lt, if◌then◌else◌, List, [], ◌∷◌, ◌++◌, map, length, Option, Some, None}
use Rattle.std.specs.List.{range_with_len}
use Rattle.mem_base.specs.declared.map.ids.RegionId.{RegionId}
use Rattle.mem_base.specs.map.PassIds.{PassId}
use Rattle.mem_base.specs.declared.map.forests.Forest.{Forest}
use Rattle.mem_base.specs.declared.map.forests.Node.{Node}
use Rattle.mem_base.specs.declared.map.kinds.Client.{Client}
use Rattle.mem_base.specs.declared.map.calls.Config.{Config}
use Rattle.mem_base.specs.declared.map.refusals.Refusal.{Refusal}
use Rattle.mem_base.specs.declared.map.refusals.Refusal.TheVariants.{BadSize}
use Rattle.mem_base.specs.declared.access.cells.Place.{Place}
use Rattle.mem_base.specs.declared.access.cells.WordStep.TheVariants.{Take}
use Rattle.mem_base.specs.declared.machine.events.Hand.TheVariants as hands
use Rattle.mem_base.specs.declared.machine.events.Event.{Event}
use Rattle.mem_base.specs.declared.machine.events.Event.TheVariants as events
use Rattle.mem_base.specs.map.Limits.{word_size}
use Rattle.mem_base.specs.map.Region.{node_of}
use Rattle.mem_base.specs.map.Kinds.{has_bytes}
use Rattle.mem_base.specs.map.Refusals.{first_refusal, refuse_where, unknown_region, wrong_kind}
use Rattle.mem_base.specs.access.PlacesByRegion.{place_in}
use Rattle.mem_base.specs.lists.Runs.{touched}
use Rattle.mem_base.specs.access.Places.{mark_words}
use Rattle.mem_base.specs.access.Cells.{cell, notifier_cell}
use Rattle.mem_base.specs.access.MemoryAccess.{replaces}
use Rattle.mem_base.specs.machine.Passes.{pass_id}
use Rattle.mem_base.specs.machine.Generations.{Generations}
use Rattle.mem_base.specs.machine.Desk.{Desk, places_of}
use Rattle.mem_base.specs.machine.Reaps.{Writer}
use Rattle.mem_base.specs.machine.Publishing.{would_publish}

-- what the writer may be asked for
pub data Order : Type 0 where
  configure : Config → Order  -- a call, a begin, a commit, a listener that joins or leaves
  reap : Order
  load : RegionId → ℕ → List ℕ → Order  -- bytes into a region, from an offset on
  harvest : RegionId → Client → Order
  notified : ℕ → Order  -- take a notifier
  journal : Order
  current : Order

-- the passes, ascending
abbrev pub pass_ids : Generations → List PassId
pass_ids g = map pass_id (range_with_len 0 (length g.passes))

-- a sweep of each pass
abbrev pub sweeps : Generations → List Event
sweeps g = map (λ pass. events.Sweep pass) (pass_ids g)

-- a copy of the next generation for each pass, and then it is current
abbrev pub publishes : Generations → List Event
publishes g = map (λ pass. events.Place pass) (pass_ids g) ++ events.Publish ∷ []

-- the region ends before the last of these bytes
abbrev pub ends_past : ℕ → ℕ → Node → Bool
ends_past offset count n = nat_lt n.size (offset + count)

-- why bytes are not loaded: the region is unknown, has no bytes that the machine keeps, or ends before them
abbrev pub load_refusal : Forest → RegionId → ℕ → ℕ → Option Refusal
load_refusal f region offset count =
    first_refusal (unknown_region f region ∷ wrong_kind has_bytes f region ∷ refuse_where (ends_past offset count) BadSize (node_of f.nodes region) ∷ [])

-- why marks are not harvested: the region is unknown, or has no bytes that the machine keeps
abbrev pub harvest_refusal : Forest → RegionId → Option Refusal
harvest_refusal f region = first_refusal (unknown_region f region ∷ wrong_kind has_bytes f region ∷ [])

-- these events, or none where there is a refusal
abbrev pub unless : Option Refusal → List Event → List Event
unless None otherwise = otherwise
unless (Some why) otherwise = []

-- a load replaces the touched bytes of each word, ascending
abbrev pub loads : RegionId → ℕ → List ℕ → List Event
loads region offset bytes =
    map (λ w. events.Word hands.Writer (cell region (w.start / word_size)) (replaces offset bytes w)) (touched word_size offset (length bytes))

-- how many mark words a client has at a place; none where there is no place
abbrev pub mark_words_at : Option Place → ℕ
mark_words_at None = 0
mark_words_at (Some p) = mark_words p.bytes

-- one swap for each mark word of the client, ascending
abbrev pub harvests : Desk → RegionId → Client → List Event
harvests d region client =
    map (λ index. events.Harvest region client index) (range_with_len 0 (mark_words_at (place_in (places_of d) region)))

-- the events before the private one: a publish and a reap sweep every pass
abbrev pub events_before : Writer → Order → List Event
events_before w (configure k) = if would_publish w.desk k then sweeps w.generations else []
events_before w reap = sweeps w.generations
events_before w _ = []

-- the private event
abbrev pub private_of : Order → List Event
private_of (configure k) = events.Config k ∷ []
private_of reap = events.Reap ∷ []
private_of _ = []

-- the events after it, in the writer's part that it left
abbrev pub events_after : Writer → Order → List Event
events_after w (configure k) = if w.desk.due then publishes w.generations else map (λ c. events.Fill c) w.desk.unfilled
events_after w (load region offset bytes) = unless (load_refusal w.desk.forest region offset (length bytes)) (loads region offset bytes)
events_after w (harvest region client) = unless (harvest_refusal w.desk.forest region) (harvests w.desk region client)
events_after w (notified number) = events.Word hands.Writer (notifier_cell number) Take ∷ []
events_after w _ = []
