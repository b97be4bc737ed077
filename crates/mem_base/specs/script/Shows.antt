-- The commands that ask what the current generation shows, and the watchers of IOMMU tables.
-- This project's own: a watcher is told the whole difference after the next command of the desk; a change that a virtual CPU
-- makes tells nobody by itself.
use Rattle.std.specs.Prelude.{ℕ, ◌+◌, [], ◌∷◌, ◌++◌, length, flat_map, Option, Some, None}
use Rattle.mem_base.specs.declared.map.ids.RegionId.{RegionId}
use Rattle.mem_base.specs.declared.map.ids.SpaceId.{SpaceId}
use Rattle.mem_base.specs.declared.map.ids.WatcherId.{WatcherId}
use Rattle.mem_base.specs.declared.map.forests.Forest.{Forest}
use Rattle.mem_base.specs.declared.map.refusals.Refusal.{Refusal}
use Rattle.mem_base.specs.map.Search.{look}
use Rattle.mem_base.specs.views.Flattened.{view_of}
use Rattle.mem_base.specs.machine.Publishing.{current_forest}
use Rattle.mem_base.specs.script.Spelling.{Text}
use Rattle.mem_base.specs.script.Watching.{Watcher, watch_refusal, parts_shown, with_parts, notices_of, caught_up, notices_all, with_number, without_number}
use Rattle.mem_base.specs.script.RefusalLines.{refusal_text, refused_line}
use Rattle.mem_base.specs.script.SpotLines.{at_line, range_lines, view_line}
use Rattle.mem_base.specs.script.Output.{notice_lines}
use Rattle.mem_base.specs.script.States.{Outcome, watcher_named, writes, where_new, State}

-- What the current generation shows

-- the forest of the current generation
abbrev pub shown_forest : State → Forest
shown_forest state = current_forest state.world.writer.generations

-- the view of a space, a line for each range
abbrev pub show : State → Text → SpaceId → Outcome
show state space s =
    writes state (view_line space state.world.writer.generations.current ++ range_lines state.names (view_of (shown_forest state) s))

-- the spot at an address of a space
abbrev pub at : State → Text → ℕ → SpaceId → Outcome
at state space addr s = writes state (at_line state.names space addr (look (shown_forest state) s addr))

-- Watchers

-- a watcher joins and is told the parts of its range; watchers are numbered in order of joining
abbrev pub joins : State → Text → Watcher → Outcome
joins state name w =
    let names = record state.names { notifiers = state.names.notifiers ++ name ∷ [] } in
    let parts = parts_shown (shown_forest state) w in
    (notice_lines names (notices_of parts w), record state { names = names; watchers = state.watchers ++ with_parts parts w ∷ [] })

-- a watcher joins, unless it is refused
abbrev pub joins_unless : State → ℕ → Option Refusal → Text → Watcher → Outcome
joins_unless state line None name w = joins state name w
joins_unless state line (Some why) name w = writes state (refused_line line (refusal_text state.names why))

-- a watcher with a new name joins, for a range of a region's table
abbrev pub watch : State → ℕ → Text → RegionId → ℕ → ℕ → Outcome
watch state line name region first last =
    where_new state line name (watcher_named state name)
    (joins_unless state line (watch_refusal state.watchers first last) name (record {
      id = record { 0 = length state.names.notifiers };
      region = region;
      first = first;
      last = last;
      parts = [];
    }))

-- a watcher leaves, and is told that the parts which it has are gone
abbrev pub unwatch : State → WatcherId → Outcome
unwatch state id = (
  notice_lines state.names (flat_map (notices_of []) (with_number id.0 state.watchers)),
  record state { watchers = without_number id.0 state.watchers },
)

-- all watchers catch up with the current generation after a command
abbrev pub catches_up : Outcome → Outcome
catches_up x =
    let f = shown_forest x.1 in
    (x.0 ++ notice_lines x.1.names (notices_all f x.1.watchers), record x.1 { watchers = caught_up f x.1.watchers })
