-- What the calls of each listener replay to on the running machine.
use Rattle.std.specs.Prelude.{◌≡◌, ℕ, ◌+◌, List, flat_map, Some}
use Rattle.mem_base.specs.declared.map.ids.ListenerId.{ListenerId}
use Rattle.mem_base.specs.declared.machine.events.HistoryEntry.{HistoryEntry}
use Rattle.mem_base.specs.views.Replay.{replay}
use Rattle.mem_base.specs.views.Listening.{calls_to}
use Rattle.mem_base.specs.map.Limits.{notifier_count}
use Rattle.mem_base.specs.machine.Reaps.{first_writer}
use Rattle.mem_base.specs.machine.ListenerReplay.{listener_of, heard_of, told_forest}
use Rattle.mem_base.specs.machine.SharedHistory as running
use Rattle.mem_base.specs.machine.Turns.{Answered, turns, entries_of_turn, last_writer, writers_of}

-- the same of the running machine, in which the writer's entries are those of turns: in the writer's part that the last
-- turn leaves
abbrev pub TurnsReplay : Type 0
TurnsReplay = (pool_words passes : ℕ) (os : List Answered) (xs : List HistoryEntry) →
    running.IsSharedLegal (pool_words + notifier_count) passes xs →
    let ts = turns (first_writer pool_words passes) os in
    writers_of xs ≡ flat_map entries_of_turn ts → (id : ListenerId) →
    let h = last_writer (first_writer pool_words passes) ts in
    replay (calls_to id h.desk.listening.journal) ≡ Some (heard_of (told_forest h) (listener_of h.desk.listening.listeners id))
