-- What the laws of turns say of the history that the writer's seat has seen, with the private events of the turns put in.
use Rattle.std.specs.Prelude.{◌≡◌, ℕ, List, ◌∷◌, ◌++◌, Some}
use Rattle.mem_base.specs.declared.map.ids.ListenerId.{ListenerId}
use Rattle.mem_base.specs.map.PassIds.{PassId}
use Rattle.mem_base.specs.declared.map.ids.RegionId.{RegionId}
use Rattle.mem_base.specs.declared.map.kinds.Client.{Client}
use Rattle.mem_base.specs.declared.access.cells.Place.{Place}
use Rattle.mem_base.specs.declared.machine.events.Event.TheVariants as events
use Rattle.mem_base.specs.views.Replay.{replay}
use Rattle.mem_base.specs.views.Listening.{calls_to}
use Rattle.mem_base.specs.machine.History.{PureEntry, IsLegal, after_entry, after_entries}
use Rattle.mem_base.specs.machine.JoinedHistory.{joined_history}
use Rattle.mem_base.specs.machine.ListenerReplay.{listener_of, heard_of, told_forest}
use Rattle.mem_base.specs.machine.Reaps.{first_writer}
use Rattle.mem_base.specs.machine.Turns.{turns}
use Rattle.mem_base.specs.machine.World.{opening, place_in_world}
use Rattle.mem_base.specs.machine.CellHistories.{IsMarkKept}
use Rattle.generation.specs.Published.{Published}
use Rattle.epoch_rule.specs.Closing.{SeesWhole}
use Rattle.epoch_rule.specs.Values.{WriterValue}
use Rattle.cell_laws.specs.TurnCells.{ReusesReleased}
use Rattle.writer_run.specs.Taken.{part_told_before}
use Rattle.config_desk.specs.Configs.{ConfigState, IsOfTurns}

-- where no pass is out, it is the whole history: all that the desk and the passes did
abbrev pub HasSeenAll : WriterValue → Type 0
HasSeenAll v = SeesWhole {E = Published} (λ x. x.number) (λ x. x.forest) (λ x. x.places) v

-- what was seen, as a history of the pure machine
abbrev pub seen_by_turns : (c : ConfigState) → IsOfTurns c.seat c.part → List PureEntry
seen_by_turns c t = joined_history (turns (first_writer t.pool_words t.passes) t.orders) c.seat.seen

-- it is legal, and ends in the writer's part, with what was taken out of its journal
abbrev pub IsSeenLegal : ConfigState → Type 0
IsSeenLegal c = (t : IsOfTurns c.seat c.part) → IsLegal t.pool_words t.passes (seen_by_turns c t)
    × ((after_entries (opening t.pool_words t.passes) (seen_by_turns c t)).writer ≡ part_told_before t.taken c.part)

-- a step on a cell tells what the steps on it before left, from 0 on; and a word of the pool comes to another region only after the
-- region that had it was released
abbrev pub ReusesWords : ConfigState → Type 0
ReusesWords c = (t : IsOfTurns c.seat c.part) → ReusesReleased t.pool_words t.passes (seen_by_turns c t)

-- each mark of a page is told by the first event that takes its word, or its region was released before any did, or it still stands
abbrev pub KeepsMarks : ConfigState → Type 0
KeepsMarks c = (t : IsOfTurns c.seat c.part) (before after : List PureEntry) (x : PureEntry) (pass : PassId) (r : RegionId) (client : Client) (page : ℕ) →
    seen_by_turns c t ≡ before ++ x ∷ after → x.event ≡ events.Mark pass r client page →
    let w = after_entries (opening t.pool_words t.passes) before in
    (p : Place) → place_in_world w r ≡ Some p → IsMarkKept p client page (after_entry w x) after

-- all calls that an id got, those that were taken out of the journal and then those in it, replay to what its listener is to have
abbrev pub ReplaysToListeners : ConfigState → Type 0
ReplaysToListeners c = (t : IsOfTurns c.seat c.part) (id : ListenerId) →
    replay (calls_to id (t.taken ++ c.part.desk.listening.journal)) ≡ Some (heard_of (told_forest c.part) (listener_of c.part.desk.listening.listeners id))
