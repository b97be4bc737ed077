-- What a listener is to have at each moment, and which calls it got since it joined.
-- QEMU's manual, "The memory API": a listener keeps its own map by the calls that it gets, and by nothing else.
use Rattle.std.specs.Prelude.{ℕ, Bool, false, ◌==◌, if◌then◌else◌, List, [], ◌∷◌, length, drop, find, Option, Some, None, Result, Ok}
use Rattle.mem_base.specs.declared.map.ids.ListenerId.{ListenerId}
use Rattle.mem_base.specs.declared.map.forests.Forest.{Forest}
use Rattle.mem_base.specs.declared.map.calls.Config.TheVariants as configs
use Rattle.mem_base.specs.declared.map.refusals.Refusal.{Refusal}
use Rattle.mem_base.specs.declared.views.listening.Listener.{Listener}
use Rattle.mem_base.specs.declared.views.listening.ListenerEvent.{ListenerEvent}
use Rattle.mem_base.specs.declared.machine.events.Event.{Event}
use Rattle.mem_base.specs.declared.machine.events.Event.TheVariants as events
use Rattle.mem_base.specs.declared.machine.events.Reply.{Reply}
use Rattle.mem_base.specs.views.Flattened.{view_of}
use Rattle.mem_base.specs.views.LiveEvents.{lives_of}
use Rattle.mem_base.specs.views.Replay.{ListenerState, nothing_heard}
use Rattle.mem_base.specs.views.Listening.{is_listener, calls_to}
use Rattle.mem_base.specs.machine.Reaps.{Writer}
use Rattle.mem_base.specs.machine.Publishing.{current_forest}
use Rattle.mem_base.specs.machine.World.{World, opening}
use Rattle.mem_base.specs.machine.History.{PureEntry, after_entry, after_entries}

-- the listener that has an id now
abbrev pub listener_of : List Listener → ListenerId → Option Listener
listener_of ls id = find (is_listener id) ls

-- what a listener is to have of a forest: the ranges of its space's view, and the ioeventfds that are live there
abbrev pub shown_to : Forest → Listener → ListenerState
shown_to f l = record { ranges = view_of f l.space; lives = lives_of f l.space; begun = false }

-- and where nobody listens, nothing
abbrev pub heard_of : Forest → Option Listener → ListenerState
heard_of f None = nothing_heard
heard_of f (Some l) = shown_to f l

-- the forest of which listeners were told last: the desk's while a publish is due, else the current generation's
abbrev pub told_forest : Writer → Forest
told_forest h = if h.desk.due then h.desk.forest else current_forest h.generations

-- a listener with this id joins by an entry
abbrev pub joins_by : ListenerId → Event → Result Reply Refusal → Bool
joins_by id (events.Config (configs.Listen listener space priority)) (Ok reply) = listener.0 == id.0
joins_by id e reply = false

-- how long the journal was when the listener with this id joined last; an id may leave and come back
abbrev pub joined_at : ListenerId → ℕ → World → List PureEntry → ℕ
joined_at id n w [] = n
joined_at id n w (x ∷ xs) =
    joined_at id (if joins_by id x.event x.reply then length w.writer.desk.listening.journal else n) (after_entry w x) xs

-- the calls that the listener with this id got since it joined, in a history from the world at first on
abbrev pub calls_since_joining : ListenerId → ℕ → ℕ → List PureEntry → List ListenerEvent
calls_since_joining id pool_words passes xs =
    let first = opening pool_words passes in
    calls_to id (drop (joined_at id 0 first xs) (after_entries first xs).writer.desk.listening.journal)
