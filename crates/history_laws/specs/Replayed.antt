-- What the calls of each listener replay to, in every history of the pure machine.
use Rattle.std.specs.Prelude.{◌≡◌, ℕ, List, ◌++◌, length, drop, Some, None}
use Rattle.mem_base.specs.declared.map.ids.ListenerId.{ListenerId}
use Rattle.mem_base.specs.declared.views.listening.Listener.{Listener}
use Rattle.mem_base.specs.views.Replay.{replay}
use Rattle.mem_base.specs.views.Listening.{calls_to}
use Rattle.mem_base.specs.machine.World.{opening}
use Rattle.mem_base.specs.machine.ListenerReplay.{listener_of, shown_to, heard_of, told_forest, calls_since_joining}
use Rattle.mem_base.specs.machine.History.{PureEntry, after_entries, IsLegal}

-- all calls that an id ever got replay to what its listener is to have, or to nothing where it has left
abbrev pub AllCallsReplay : Type 0
AllCallsReplay = (pool_words passes : ℕ) (xs : List PureEntry) → IsLegal pool_words passes xs → (id : ListenerId) →
    let h = (after_entries (opening pool_words passes) xs).writer in
    replay (calls_to id h.desk.listening.journal) ≡ Some (heard_of (told_forest h) (listener_of h.desk.listening.listeners id))

-- the calls that each listener got since it joined replay to what it is to have
abbrev pub ListenersReplay : Type 0
ListenersReplay = (pool_words passes : ℕ) (xs : List PureEntry) → IsLegal pool_words passes xs → (id : ListenerId) (l : Listener) →
    let h = (after_entries (opening pool_words passes) xs).writer in
    listener_of h.desk.listening.listeners id ≡ Some l →
    replay (calls_since_joining id pool_words passes xs) ≡ Some (shown_to (told_forest h) l)

-- the same without a record of who joined when: from any moment on at which no listener has the id
abbrev pub LaterCallsReplay : Type 0
LaterCallsReplay = (pool_words passes : ℕ) (xs ys : List PureEntry) → IsLegal pool_words passes (xs ++ ys) → (id : ListenerId) →
    let before = (after_entries (opening pool_words passes) xs).writer.desk.listening in
    let h = (after_entries (opening pool_words passes) (xs ++ ys)).writer in
    listener_of before.listeners id ≡ None →
    replay (calls_to id (drop (length before.journal) h.desk.listening.journal)) ≡ Some (heard_of (told_forest h) (listener_of h.desk.listening.listeners id))
