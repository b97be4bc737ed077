-- That turns end in the world that the writer's part and the shared state of the running machine show.
use Rattle.std.specs.Prelude.{◌≡◌, ℕ, ◌+◌, true, false, List, [], ◌∷◌, ◌++◌, map, flat_map}
use Rattle.mem_base.specs.map.PassIds.{PassId}
use Rattle.mem_base.specs.declared.map.ids.SpaceId.{SpaceId}
use Rattle.mem_base.specs.declared.machine.events.HistoryEntry.{HistoryEntry}
use Rattle.mem_base.specs.lists.Every.{Every}
use Rattle.mem_base.specs.map.Limits.{notifier_count}
use Rattle.mem_base.specs.access.AccessSteps.{Transfer}
use Rattle.mem_base.specs.machine.Reaps.{Writer, first_writer}
use Rattle.mem_base.specs.machine.World.{World, opening, is_at_rest}
use Rattle.mem_base.specs.machine.History.{PureEntry, after_entries, run_events}
use Rattle.mem_base.specs.machine.SharedHistory.{Shared, shared_opening, after_shared_entries, IsSharedLegal}
use Rattle.mem_base.specs.machine.Orders.{Order}
use Rattle.mem_base.specs.machine.Composites.{accessed, completed}
use Rattle.mem_base.specs.machine.Turns.{Answered, WriterCall, turn, turns, entries_of_turn, is_writers, last_writer, writers_of}
use Rattle.mem_base.specs.machine.JoinedHistory.{joined_history, read}
use Rattle.mem_base.specs.machine.ShownWorlds.{world_shown}

-- a shared history and turns end in a world: it is at rest, what the writer knows of the generations is what they are, and
-- the joined history leads to just the world that is shown
pub record EndsIn (pool_words passes : ℕ) (ts : List WriterCall) (xs : List HistoryEntry) (h : Writer) (s : Shared) : Type 0 where
  pub rests : is_at_rest h.desk ≡ true
  pub generations : s.generations ≡ h.generations
  pub leads : after_entries (opening pool_words passes) (joined_history ts xs) ≡ world_shown h s

-- so it is of every legal shared history in which the writer's entries are those of turns from the first writer's part on
abbrev pub TurnsEndIn : Type 0
TurnsEndIn = (pool_words passes : ℕ) (os : List Answered) (xs : List HistoryEntry) → IsSharedLegal (pool_words + notifier_count) passes xs →
    let ts = turns (first_writer pool_words passes) os in
    writers_of xs ≡ flat_map entries_of_turn ts →
    EndsIn pool_words passes ts xs (last_writer (first_writer pool_words passes) ts)
    (after_shared_entries (shared_opening (pool_words + notifier_count) passes) xs)

-- the entries of a turn as those of the pure machine, its private one among them
abbrev pub entries_read : WriterCall → List PureEntry
entries_read t = map read t.before ++ (t.private ++ map read t.after)

-- a turn is the call of the pure machine in a world: the same entries with the same replies, the same answer, the same
-- writer's part after it; and what is shown after it is the world after the call
pub record IsCompletedTurn (w : World) (k : Order) (t : WriterCall) (after : Shared) : Type 0 where
  pub entries : entries_read t ≡ (completed w k).entries
  pub answer : t.answer ≡ (completed w k).answer
  pub writer : t.writer ≡ (completed w k).world.writer
  pub world : world_shown t.writer after ≡ (completed w k).world

-- where the shared entries of one more turn follow one another, with no other entry between, and stand last
abbrev pub TurnIsCompleted : Type 0
TurnIsCompleted = (pool_words passes : ℕ) (os : List Answered) (xs : List HistoryEntry) (k : Order) (replies : List ℕ) →
    let ts = turns (first_writer pool_words passes) os in
    let h = last_writer (first_writer pool_words passes) ts in
    let t = turn h k replies in
    let s = after_shared_entries (shared_opening (pool_words + notifier_count) passes) xs in
    writers_of xs ≡ flat_map entries_of_turn ts →
    IsSharedLegal (pool_words + notifier_count) passes (xs ++ entries_of_turn t) →
    IsCompletedTurn (world_shown h s) k t (after_shared_entries s (entries_of_turn t))

-- entries of a pass are one access of the pure machine in a world, and what is shown after them is the world after it
pub record IsAccessedRun (w : World) (h : Writer) (pass : PassId) (space : SpaceId) (addr : ℕ) (transfer : Transfer) (ys : List HistoryEntry) (after : Shared)
    : Type 0 where
  pub entries : map read ys ≡ (accessed w pass space addr transfer).entries
  pub writer : (accessed w pass space addr transfer).world.writer ≡ h
  pub world : world_shown h after ≡ (accessed w pass space addr transfer).world

-- where the events of an access follow one another, with no other entry between, and stand last; the replies are then those of
-- the pure machine, so the bytes that are read are too
abbrev pub AccessIsAccessed : Type 0
AccessIsAccessed = (pool_words passes : ℕ) (os : List Answered) (xs ys : List HistoryEntry) (pass : PassId) (space : SpaceId) (addr : ℕ) (transfer : Transfer) →
    let ts = turns (first_writer pool_words passes) os in
    let h = last_writer (first_writer pool_words passes) ts in
    let s = after_shared_entries (shared_opening (pool_words + notifier_count) passes) xs in
    writers_of xs ≡ flat_map entries_of_turn ts →
    IsSharedLegal (pool_words + notifier_count) passes (xs ++ ys) →
    map (λ y. y.event) ys ≡ map (λ y. y.event) (accessed (world_shown h s) pass space addr transfer).entries →
    IsAccessedRun (world_shown h s) h pass space addr transfer ys (after_shared_entries s ys)

-- any entries of passes that follow one another and stand last are a run of their events in the world that is shown before them
pub record IsPassRun (w : World) (h : Writer) (ys : List HistoryEntry) (after : Shared) : Type 0 where
  pub entries : map read ys ≡ (run_events w (map (λ y. y.event) ys)).entries
  pub world : world_shown h after ≡ (run_events w (map (λ y. y.event) ys)).world

abbrev pub PassEntriesRun : Type 0
PassEntriesRun = (pool_words passes : ℕ) (os : List Answered) (xs ys : List HistoryEntry) →
    let ts = turns (first_writer pool_words passes) os in
    let h = last_writer (first_writer pool_words passes) ts in
    let s = after_shared_entries (shared_opening (pool_words + notifier_count) passes) xs in
    writers_of xs ≡ flat_map entries_of_turn ts →
    IsSharedLegal (pool_words + notifier_count) passes (xs ++ ys) →
    Every (λ y. is_writers y.event ≡ false) ys →
    IsPassRun (world_shown h s) h ys (after_shared_entries s ys)

-- after one more turn, or more entries of passes, the writer's entries are those of turns again
pub record GoesOn (h : Writer) (os : List Answered) (xs : List HistoryEntry) : Type 0 where
  pub turn : (k : Order) (replies : List ℕ) → let t = turn (last_writer h (turns h os)) k replies in
      (writers_of (xs ++ entries_of_turn t) ≡ flat_map entries_of_turn (turns h (os ++ (k, replies) ∷ []))) ×
      (last_writer h (turns h (os ++ (k, replies) ∷ [])) ≡ t.writer)
  pub passes : (ys : List HistoryEntry) → Every (λ y. is_writers y.event ≡ false) ys → writers_of (xs ++ ys) ≡ flat_map entries_of_turn (turns h os)

abbrev pub TurnsGoOn : Type 0
TurnsGoOn = (h : Writer) (os : List Answered) (xs : List HistoryEntry) → writers_of xs ≡ flat_map entries_of_turn (turns h os) → GoesOn h os xs
