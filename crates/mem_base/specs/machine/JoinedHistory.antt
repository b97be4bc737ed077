-- A shared history read as one of the pure machine: its steps on pool words as steps on the cells that they name, and
-- the private events of the writer's calls put in. Where a private event stands is told by three rules:
--   it stands directly after the last Sweep of its call;
--   where its call has no Sweep, it stands directly before the call's first Fill (in a machine without passes, its Publish);
--   where its call has no shared event, it stands directly after the writer's last entry before it.
use Rattle.std.specs.Prelude.{◌≡◌, ℕ, ◌+◌, Bool, true, false, ◌==◌, ◌&&◌, not, if◌then◌else◌, List, [], ◌∷◌, ◌++◌, map, filter, length}
use Rattle.std.specs.Prelude.{flat_map, Option, Some, None, Result, Ok}
use Rattle.mem_base.specs.declared.map.forests.Forest.{Forest}
use Rattle.mem_base.specs.declared.map.calls.Config.{Config}
use Rattle.mem_base.specs.declared.map.refusals.Refusal.{Refusal}
use Rattle.mem_base.specs.declared.machine.events.Event.{Event}
use Rattle.mem_base.specs.declared.machine.events.Event.TheVariants as events
use Rattle.mem_base.specs.declared.machine.events.Carried.{Carried}
use Rattle.mem_base.specs.declared.machine.events.Carried.TheVariants.{Edition}
use Rattle.mem_base.specs.declared.machine.events.HistoryEntry.{HistoryEntry}
use Rattle.mem_base.specs.declared.machine.events.Reply.{Reply}
use Rattle.mem_base.specs.declared.machine.events.Reply.TheVariants.{Number, Old, Done}
use Rattle.mem_base.specs.map.Limits.{notifier_count}
use Rattle.mem_base.specs.map.Calls.{empty}
use Rattle.mem_base.specs.machine.Committed.{committed_forests}
use Rattle.mem_base.specs.machine.Histories.{last_of, first_of}
use Rattle.mem_base.specs.machine.Reaps.{first_writer}
use Rattle.mem_base.specs.machine.World as pure
use Rattle.mem_base.specs.machine.History.{PureEntry, pure_entry, after_entries}
use Rattle.mem_base.specs.machine.History as pure_history
use Rattle.mem_base.specs.machine.SharedHistory as running
use Rattle.mem_base.specs.machine.Turns.{Answered, WriterCall, turns, entries_of_turn, last_writer, is_writers, writers_of}

-- a number as the pure machine answers it
abbrev pub reply_read : Event → ℕ → Result Reply Refusal
reply_read (events.Look pass) number = Ok (Number number)
reply_read (events.Enter pass) number = Ok (Number number)
reply_read (events.Sweep pass) number = Ok (Number number)
reply_read events.Publish number = Ok (Number number)
reply_read (events.Word hand c step) number = Ok (Old number)
reply_read (events.Harvest region client index) number = Ok (Old number)
reply_read _ number = Ok Done

-- a shared entry as one of the pure machine
abbrev pub read : HistoryEntry → PureEntry
read x = pure_entry x.event (reply_read x.event x.reply)

-- the writer's row: its entries in the shared history, each the next one there, and its private events between them
pub data RowPart : Type 0 where
  next_entry : RowPart
  after_last : PureEntry → RowPart  -- a private event directly after the writer's entry before it
  before_next : PureEntry → RowPart  -- a private event directly before the writer's next entry

-- a call without a Sweep that has events after its private one: the private event waits for the first of them, a Fill (in
-- a machine without passes, the Publish)
abbrev pub waits_for_fill : WriterCall → Bool
waits_for_fill t = (length t.before == 0) && not (length t.after == 0)

-- where a private entry may stand: before the writer's next shared entry, where the turn waits for a place to be filled, or else after
-- its last
abbrev pub private_part : WriterCall → PureEntry → RowPart
private_part t x = if waits_for_fill t then before_next x else after_last x

-- the row of one turn
abbrev pub row_of : WriterCall → List RowPart
row_of t = map (λ x. next_entry) t.before ++ map (private_part t) t.private ++ map (λ x. next_entry) t.after

-- the private events that stand before the writer's next entry
abbrev pub before_entry : List RowPart → List PureEntry
before_entry (after_last x ∷ ps) = x ∷ before_entry ps
before_entry (before_next x ∷ ps) = x ∷ before_entry ps
before_entry _ = []

-- of these, the ones that stand directly after the writer's last entry, and the row after them
abbrev pub at_once : List RowPart → List PureEntry
at_once (after_last x ∷ ps) = x ∷ at_once ps
at_once _ = []

-- the parts that are left once private entries at the front are passed
abbrev pub past_at_once : List RowPart → List RowPart
past_at_once (after_last x ∷ ps) = past_at_once ps
past_at_once ps = ps

-- the row after the writer's next entry
abbrev pub past_entry : List RowPart → List RowPart
past_entry [] = []
past_entry (next_entry ∷ ps) = ps
past_entry (_ ∷ ps) = past_entry ps

-- the history with the private events of a row put in: an entry of a pass stays where it is, and one of the writer has
-- before it the private events that wait for it and directly after it those that stand there
abbrev pub put_in : List RowPart → List HistoryEntry → List PureEntry
put_in ps [] = before_entry ps
put_in ps (x ∷ xs) =
    if is_writers x.event then before_entry ps ++ (read x ∷ at_once (past_entry ps)) ++ put_in (past_at_once (past_entry ps)) xs
    else read x ∷ put_in ps xs

-- the shared history with the private events of these turns in it; those before all shared events stand first
abbrev pub joined_history : List WriterCall → List HistoryEntry → List PureEntry
joined_history ts xs = let ps = flat_map row_of ts in at_once ps ++ put_in (past_at_once ps) xs

-- the private events that were accepted, reaps left out: calls, begins, commits, and listeners that join or leave
abbrev pub accepted_one : Event → Result Reply Refusal → List Config
accepted_one (events.Config k) (Ok reply) = k ∷ []
accepted_one e reply = []

-- those of a history, in order
abbrev pub accepted : List PureEntry → List Config
accepted xs = flat_map (λ x. accepted_one x.event x.reply) xs

-- the calls that were accepted in some turns, in order
abbrev pub accepted_in : List WriterCall → List Config
accepted_in ts = accepted (flat_map (λ t. t.private) ts)

-- the forests that the Publishes of a history carry
abbrev pub forest_carried : Carried → List Forest
forest_carried (Edition forest places) = forest ∷ []
forest_carried _ = []

-- the forests that some entries published, in order
abbrev pub published_forests : List HistoryEntry → List Forest
published_forests xs = flat_map (λ x. forest_carried x.carried) xs

-- which entries a joined history keeps, and where

-- the event is one that the running machine's history does not show
abbrev pub is_private : Event → Bool
is_private (events.Config k) = true
is_private events.Reap = true
is_private e = false

-- the entries of a history that the running machine's shows, and those that it does not
abbrev pub shared_entries : List PureEntry → List PureEntry
shared_entries ys = filter (λ y. not (is_private y.event)) ys

-- the private entries of a history, in order
abbrev pub private_entries_in : List PureEntry → List PureEntry
private_entries_in ys = filter (λ y. is_private y.event) ys

-- of the former, the writer's
abbrev pub writers_shared : List PureEntry → List PureEntry
writers_shared ys = filter (λ y. is_writers y.event) (shared_entries ys)

-- where there is an entry, it is the writer's
abbrev pub IsWritersOrNone : Option PureEntry → Type 0
IsWritersOrNone None = Unit {0}
IsWritersOrNone (Some y) = is_writers y.event ≡ true

-- what stands beside a private entry, by the shared entries of its call before it and after it: with Sweeps before
-- it, the last of them directly before it; without, the first one after it directly after it; and where its call has
-- no shared entry, an entry of the writer directly before it, or none at all
abbrev pub StandsBeside : List HistoryEntry → List HistoryEntry → List PureEntry → List PureEntry → Type 0
StandsBeside [] [] before after = IsWritersOrNone (last_of before)
StandsBeside [] (x ∷ xs) before after = first_of after ≡ Some (read x)
StandsBeside (x ∷ xs) _ before after = last_of before ≡ last_of (map read (x ∷ xs))

-- the private entry of a call stands at its place in a history: what is before it and after it, and which of the
-- writer's shared entries are before it, namely those of the calls before and those of its own that are made first
pub record IsPlaced (done : List WriterCall) (t : WriterCall) (y : PureEntry) (ys : List PureEntry) : Type 0 where
  pub before : List PureEntry
  pub after : List PureEntry
  pub parts : ys ≡ before ++ y ∷ after
  pub row : writers_shared before ≡ map read (flat_map entries_of_turn done ++ t.before)
  pub beside : StandsBeside t.before t.after before after

-- what joins turns and a shared history to the pure machine: the history so read is legal, it ends in the writer's
-- part of the last turn, and the forest of its n-th Publish is the n-th committed forest
pub record IsJoined (pool_words passes : ℕ) (ts : List WriterCall) (xs : List HistoryEntry) : Type 0 where
  -- its shared entries are those of the shared history, and its private ones those of the turns, each in their order
  pub shared : shared_entries (joined_history ts xs) ≡ map read xs
  pub private : private_entries_in (joined_history ts xs) ≡ flat_map (λ t. t.private) ts
  -- each private entry stands at its place
  pub placed : (done rest : List WriterCall) (t : WriterCall) (y : PureEntry) → ts ≡ done ++ t ∷ rest → t.private ≡ y ∷ []
      → IsPlaced done t y (joined_history ts xs)
  pub legal : pure_history.IsLegal pool_words passes (joined_history ts xs)
  pub ends : (after_entries (pure.opening pool_words passes) (joined_history ts xs)).writer ≡ last_writer (first_writer pool_words passes) ts
  pub forests : empty ∷ published_forests xs ≡ committed_forests (accepted_in ts)

-- the law: of a legal shared history in which the writer's entries are those of turns from the first writer's part on
abbrev pub TurnsJoin : Type 0
TurnsJoin = (pool_words passes : ℕ) (os : List Answered) (xs : List HistoryEntry) →
    running.IsSharedLegal (pool_words + notifier_count) passes xs →
    writers_of xs ≡ flat_map entries_of_turn (turns (first_writer pool_words passes) os) →
    IsJoined pool_words passes (turns (first_writer pool_words passes) os) xs
