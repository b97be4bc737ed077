-- A turn: one call of the writer on the running machine, by the replies that its shared events got: those events, where its
-- private one stands, the writer's part after it, and its answer.
use Rattle.std.specs.Prelude.{ℕ, Bool, true, false, List, [], ◌∷◌, ◌++◌, map, filter, drop}
use Rattle.mem_base.specs.declared.machine.events.Hand.TheVariants as hands
use Rattle.mem_base.specs.declared.machine.events.Event.{Event}
use Rattle.mem_base.specs.declared.machine.events.Event.TheVariants as events
use Rattle.mem_base.specs.declared.machine.events.Carried.{Carried}
use Rattle.mem_base.specs.declared.machine.events.HistoryEntry.{HistoryEntry}
use Rattle.mem_base.specs.machine.Desk.{carried_by}
use Rattle.mem_base.specs.machine.Reaps.{Writer}
use Rattle.mem_base.specs.machine.Configs.{writer_after, private_reply}
use Rattle.mem_base.specs.machine.History.{PureEntry, pure_entry}
use Rattle.mem_base.specs.machine.Orders.{Order, events_before, private_of, events_after}
use Rattle.mem_base.specs.machine.Answers.{Answer, answer_to, first_or_zero}

-- an entry: its event, what it carries, and the reply
abbrev pub history_entry : Event → Carried → ℕ → HistoryEntry
history_entry event carried reply = record { event = event; carried = carried; reply = reply }

-- shared events of the writer as entries with their replies, the writer's part after them, and the replies left over
pub record Played : Type 0 where
  pub entries : List HistoryEntry
  pub writer : Writer
  pub replies : List ℕ

-- the writer makes some events, one after another: the entries, with what they carry and the replies that come, and the writer after
-- them
abbrev pub played : Writer → List Event → List ℕ → Played
played w [] replies = record { entries = []; writer = w; replies = replies }
played w (e ∷ es) replies =
    let carried = carried_by w.desk e in
    let number = first_or_zero replies in
    let rest = played (writer_after w e carried number) es (drop 1 replies) in
    record rest { entries = history_entry e carried number ∷ rest.entries }

-- private events with what they answer
abbrev pub private_entries : Writer → List Event → List PureEntry
private_entries w [] = []
private_entries w (e ∷ es) = pure_entry e (private_reply w e) ∷ private_entries (writer_after w e (carried_by w.desk e) 0) es

-- the writer's part after private events, which tell no number
abbrev pub after_private : Writer → List Event → Writer
after_private w [] = w
after_private w (e ∷ es) = after_private (writer_after w e (carried_by w.desk e) 0) es

-- the replies of some entries
abbrev pub replies_of : List HistoryEntry → List ℕ
replies_of xs = map (λ x. x.reply) xs

-- what one turn of the writer makes: its shared entries before and after the private ones, the writer after it, and the answer
pub record WriterCall : Type 0 where
  pub before : List HistoryEntry
  pub private : List PureEntry
  pub after : List HistoryEntry
  pub writer : Writer
  pub answer : Answer

-- the turn of an order, with the replies that come
abbrev pub turn : Writer → Order → List ℕ → WriterCall
turn w k replies =
    let before = played w (events_before w k) replies in
    let middle = after_private before.writer (private_of k) in
    let later = played middle (events_after middle k) before.replies in record {
      before = before.entries;
      private = private_entries before.writer (private_of k);
      after = later.entries;
      writer = later.writer;
      answer = answer_to before.writer middle k (replies_of later.entries);
    }

-- the shared events of a turn
abbrev pub entries_of_turn : WriterCall → List HistoryEntry
entries_of_turn t = t.before ++ t.after

-- an order with the replies that its shared events got
abbrev pub Answered : Type 0
Answered = Order × List ℕ

-- the turns of these orders, one after another
abbrev pub turns : Writer → List Answered → List WriterCall
turns w [] = []
turns w (o ∷ os) = let t = turn w o.0 o.1 in t ∷ turns t.writer os

-- the writer's part after the last of them
abbrev pub last_writer : Writer → List WriterCall → Writer
last_writer w [] = w
last_writer w (t ∷ ts) = last_writer t.writer ts

-- the event is one of the writer's
abbrev pub is_writers : Event → Bool
is_writers (events.Look pass) = false
is_writers (events.Announce pass) = false
is_writers (events.Enter pass) = false
is_writers (events.Leave pass) = false
is_writers (events.Word (hands.Pass pass) c step) = false
is_writers (events.Mark pass region client page) = false
is_writers e = true

-- the writer's entries in a history
abbrev pub writers_of : List HistoryEntry → List HistoryEntry
writers_of xs = filter (λ x. is_writers x.event) xs
