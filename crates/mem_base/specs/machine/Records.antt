-- The record of a desk that several actors share: its orders one after another, each one a turn of the writer, with who gave
-- it and what it answered.
-- This project's own rule: the actors hold the desk one at a time, for one order each.
use Rattle.std.specs.Prelude.{◌≡◌, ◌≢◌, ◌⊎◌, ℕ, ◌<◌, ◌==◌, not, if◌then◌else◌, List, [], ◌∷◌, length, filter, find, take}
use Rattle.std.specs.Prelude.{slice_get, option_map, Option, Some, None, Ok, Err}
use Rattle.std.specs.List.{list_any}
use Rattle.mem_base.specs.declared.map.calls.Config.TheVariants as configs
use Rattle.mem_base.specs.declared.machine.records.DeskOrder.{DeskOrder}
use Rattle.mem_base.specs.declared.machine.records.DeskOrder.TheVariants as orders
use Rattle.mem_base.specs.declared.machine.records.DeskAnswer.{DeskAnswer}
use Rattle.mem_base.specs.declared.machine.records.DeskAnswer.TheVariants as answers
use Rattle.mem_base.specs.declared.machine.records.DeskEntry.{DeskEntry}
use Rattle.mem_base.specs.declared.machine.records.Differs.{Differs}
use Rattle.mem_base.specs.lists.Every.{Every}
use Rattle.mem_base.specs.map.Limits.{notifier_count}
use Rattle.mem_base.specs.map.Forest.{FitsTypes}
use Rattle.mem_base.specs.machine.Reaps.{Writer}
use Rattle.mem_base.specs.machine.Orders.{Order, configure, reap, load, harvest, notified, current}
use Rattle.mem_base.specs.machine.Answers.{Answer, call_answer, commit_answer, plain_answer, reap_answer, harvest_answer, notifier_answer}
use Rattle.mem_base.specs.machine.Answers.{journal_answer, current_answer}
use Rattle.mem_base.specs.machine.Turns.{Answered, WriterCall, turn}

-- the call of the writer that an order asks for
abbrev pub call_of : DeskOrder → Order
call_of orders.Begin = configure configs.Begin
call_of (orders.Call call) = configure (configs.Call call)
call_of orders.Commit = configure configs.Commit
call_of orders.Reap = reap
call_of (orders.Listen listener space priority) = configure (configs.Listen listener space priority)
call_of (orders.Unlisten listener) = configure (configs.Unlisten listener)
call_of (orders.Load region offset bytes) = load region offset bytes
call_of (orders.Harvest region client) = harvest region client
call_of (orders.Notified number) = notified number
call_of orders.Look = current

-- what is asked of an order: its call fits its types, and a notifier is one of those that there are
abbrev pub FitsDeskOrder : DeskOrder → Type 0
FitsDeskOrder (orders.Call call) = FitsTypes call
FitsDeskOrder (orders.Notified number) = number < notifier_count
FitsDeskOrder order = Unit {0}

-- what the desk answers, by what the writer's call answers
abbrev pub told : Answer → DeskAnswer
told (call_answer (Ok called)) = answers.Called called.0 called.1
told (call_answer (Err why)) = answers.Refused why
told (commit_answer (Ok number)) = answers.Committed number
told (commit_answer (Err why)) = answers.Refused why
told (plain_answer (Ok x)) = answers.Done
told (plain_answer (Err why)) = answers.Refused why
told (reap_answer (Ok regions)) = answers.Released regions
told (reap_answer (Err why)) = answers.Refused why
told (harvest_answer (Ok pages)) = answers.Pages pages
told (harvest_answer (Err why)) = answers.Refused why
told (notifier_answer value) = answers.Value value
told (journal_answer deliveries) = answers.Done
told (current_answer number generation) = answers.Looked number

-- an order that someone gave, with the replies that its shared events got
pub record Given : Type 0 where
  pub who : ℕ
  pub order : DeskOrder
  pub replies : List ℕ

-- an order as the writer takes it, with the replies that came
abbrev pub answered : Given → Answered
answered g = (call_of g.order, g.replies)

-- how many calls of listeners the journal has
abbrev pub journal_length : Writer → ℕ
journal_length w = length w.desk.listening.journal

-- the entry of an order, by the writer's part before it and its turn
abbrev pub entry_of : Writer → Given → WriterCall → DeskEntry
entry_of w g t = record { who = g.who; order = g.order; answer = told t.answer; from = journal_length w; to = journal_length t.writer }

-- the entries of these orders, one after another
abbrev pub recorded : Writer → List Given → List DeskEntry
recorded w [] = []
recorded w (g ∷ gs) = let t = turn w (call_of g.order) g.replies in entry_of w g t ∷ recorded t.writer gs

-- What an actor got: a clerk's list

-- one actor's part of a record: who it is, and what it got for each of its orders
pub record Clerk : Type 0 where
  pub who : ℕ
  pub got : List DeskEntry

-- the entries of one actor
abbrev pub entries_by : ℕ → List DeskEntry → List DeskEntry
entries_by who entries = filter (λ e. e.who == who) entries

-- what the actor of this number got
abbrev pub got_by : ℕ → List Clerk → List DeskEntry
got_by who [] = []
got_by who (c ∷ cs) = if c.who == who then c.got else got_by who cs

-- the clerk's list is what the record has of its actor
abbrev pub IsOfRecord : List DeskEntry → Clerk → Type 0
IsOfRecord entries c = c.got ≡ entries_by c.who entries

-- the two lists are the same before this place and not at it
abbrev pub DifferAt : ℕ → List DeskEntry → List DeskEntry → Type 0
DifferAt at xs ys = (take at xs ≡ take at ys) × (slice_get xs at ≢ slice_get ys at)

-- the first entry by someone who is no clerk
abbrev pub first_stray : List Clerk → List DeskEntry → Option DeskEntry
first_stray clerks entries = find (λ e. not (list_any (λ c. c.who == e.who) clerks)) entries

-- some clerk's list is not what the record has of its actor: the first such clerk, and the first place in its list that
-- differs; or no clerk's, and then the first entry by someone who is no clerk
abbrev pub HasDiffering : List DeskEntry → List Clerk → List Clerk → Differs → Type 0
HasDiffering entries all [] d = (option_map (λ e. e.who) (first_stray all entries) ≡ Some d.who) × (d.at ≡ 0)
HasDiffering entries all (c ∷ cs) d =
    (IsOfRecord entries c × HasDiffering entries all cs d) ⊎ ((d.who ≡ c.who) × DifferAt d.at c.got (entries_by c.who entries))

-- how the clerks' lists stand to the record: they are what it has, or where they are not
abbrev pub Closes : List DeskEntry → List Clerk → Option Differs → Type 0
Closes entries clerks None = Every (IsOfRecord entries) clerks × (first_stray clerks entries ≡ None)
Closes entries clerks (Some d) = HasDiffering entries clerks clerks d
