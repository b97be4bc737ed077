-- What an order's receipt tells.
use Rattle.std.specs.Prelude.{◌≡◌, ◌≢◌, ℕ, ◌<◌, true, List, length, Option, Some, None}
use Rattle.std.specs.List.{list_any}
use Rattle.atomic_table.specs.Seated.{TableId}
use Rattle.mem_base.specs.declared.map.calls.Applied.{Applied}
use Rattle.mem_base.specs.declared.map.calls.Applied.TheVariants as applied
use Rattle.mem_base.specs.declared.map.calls.Call.{Call}
use Rattle.mem_base.specs.declared.map.calls.Call.TheVariants as calls
use Rattle.mem_base.specs.declared.map.refusals.Refusal.TheVariants.{Memory}
use Rattle.mem_base.specs.declared.machine.events.HistoryEntry.{HistoryEntry}
use Rattle.mem_base.specs.declared.machine.records.DeskOrder.{DeskOrder}
use Rattle.mem_base.specs.declared.machine.records.DeskOrder.TheVariants as orders
use Rattle.mem_base.specs.declared.machine.records.DeskAnswer.{DeskAnswer}
use Rattle.mem_base.specs.declared.machine.records.DeskAnswer.TheVariants as answers
use Rattle.mem_base.specs.map.CallsShown.{ShowsCall}
use Rattle.mem_base.specs.machine.Actors.{generations_published, generation_published}
use Rattle.mem_base.specs.script.Race.{publishes_number}
use Rattle.generation.specs.Published.{Published}
use Rattle.epoch_rule.specs.Copies.{value_in}
use Rattle.desk_orders.specs.declared.orders.Receipt.{Receipt}

-- a reap, a notifier that is taken and a look are never refused
abbrev pub MayBeRefused : DeskOrder → Type 0
MayBeRefused orders.Reap = ⊥
MayBeRefused (orders.Notified number) = ⊥
MayBeRefused orders.Look = ⊥
MayBeRefused order = Unit {0}

-- a call that makes a region answers which one, and any other that it is done
abbrev pub IsAppliedTo : Call → Applied → Type 0
IsAppliedTo (calls.Region kind size) (applied.Made region) = Unit {0}
IsAppliedTo (calls.Region kind size) applied.Done = ⊥
IsAppliedTo call (applied.Made region) = ⊥
IsAppliedTo call applied.Done = Unit {0}

-- what is published has a number above 0
abbrev pub IsNew : Option ℕ → Type 0
IsNew None = Unit {0}
IsNew (Some number) = 0 < number

-- the answer is one that the order can have; want of memory is none
abbrev pub IsAnswerTo : DeskOrder → DeskAnswer → Type 0
IsAnswerTo orders.Begin answers.Done = Unit {0}
IsAnswerTo (orders.Call call) (answers.Called applied number) = IsAppliedTo call applied × IsNew number
IsAnswerTo orders.Commit (answers.Committed number) = IsNew number
IsAnswerTo orders.Reap (answers.Released regions) = Unit {0}
IsAnswerTo (orders.Listen listener space priority) answers.Done = Unit {0}
IsAnswerTo (orders.Unlisten listener) answers.Done = Unit {0}
IsAnswerTo (orders.Load region offset bytes) answers.Done = Unit {0}
IsAnswerTo (orders.Harvest region client) (answers.Pages pages) = Unit {0}
IsAnswerTo (orders.Notified number) (answers.Value value) = Unit {0}
IsAnswerTo orders.Look (answers.Looked number) = Unit {0}
IsAnswerTo order (answers.Refused why) = MayBeRefused order × (why ≢ Memory)
IsAnswerTo _ _ = ⊥

-- the number of a generation that an answer tells, if any
abbrev pub number_told : DeskAnswer → Option ℕ
number_told (answers.Called applied number) = number
number_told (answers.Committed number) = number
number_told (answers.Looked number) = Some number
number_told _ = None

-- the generation of this number was seen to be published: number 0 at first, and any other by an entry of that number
pub record HasSeenPublished (seen : List HistoryEntry) (number : ℕ) : Type 0 where
  pub inside : number < length (generations_published seen)
  pub stands : 0 < number → list_any (publishes_number number) seen ≡ true

abbrev pub HasSeenTold : List HistoryEntry → Option ℕ → Type 0
HasSeenTold seen None = Unit {0}
HasSeenTold seen (Some number) = HasSeenPublished seen number

-- a call that published a generation is shown by the forest that its Publish carried
abbrev pub ShowsOrder : DeskOrder → DeskAnswer → List HistoryEntry → Type 0
ShowsOrder (orders.Call call) (answers.Called applied (Some number)) seen = ShowsCall (generation_published seen number).forest call
ShowsOrder order answer seen = Unit {0}

-- a look hands out the generation of its number, with the forest that its Publish carried, for number 0 the empty one; no other
-- order hands one out
abbrev pub HandsOut : DeskOrder → DeskAnswer → Option Published → List HistoryEntry → Type 0
HandsOut orders.Look (answers.Looked number) (Some g) seen = (g.number ≡ number) × (g.forest ≡ (generation_published seen number).forest)
HandsOut orders.Look answer current seen = ⊥
HandsOut order answer current seen = current ≡ None

-- a receipt for an order to the writer of this cabinet
pub record IsReceipt (cabinet : TableId) (order : DeskOrder) (r : Receipt) : Type 0 where
  pub cabinet_is : r.note.cabinet ≡ cabinet
  pub answers : IsAnswerTo order r.answer
  pub seen : HasSeenTold r.note.seen (number_told r.answer)
  pub shows : ShowsOrder order r.answer r.note.seen
  pub current : HandsOut order r.answer (value_in r.current) r.note.seen
