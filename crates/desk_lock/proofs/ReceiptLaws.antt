-- An order's receipt, by its turn.
use Rattle.std.proofs.Common.{◌≡◌, ◌≢◌, ℕ, ◌+◌, ◌≤◌, Bool, true, false, List, Some, None, Option, Ok, Err}
use Rattle.std.proofs.Common.{refl, sym, ap, subst, ◌∙◌, arith, if◌then◌else◌}
use Rattle.mem_base.specs.declared.map.calls.Call.{Call}
use Rattle.mem_base.specs.declared.map.calls.Config.{Config}
use Rattle.mem_base.specs.declared.map.calls.Config.TheVariants as configs
use Rattle.mem_base.specs.declared.map.refusals.Refusal.TheVariants.{Memory}
use Rattle.mem_base.specs.declared.machine.events.HistoryEntry.{HistoryEntry}
use Rattle.mem_base.specs.declared.machine.records.DeskAnswer.{DeskAnswer}
use Rattle.mem_base.specs.declared.machine.records.DeskAnswer.TheVariants as answers
use Rattle.mem_base.specs.declared.machine.records.DeskOrder.{DeskOrder}
use Rattle.mem_base.specs.declared.machine.records.DeskOrder.TheVariants as orders
use Rattle.mem_base.specs.declared.map.forests.Forest.{Forest}
use Rattle.mem_base.specs.map.Calls.{counted}
use Rattle.mem_base.specs.map.CallsShown.{ShowsCall}
use Rattle.mem_base.specs.map.Changes.{changed}
use Rattle.mem_base.specs.machine.Actors.{generation_published}
use Rattle.mem_base.specs.machine.Answers.{Answer, call_answer, commit_answer, plain_answer, reap_answer, harvest_answer, notifier_answer}
use Rattle.mem_base.specs.machine.Answers.{journal_answer, current_answer}
use Rattle.mem_base.specs.machine.Publishing.{current_forest, would_publish}
use Rattle.mem_base.specs.machine.Reaps.{Writer}
use Rattle.mem_base.specs.machine.Records.{call_of, told}
use Rattle.generation.specs.Published.{Published}
use Rattle.epoch_rule.specs.Copies.{value_in}
use Rattle.epoch_rule.specs.Rule.{IsLegal}
use Rattle.view_laws.proofs.Tests.{none_is_not_some}
use Rattle.config_desk.specs.HandedOn.{number_told as number_of_writer}
use Rattle.config_desk.specs.Configs.{ConfigState, IsOfTurns, IsTurnOf}
use Rattle.desk_orders.specs.declared.orders.Receipt.{Receipt}
use Rattle.desk_orders.specs.declared.drafts.Draft.{Draft}
use Rattle.desk_orders.specs.Copied.{HasRoom, IsDraft}
use Rattle.desk_orders.specs.Receipts.{HandsOut, HasSeenPublished, HasSeenTold, IsAnswerTo, IsReceipt, ShowsOrder, number_told}
use Rattle.desk_orders.specs.Given.{turn_of}
use Rattle.desk_lock.specs.Turned.{HandsCurrent, IsAsked, TellsNumber}
use Rattle.desk_orders.proofs.AnswerLaws.{answer_right, regions_bound}
use Rattle.desk_lock.proofs.PagesLaws.{pages_bounded}
use Rattle.desk_orders.proofs.PublishedLaws.{IsPublished, call_published, commit_published, is_loud}
use Rattle.desk_lock.proofs.SeenLaws.{current_shown, published_seen}
use Rattle.desk_orders.proofs.ShownCalls.{call_shown}
use Rattle.std.proofs.lemmas.Option.{same_Some}

-- a turn of the writer's desk, by what is told of its answer
pub asked_as : (v w : ConfigState) (order : DeskOrder) (a : Answer) (answer : DeskAnswer) → IsTurnOf v (call_of order) a w → answer ≡ told a
    → IsAsked v order answer w
asked_as v w order a answer t is =
    record { replies = t.replies; made = t.made; answer_is = is ∙ ap told t.answer_is; part = t.writer }

-- room for the answer was taken before
pub has_room : (v w : ConfigState) (order : DeskOrder) (answer : DeskAnswer) (d : Draft) → IsAsked v order answer w → IsDraft v.part order d → HasRoom answer d
has_room v w order answer d a h =
    let x : DeskAnswer = told (turn_of v.part order a.replies).answer in
    let P : DeskAnswer → Type 0 = λ y. HasRoom y d in
    let regions = regions_bound v.part order a.replies in
    let pages = pages_bounded v.part order a.replies in
    let one = h.regions in
    let two = h.pages in
    subst P (sym a.answer_is) (record {
      no_regions = h.no_regions;
      no_pages = h.no_pages;
      regions = omega (arith, regions, one);
      pages = omega (arith, pages, two);
    })

-- the number that is told is that of what was published
tells_publish : (w : Writer) (k : Config) (number : ℕ) → Some number ≡ number_of_writer w k
    → (would_publish w.desk k ≡ true) × (number ≡ w.generations.current + 1)
tells_publish w k number e = go (would_publish w.desk k) e
  where
    go : (b : Bool) → Some number ≡ (if b then Some (w.generations.current + 1) else None) → (b ≡ true) × (number ≡ w.generations.current + 1)
    go true h = (refl, same_Some number (w.generations.current + 1) h)
    go false h = none_is_not_some number (sym h)

-- an answer of another sort tells no number

abbrev TellsNone : Answer → Type 0
TellsNone (call_answer r) = ⊥
TellsNone (commit_answer r) = ⊥
TellsNone (current_answer n g) = ⊥
TellsNone a = Unit {0}

no_number : (a : Answer) → TellsNone a → number_told (told a) ≡ None
no_number (call_answer r) h = absurd h
no_number (commit_answer r) h = absurd h
no_number (plain_answer (Ok x)) h = refl
no_number (plain_answer (Err why)) h = refl
no_number (reap_answer (Ok x)) h = refl
no_number (reap_answer (Err why)) h = refl
no_number (harvest_answer (Ok x)) h = refl
no_number (harvest_answer (Err why)) h = refl
no_number (notifier_answer x) h = refl
no_number (journal_answer x) h = refl
no_number (current_answer n g) h = absurd h

none_seen : (seen : List HistoryEntry) (answer : DeskAnswer) (a : Answer) → TellsNone a → answer ≡ told a → HasSeenTold seen (number_told answer)
none_seen seen answer a h is =
    let P : Option ℕ → Type 0 = HasSeenTold seen in subst P (sym (ap number_told is ∙ no_number a h)) tt

-- what an answer tells of the history that was seen
pub record HasTold (order : DeskOrder) (answer : DeskAnswer) (g : Option Published) (xs : List HistoryEntry) : Type 0 where
  pub seen : HasSeenTold xs (number_told answer)
  pub shows : ShowsOrder order answer xs
  pub current : HandsOut order answer g xs

module _ (v w : ConfigState) (legal : IsLegal w.seat.sizes w.seat.seen) (turns : IsOfTurns w.seat w.part) where
  -- what a publish left is seen
  published_now : (number current : ℕ) (f : Forest) (x : Writer) → w.part ≡ x → number ≡ current + 1 → IsPublished current f x
      → HasSeenPublished w.seat.seen number × ((generation_published w.seat.seen number).forest ≡ f)
  published_now number current f x part is p =
      let now : w.part.generations.current ≡ number = ap (λ (y : Writer). y.generations.current) part ∙ p.next ∙ sym is in
      let low : number ≤ w.part.generations.current = omega (arith, now) in (
        published_seen w legal turns number low,
        ap (λ (n : ℕ). (generation_published w.seat.seen n).forest) (sym now) ∙ current_shown w legal turns
            ∙ ap (λ (y : Writer). current_forest y.generations) part ∙ p.forest,
      )

  call_told : (call : Call) (answer : DeskAnswer) (current : Option Published) (ns : List ℕ) → IsAnswerTo (orders.Call call) answer
      → TellsNumber v.part (orders.Call call) answer → answer ≡ told (turn_of v.part (orders.Call call) ns).answer
      → w.part ≡ (turn_of v.part (orders.Call call) ns).writer → current ≡ None → HasTold (orders.Call call) answer current w.seat.seen
  call_told call (answers.Called applied (Some number)) current ns right tells is part none =
      let t = tells_publish v.part (configs.Call call) number tells in
      let loud = is_loud v.part.desk call t.0 in
      let p = published_now number v.part.generations.current (counted (changed v.part.desk.forest call))
      (turn_of v.part (orders.Call call) ns).writer part t.1 (call_published v.part call ns applied number t.0 is) in
      let P : Forest → Type 0 = λ f. ShowsCall f call in record {
        seen = p.0;
        shows = subst P (sym p.1) (call_shown v.part.desk.forest call loud.loud loud.accepted);
        current = none;
      }
  call_told call (answers.Called applied None) current ns right tells is part none = record { seen = tt; shows = tt; current = none }
  call_told call (answers.Refused why) current ns right tells is part none = record { seen = tt; shows = tt; current = none }
  call_told call _ current ns right tells is part none = absurd right

  commit_told : (answer : DeskAnswer) (current : Option Published) (ns : List ℕ) → IsAnswerTo orders.Commit answer
      → TellsNumber v.part orders.Commit answer → answer ≡ told (turn_of v.part orders.Commit ns).answer
      → w.part ≡ (turn_of v.part orders.Commit ns).writer → current ≡ None → HasTold orders.Commit answer current w.seat.seen
  commit_told (answers.Committed (Some number)) current ns right tells is part none =
      let t = tells_publish v.part configs.Commit number tells in
      let p = published_now number v.part.generations.current v.part.desk.forest (turn_of v.part orders.Commit ns).writer part t.1
      (commit_published v.part ns number t.0 is) in record { seen = p.0; shows = tt; current = none }
  commit_told (answers.Committed None) current ns right tells is part none = record { seen = tt; shows = tt; current = none }
  commit_told (answers.Refused why) current ns right tells is part none = record { seen = tt; shows = tt; current = none }
  commit_told _ current ns right tells is part none = absurd right

  -- a look tells the current number, and hands that generation out
  look_told : (answer : DeskAnswer) (current : Option Published) → answer ≡ answers.Looked v.part.generations.current → w.part ≡ v.part
      → HandsCurrent v.part orders.Look current → HasTold orders.Look answer current w.seat.seen
  look_told answer None is part hands = absurd hands
  look_told answer (Some g) is part hands =
      let n : ℕ = v.part.generations.current in
      let now : w.part.generations.current ≡ n = ap (λ (y : Writer). y.generations.current) part in
      let low : n ≤ w.part.generations.current = omega (arith, now) in
      let shown : (generation_published w.seat.seen n).forest ≡ current_forest v.part.generations =
      ap (λ (k : ℕ). (generation_published w.seat.seen k).forest) (sym now) ∙ current_shown w legal turns
      ∙ ap (λ (y : Writer). current_forest y.generations) part in
      let P : DeskAnswer → Type 0 = λ x. HasTold orders.Look x (Some g) w.seat.seen in
      subst P (sym is) (record { seen = published_seen w legal turns n low; shows = tt; current = (hands.0, hands.1 ∙ sym shown) })

  has_told : (order : DeskOrder) (answer : DeskAnswer) (current : Option Published) (ns : List ℕ) → IsAnswerTo order answer → TellsNumber v.part order answer
      → answer ≡ told (turn_of v.part order ns).answer → w.part ≡ (turn_of v.part order ns).writer → HandsCurrent v.part order current
      → HasTold order answer current w.seat.seen
  has_told (orders.Call call) answer current ns right tells is part hands = call_told call answer current ns right tells is part hands
  has_told orders.Commit answer current ns right tells is part hands = commit_told answer current ns right tells is part hands
  has_told orders.Look answer current ns right tells is part hands = look_told answer current is part hands
  has_told orders.Begin answer current ns right tells is part hands =
      record { seen = none_seen w.seat.seen answer (turn_of v.part orders.Begin ns).answer tt is; shows = tt; current = hands }
  has_told orders.Reap answer current ns right tells is part hands =
      record { seen = none_seen w.seat.seen answer (turn_of v.part orders.Reap ns).answer tt is; shows = tt; current = hands }
  has_told (orders.Listen l s p) answer current ns right tells is part hands =
      record { seen = none_seen w.seat.seen answer (turn_of v.part (orders.Listen l s p) ns).answer tt is; shows = tt; current = hands }
  has_told (orders.Unlisten l) answer current ns right tells is part hands =
      record { seen = none_seen w.seat.seen answer (turn_of v.part (orders.Unlisten l) ns).answer tt is; shows = tt; current = hands }
  has_told (orders.Load r o bytes) answer current ns right tells is part hands =
      record { seen = none_seen w.seat.seen answer (turn_of v.part (orders.Load r o bytes) ns).answer tt is; shows = tt; current = hands }
  has_told (orders.Harvest r c) answer current ns right tells is part hands =
      record { seen = none_seen w.seat.seen answer (turn_of v.part (orders.Harvest r c) ns).answer tt is; shows = tt; current = hands }
  has_told (orders.Notified n) answer current ns right tells is part hands =
      record { seen = none_seen w.seat.seen answer (turn_of v.part (orders.Notified n) ns).answer tt is; shows = tt; current = hands }

  -- the receipt of an order
  pub is_receipt : (order : DeskOrder) (r : Receipt) → IsAsked v order r.answer w → r.answer ≢ answers.Refused Memory → TellsNumber v.part order r.answer
      → HandsCurrent v.part order (value_in r.current) → r.note.cabinet ≡ w.seat.cabinet → r.note.seen ≡ w.seat.seen → IsReceipt v.seat.cabinet order r
  is_receipt order r asked other tells hands cabinet seen =
      let ns : List ℕ = asked.replies in
      let Right : DeskAnswer → Type 0 = IsAnswerTo order in
      let right : IsAnswerTo order r.answer =
      subst Right (sym asked.answer_is) (answer_right v.part order ns (λ e. other (asked.answer_is ∙ e))) in
      let h = has_told order r.answer (value_in r.current) ns right tells asked.answer_is asked.part hands in
      let Seen : List HistoryEntry → Type 0 = λ xs. HasTold order r.answer (value_in r.current) xs in
      let k : HasTold order r.answer (value_in r.current) r.note.seen = subst Seen (sym seen) h in record {
        cabinet_is = cabinet ∙ asked.made.cabinet;
        answers = right;
        seen = k.seen;
        shows = k.shows;
        current = k.current;
      }
