-- What a receipt tells stays true.
use Rattle.std.proofs.Common.{◌≡◌, ℕ, ◌<◌, List, [], ◌∷◌, length, Some, None, Option, refl, sym, ap, subst, ◌∙◌, arith, inl, inr}
use Rattle.std.specs.Prelude.{option_map, slice_get}
use mathlib.Core.List.{IsPrefix}
use Rattle.mem_base.specs.declared.map.calls.Call.{Call}
use Rattle.mem_base.specs.declared.machine.events.HistoryEntry.{HistoryEntry}
use Rattle.mem_base.specs.declared.machine.records.DeskAnswer.{DeskAnswer}
use Rattle.mem_base.specs.declared.machine.records.DeskAnswer.TheVariants as answers
use Rattle.mem_base.specs.declared.machine.records.DeskEntry.{DeskEntry}
use Rattle.mem_base.specs.declared.machine.records.DeskOrder.{DeskOrder}
use Rattle.mem_base.specs.declared.machine.records.DeskOrder.TheVariants as orders
use Rattle.mem_base.specs.declared.machine.records.Differs.{Differs}
use Rattle.mem_base.specs.lists.Every.{Every}
use Rattle.mem_base.specs.map.CallsShown.{ShowsCall}
use Rattle.mem_base.specs.machine.Actors.{generations_published}
use Rattle.mem_base.specs.machine.Generations.{Generation}
use Rattle.mem_base.specs.machine.Records.{Clerk, HasDiffering, IsOfRecord, first_stray}
use Rattle.mem_base.specs.script.RaceLines.{number_looked}
use Rattle.view_laws.proofs.Tests.{none_is_not_some}
use Rattle.history_laws.proofs.AppendLaws.{generation_stays, published_more}
use Rattle.desk_orders.proofs.RecordLaws.{makes_turns}
use Rattle.desk_orders.specs.Laws.{LaterMakesTurns, ClosesOneWay, FirstIsEmpty, IsNoNewer, ReceiptsStay}
use Rattle.desk_orders.specs.Receipts.{HasSeenTold, ShowsOrder, number_told}
use Rattle.race_laws.proofs.EnterLaws.{some_published}

pub later_makes_turns : LaterMakesTurns
later_makes_turns = makes_turns

pub first_is_empty : FirstIsEmpty
first_is_empty seen = ap (λ (g : Generation). g.forest) (generation_stays [] seen (seen, refl) 0 (omega arith))

module _ (seen later : List HistoryEntry) (begins : IsPrefix seen later) where
  looked_stays : (answer : DeskAnswer) → HasSeenTold seen (number_told answer) → number_looked answer < length (generations_published later)
  looked_stays (answers.Looked number) h = published_more seen later begins number h.inside
  looked_stays _ h = some_published later

  no_newer : (o : Option ℕ) → HasSeenTold seen o → IsNoNewer later o
  no_newer None h = tt
  no_newer (Some number) h = let inside = published_more seen later begins number h.inside in omega (arith, inside)

  call_stays : (call : Call) (answer : DeskAnswer) → HasSeenTold seen (number_told answer) → ShowsOrder (orders.Call call) answer seen
      → ShowsOrder (orders.Call call) answer later
  call_stays call (answers.Called applied (Some number)) h s =
      let P : Generation → Type 0 = λ g. ShowsCall g.forest call in subst P (sym (generation_stays seen later begins number h.inside)) s
  call_stays call (answers.Called applied None) h s = tt
  call_stays call _ h s = tt

  order_stays : (order : DeskOrder) (answer : DeskAnswer) → HasSeenTold seen (number_told answer) → ShowsOrder order answer seen → ShowsOrder order answer later
  order_stays (orders.Call call) answer h s = call_stays call answer h s
  order_stays orders.Begin answer h s = tt
  order_stays orders.Commit answer h s = tt
  order_stays orders.Reap answer h s = tt
  order_stays (orders.Listen l s p) answer h k = tt
  order_stays (orders.Unlisten l) answer h s = tt
  order_stays (orders.Load r o bytes) answer h s = tt
  order_stays (orders.Harvest r c) answer h s = tt
  order_stays (orders.Notified n) answer h s = tt
  order_stays orders.Look answer h s = tt

pub receipts_stay : ReceiptsStay
receipts_stay cabinet who order r seen h begins = record {
  told = looked_stays r.note.seen seen begins r.answer h.seen;
  newest = no_newer r.note.seen seen begins (number_told r.answer) h.seen;
  shows = order_stays r.note.seen seen begins order r.answer h.seen h.shows;
}

-- what is the same does not differ

no_difference : (entries : List DeskEntry) (all clerks : List Clerk) (d : Differs) → Every (IsOfRecord entries) clerks → first_stray all entries ≡ None
    → HasDiffering entries all clerks d → ⊥
no_difference entries all [] d same none h = none_is_not_some d.who (sym (ap (option_map (λ e. e.who)) none) ∙ h.0)
no_difference entries all (c ∷ clerks) d same none (inl h) = no_difference entries all clerks d same.1 none h.1
no_difference entries all (c ∷ clerks) d same none (inr h) =
    h.1.1 (ap (λ (es : List DeskEntry). slice_get es d.at) same.0)

pub closes_one_way : ClosesOneWay
closes_one_way entries clerks d same other = no_difference entries clerks clerks d same.0 same.1 other
