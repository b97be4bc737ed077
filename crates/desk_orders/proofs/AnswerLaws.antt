-- Which answers an order can have, and how long the lists in them are.
use Rattle.std.proofs.Common.{◌≡◌, ◌≢◌, ℕ, ◌+◌, ◌≤◌, eqb, Bool, true, false, List, [], ◌∷◌, length}
use Rattle.std.proofs.Common.{Some, None, Option, Result, Ok, Err, refl, sym, ap, subst, arith, not, if◌then◌else◌, ◌&&◌, zero-le}
use Rattle.std.specs.Prelude.{is_some}
use Rattle.mem_base.specs.declared.map.ids.RegionId.{RegionId}
use Rattle.mem_base.specs.declared.map.forests.Node.{Node}
use Rattle.mem_base.specs.declared.map.forests.Forest.{Forest}
use Rattle.mem_base.specs.declared.map.kinds.Client.{Client}
use Rattle.mem_base.specs.declared.map.calls.Call.{Call}
use Rattle.mem_base.specs.declared.map.calls.Call.TheVariants as calls
use Rattle.mem_base.specs.declared.map.calls.Applied.{Applied}
use Rattle.mem_base.specs.declared.map.calls.Applied.TheVariants as applied
use Rattle.mem_base.specs.declared.map.calls.Config.TheVariants as configs
use Rattle.mem_base.specs.declared.map.refusals.Refusal.{Refusal}
use Rattle.mem_base.specs.declared.map.refusals.Refusal.TheVariants as refusals
use Rattle.mem_base.specs.declared.map.refusals.What.TheVariants as what
use Rattle.mem_base.specs.declared.machine.events.Event.{Event}
use Rattle.mem_base.specs.declared.machine.events.Event.TheVariants as events
use Rattle.mem_base.specs.declared.machine.records.DeskAnswer.TheVariants as answers
use Rattle.mem_base.specs.declared.machine.records.DeskOrder.{DeskOrder}
use Rattle.mem_base.specs.declared.machine.records.DeskOrder.TheVariants as orders
use Rattle.mem_base.specs.lists.Every.{Every}
use Rattle.mem_base.specs.access.Marks.{pages_from}
use Rattle.mem_base.specs.access.Places.{Extent, extent_of, first_fit, words_of}
use Rattle.mem_base.specs.map.Calls.{after, answer_of, is_quiet}
use Rattle.mem_base.specs.map.Refusals.{first_refusal, or_refused, refuse_where, unknown_region, wrong_kind}
use Rattle.mem_base.specs.map.Region.{node_of}
use Rattle.mem_base.specs.map.Kinds.{has_bytes}
use Rattle.mem_base.specs.machine.Answers.{Answer, answer_with, call_answer, commit_answer, plain_answer, reap_answer}
use Rattle.mem_base.specs.machine.Answers.{harvest_answer, notifier_answer, journal_answer, current_answer, number_due}
use Rattle.mem_base.specs.machine.Configs.{after_call, backed, configured, kept_back, made}
use Rattle.mem_base.specs.machine.Desk.{Desk}
use Rattle.mem_base.specs.machine.Generations.{Generations}
use Rattle.mem_base.specs.machine.Orders.{configure, events_after, events_before, ends_past, harvest, harvest_refusal, load_refusal}
use Rattle.mem_base.specs.machine.Orders.{pass_ids, reap}
use Rattle.mem_base.specs.machine.Publishing.{held_up, publishing, readied, settled, unless_refused}
use Rattle.mem_base.specs.machine.Reaps.{Writer, is_named}
use Rattle.mem_base.specs.machine.Records.{told}
use Rattle.mem_base.specs.machine.Turns.{after_private, played, replies_of}
use Rattle.view_laws.proofs.Tests.{none_is_not_some}
use Rattle.map_laws.proofs.PairLaws.{length-filter}
use Rattle.desk_orders.specs.Copied.{most_regions, regions_in}
use Rattle.desk_orders.specs.Receipts.{IsAnswerTo, IsAppliedTo, IsNew, MayBeRefused}
use Rattle.desk_orders.specs.Given.{turn_of}
use Rattle.desk_orders.proofs.PublishedLaws.{sweeps_keep}
use Rattle.std.proofs.lemmas.Option.{same_Some}

-- what a call answers

applied_right : (f : Forest) (call : Call) → IsAppliedTo call (answer_of f call)
applied_right f (calls.Region kind size) = tt
applied_right f _ = tt

abbrev AnswersCall : Call → Result Applied Refusal → Type 0
AnswersCall call (Ok x) = IsAppliedTo call x
AnswersCall call (Err why) = Unit {0}

published_right : (call : Call) (a : Applied) (d e : Desk) (o : Option Refusal) → IsAppliedTo call a
    → AnswersCall call (unless_refused o d (settled e a)).answer
published_right call a d e None h = h
published_right call a d e (Some why) h = tt

made_right : (d : Desk) (f : Forest) (region : RegionId) (x : Extent) (call : Call) → IsAppliedTo call (applied.Made region)
    → AnswersCall call (made d f region x).answer
made_right d f region x call h = go (eqb (words_of x) 0) (first_fit d.pool_words d.places (words_of x))
  where
    by_fit : (o : Option ℕ) → AnswersCall call (backed d f region x o).answer
    by_fit None = tt
    by_fit (Some start) = h

    go : (b : Bool) (o : Option ℕ) → AnswersCall call (if b then settled (record d { forest = f }) (applied.Made region) else backed d f region x o).answer
    go true o = h
    go false o = by_fit o

kept_right : (d : Desk) (call : Call) (f : Forest) → AnswersCall call (kept_back d call f).answer
kept_right d (calls.Region kind size) f = made_right d f (record { 0 = d.forest.made }) (extent_of kind size) (calls.Region kind size) tt
kept_right d _ f = tt

call_right : (g : Generations) (d : Desk) (call : Call) (r : Result Forest Refusal) → AnswersCall call (after_call g d call r).answer
call_right g d call (Err why) = tt
call_right g d call (Ok f) = go (eqb d.depth 0 && not (is_quiet call))
  where
    go : (b : Bool) → AnswersCall call (if b then publishing g d f (answer_of d.forest call) else kept_back d call f).answer
    go true = published_right call (answer_of d.forest call) d (readied g d f) (held_up g) (applied_right d.forest call)
    go false = kept_right d call f

new_due : (w : Writer) → IsNew (number_due w)
new_due w = go w.desk.due
  where
    go : (b : Bool) → IsNew (if b then Some (w.generations.current + 1) else None)
    go true = omega arith
    go false = tt

-- the answers of each sort of call

plain_right : (order : DeskOrder) → IsAnswerTo order answers.Done → MayBeRefused order → (r : Result (Unit {0}) Refusal)
    → told (plain_answer r) ≢ answers.Refused refusals.Memory
    → ((why : Refusal) → MayBeRefused order → why ≢ refusals.Memory → IsAnswerTo order (answers.Refused why)) → IsAnswerTo order (told (plain_answer r))
plain_right order done may (Ok x) other refuse = done
plain_right order done may (Err why) other refuse = refuse why may (λ e. other (ap answers.Refused e))

call_answered : (call : Call) (due : Option ℕ) (r : Result Applied Refusal) → AnswersCall call r → IsNew due
    → told (call_answer (answer_with (λ a. (a, due)) r)) ≢ answers.Refused refusals.Memory
    → IsAnswerTo (orders.Call call) (told (call_answer (answer_with (λ a. (a, due)) r)))
call_answered call due (Ok x) right new other = (right, new)
call_answered call due (Err why) right new other = (tt, λ e. other (ap answers.Refused e))

commit_answered : (due : Option ℕ) (r : Result Applied Refusal) → IsNew due
    → told (commit_answer (answer_with (λ a. due) r)) ≢ answers.Refused refusals.Memory
    → IsAnswerTo orders.Commit (told (commit_answer (answer_with (λ a. due) r)))
commit_answered due (Ok x) new other = new
commit_answered due (Err why) new other = (tt, λ e. other (ap answers.Refused e))

harvest_answered : (region : RegionId) (client : Client) (r : Result (List ℕ) Refusal) → told (harvest_answer r) ≢ answers.Refused refusals.Memory
    → IsAnswerTo (orders.Harvest region client) (told (harvest_answer r))
harvest_answered region client (Ok x) other = tt
harvest_answered region client (Err why) other = (tt, λ e. other (ap answers.Refused e))

-- what the desk tells of an order is an answer that the order can have
pub answer_right : (w : Writer) (order : DeskOrder) (ns : List ℕ) → told (turn_of w order ns).answer ≢ answers.Refused refusals.Memory
    → IsAnswerTo order (told (turn_of w order ns).answer)
answer_right w orders.Begin ns other = plain_right orders.Begin tt tt _ other (λ why may n. (may, n))
answer_right w (orders.Call call) ns other =
    let u : Writer = (played w (events_before w (configure (configs.Call call))) ns).writer in
    call_answered call (number_due (after_private u (events.Config (configs.Call call) ∷ []))) (configured u.generations u.desk (configs.Call call)).answer
    (call_right u.generations u.desk call (after u.desk.forest call)) (new_due (after_private u (events.Config (configs.Call call) ∷ []))) other
answer_right w orders.Commit ns other =
    let u : Writer = (played w (events_before w (configure configs.Commit)) ns).writer in
    commit_answered (number_due (after_private u (events.Config configs.Commit ∷ []))) (configured u.generations u.desk configs.Commit).answer
    (new_due (after_private u (events.Config configs.Commit ∷ []))) other
answer_right w (orders.Listen listener space priority) ns other =
    plain_right (orders.Listen listener space priority) tt tt _ other (λ why may n. (may, n))
answer_right w (orders.Unlisten listener) ns other = plain_right (orders.Unlisten listener) tt tt _ other (λ why may n. (may, n))
answer_right w (orders.Load region offset bytes) ns other = plain_right (orders.Load region offset bytes) tt tt _ other (λ why may n. (may, n))
answer_right w (orders.Harvest region client) ns other = harvest_answered region client _ other
answer_right w _ ns other = tt

-- want of memory is no reason why bytes are not loaded

first_other : (why : Refusal) (xs : List (Option Refusal)) → Every (λ x. x ≢ Some why) xs → first_refusal xs ≢ Some why
first_other why [] h e = none_is_not_some why e
first_other why (None ∷ xs) h e = first_other why xs h.1 e
first_other why (Some x ∷ xs) h e = h.0 e

other_where : (test : Node → Bool) (why : Refusal) → why ≢ refusals.Memory → (o : Option Node) → refuse_where test why o ≢ Some refusals.Memory
other_where test why n None e = none_is_not_some refusals.Memory e
other_where test why n (Some x) e = go (test x) e
  where
    go : (b : Bool) → (if b then Some why else None) ≡ Some refusals.Memory → ⊥
    go true e = n (same_Some why refusals.Memory e)
    go false e = none_is_not_some refusals.Memory e

other_unknown : (f : Forest) (region : RegionId) → unknown_region f region ≢ Some refusals.Memory
other_unknown f region e = go (is_some (node_of f.nodes region)) e
  where
    go : (b : Bool) → (if b then None else Some (refusals.Unknown (what.Region region))) ≡ Some refusals.Memory → ⊥
    go true e = none_is_not_some refusals.Memory e
    go false e = cc

load_other : (f : Forest) (region : RegionId) (offset count : ℕ) → load_refusal f region offset count ≢ Some refusals.Memory
load_other f region offset count = first_other refusals.Memory
    (unknown_region f region ∷ wrong_kind has_bytes f region ∷ refuse_where (ends_past offset count) refusals.BadSize (node_of f.nodes region) ∷ []) (
      other_unknown f region,
      (
        other_where (λ n. not (has_bytes n.kind)) (refusals.WrongKind region) (λ e. cc) (node_of f.nodes region),
        (other_where (ends_past offset count) refusals.BadSize (λ e. cc) (node_of f.nodes region), tt),
      ),
    )

pub load_answers : (w : Writer) (region : RegionId) (offset : ℕ) (bytes ns : List ℕ)
    → plain_answer (Err refusals.Memory) ≡ (turn_of w (orders.Load region offset bytes) ns).answer → ⊥
load_answers w region offset bytes ns e = go (load_refusal w.desk.forest region offset (length bytes)) (load_other w.desk.forest region offset (length bytes)) e
  where
    go : (o : Option Refusal) → o ≢ Some refusals.Memory → plain_answer (Err refusals.Memory) ≡ plain_answer (or_refused o tt) → ⊥
    go None n e = cc
    go (Some why) n e = n (let same : refusals.Memory ≡ why = cc in ap (λ (x : Refusal). Some x) (sym same))

-- How long the lists in an answer are

abbrev NamesNone : Answer → Type 0
NamesNone (reap_answer r) = ⊥
NamesNone (harvest_answer r) = ⊥
NamesNone a = Unit {0}

no_regions : (a : Answer) → NamesNone a → regions_in (told a) ≡ []
no_regions (call_answer (Ok x)) h = refl
no_regions (call_answer (Err why)) h = refl
no_regions (commit_answer (Ok n)) h = refl
no_regions (commit_answer (Err why)) h = refl
no_regions (plain_answer (Ok x)) h = refl
no_regions (plain_answer (Err why)) h = refl
no_regions (reap_answer r) h = absurd h
no_regions (harvest_answer r) h = absurd h
no_regions (notifier_answer x) h = refl
no_regions (journal_answer x) h = refl
no_regions (current_answer n g) h = refl

none_regions : (a : Answer) → NamesNone a → length (regions_in (told a)) ≤ 0
none_regions a h = subst (λ (rs : List RegionId). length rs ≤ 0) (sym (no_regions a h)) zero-le

harvest_regions : (r : Result (List ℕ) Refusal) → length (regions_in (told (harvest_answer r))) ≤ 0
harvest_regions (Ok pages) = zero-le
harvest_regions (Err why) = zero-le

-- the regions that an order's answer names are no more than may be
pub regions_bound : (w : Writer) (order : DeskOrder) (ns : List ℕ) → length (regions_in (told (turn_of w order ns).answer)) ≤ most_regions w order
regions_bound w orders.Reap ns =
    let u : Writer = (played w (events_before w reap) ns).writer in
    let k = sweeps_keep (pass_ids w.generations) w ns in
    let few = length-filter (λ r. not (is_named u.generations r)) u.desk.dropped in
    let same : length u.desk.dropped ≡ length w.desk.dropped = ap (λ (d : Desk). length d.dropped) k.desk in
    omega (arith, few, same)
regions_bound w (orders.Harvest region client) ns =
    let es : List Event = events_after w (harvest region client) in
    harvest_regions (or_refused (harvest_refusal w.desk.forest region) (pages_from 0 (replies_of (played w es ns).entries)))
regions_bound w (orders.Call call) ns = none_regions (turn_of w (orders.Call call) ns).answer tt
regions_bound w orders.Begin ns = none_regions (turn_of w orders.Begin ns).answer tt
regions_bound w orders.Commit ns = none_regions (turn_of w orders.Commit ns).answer tt
regions_bound w (orders.Listen l s p) ns = none_regions (turn_of w (orders.Listen l s p) ns).answer tt
regions_bound w (orders.Unlisten l) ns = none_regions (turn_of w (orders.Unlisten l) ns).answer tt
regions_bound w (orders.Load r o bytes) ns = none_regions (turn_of w (orders.Load r o bytes) ns).answer tt
regions_bound w (orders.Notified n) ns = none_regions (turn_of w (orders.Notified n) ns).answer tt
regions_bound w orders.Look ns = none_regions (turn_of w orders.Look ns).answer tt
