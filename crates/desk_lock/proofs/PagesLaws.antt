-- Which answers an order can have, and how long the lists in them are.
use Rattle.std.proofs.Common.{◌≡◌, ℕ, suc, ◌+◌, ◌*◌, ◌≤◌, List, [], ◌∷◌, ◌++◌, length, drop}
use Rattle.std.proofs.Common.{Some, None, Option, Ok, Err, refl, sym, ap, subst, arith, zero-le, length-append}
use Rattle.std.proofs.lemmas.List.FromFn.{length-map-range_with_len}
use Rattle.mem_base.specs.declared.map.ids.RegionId.{RegionId}
use Rattle.mem_base.specs.declared.map.kinds.Client.{Client}
use Rattle.mem_base.specs.declared.map.calls.Call.{Call}
use Rattle.mem_base.specs.declared.map.refusals.Refusal.{Refusal}
use Rattle.mem_base.specs.declared.machine.events.Event.{Event}
use Rattle.mem_base.specs.declared.machine.events.Event.TheVariants as events
use Rattle.mem_base.specs.declared.machine.records.DeskOrder.{DeskOrder}
use Rattle.mem_base.specs.declared.machine.records.DeskOrder.TheVariants as orders
use Rattle.mem_base.specs.access.Marks.{pages_from, pages_of}
use Rattle.mem_base.specs.map.Refusals.{or_refused}
use Rattle.mem_base.specs.machine.Answers.{Answer, call_answer, commit_answer, plain_answer, reap_answer, first_or_zero}
use Rattle.mem_base.specs.machine.Answers.{harvest_answer, notifier_answer, journal_answer, current_answer}
use Rattle.mem_base.specs.machine.Configs.{writer_after}
use Rattle.mem_base.specs.machine.Desk.{Desk, carried_by, places_of}
use Rattle.mem_base.specs.machine.Orders.{harvest_refusal, harvests, mark_words_at}
use Rattle.mem_base.specs.machine.Orders.{unless}
use Rattle.mem_base.specs.machine.Reaps.{Writer}
use Rattle.mem_base.specs.access.PlacesByRegion.{place_in}
use Rattle.mem_base.specs.machine.Records.{told}
use Rattle.mem_base.specs.machine.Turns.{played, replies_of}
use Rattle.config_desk.proofs.HandedOn.{pages_few}
use Rattle.desk_orders.specs.Copied.{most_pages, pages_in}
use Rattle.desk_orders.specs.Given.{turn_of}
use Rattle.mem_base.specs.map.Limits.{pages_per_word}

-- How many pages an answer names

abbrev NamesNone : Answer → Type 0
NamesNone (reap_answer r) = ⊥
NamesNone (harvest_answer r) = ⊥
NamesNone a = Unit {0}

no_pages : (a : Answer) → NamesNone a → pages_in (told a) ≡ []
no_pages (call_answer (Ok x)) h = refl
no_pages (call_answer (Err why)) h = refl
no_pages (commit_answer (Ok n)) h = refl
no_pages (commit_answer (Err why)) h = refl
no_pages (plain_answer (Ok x)) h = refl
no_pages (plain_answer (Err why)) h = refl
no_pages (reap_answer r) h = absurd h
no_pages (harvest_answer r) h = absurd h
no_pages (notifier_answer x) h = refl
no_pages (journal_answer x) h = refl
no_pages (current_answer n g) h = refl

pages_bound : (base : ℕ) (words : List ℕ) → length (pages_from base words) ≤ length words * pages_per_word
pages_bound base [] = omega arith
pages_bound base (bits ∷ words) =
    let first = pages_few base bits in
    let rest = pages_bound (base + pages_per_word) words in
    let both : length (pages_of base bits ++ pages_from (base + pages_per_word) words) ≡
    length (pages_of base bits) + length (pages_from (base + pages_per_word) words) =
    length-append (pages_of base bits) (pages_from (base + pages_per_word) words) in omega (arith, first, rest, both)

played_length : (es : List Event) (w : Writer) (ns : List ℕ) → length (replies_of (played w es ns).entries) ≡ length es
played_length [] w ns = refl
played_length (e ∷ es) w ns = ap suc (played_length es (writer_after w e (carried_by w.desk e) (first_or_zero ns)) (drop 1 ns))

harvests_length : (d : Desk) (region : RegionId) (client : Client) → length (harvests d region client) ≡ mark_words_at (place_in (places_of d) region)
harvests_length d region client = length-map-range_with_len (λ index. events.Harvest region client index) 0 (mark_words_at (place_in (places_of d) region))

harvest_bound : (w : Writer) (region : RegionId) (client : Client) (ns : List ℕ) (o : Option Refusal)
    → length (pages_in (told (harvest_answer (or_refused o (pages_from 0 (replies_of (played w (unless o (harvests w.desk region client)) ns).entries))))))
    ≤ most_pages w (orders.Harvest region client)
harvest_bound w region client ns None =
    let es : List Event = harvests w.desk region client in
    let bound = pages_bound 0 (replies_of (played w es ns).entries) in
    let many = played_length es w ns in
    let words = harvests_length w.desk region client in
    omega (arith, bound, many, words)
harvest_bound w region client ns (Some why) = zero-le

none_pages : (a : Answer) → NamesNone a → length (pages_in (told a)) ≤ 0
none_pages a h = subst (λ (ns : List ℕ). length ns ≤ 0) (sym (no_pages a h)) zero-le

-- the pages that an order's answer names are no more than may be
pub pages_bounded : (w : Writer) (order : DeskOrder) (ns : List ℕ) → length (pages_in (told (turn_of w order ns).answer)) ≤ most_pages w order
pages_bounded w (orders.Harvest region client) ns = harvest_bound w region client ns (harvest_refusal w.desk.forest region)
pages_bounded w orders.Reap ns = zero-le
pages_bounded w (orders.Call call) ns = none_pages (turn_of w (orders.Call call) ns).answer tt
pages_bounded w orders.Begin ns = none_pages (turn_of w orders.Begin ns).answer tt
pages_bounded w orders.Commit ns = none_pages (turn_of w orders.Commit ns).answer tt
pages_bounded w (orders.Listen l s p) ns = none_pages (turn_of w (orders.Listen l s p) ns).answer tt
pages_bounded w (orders.Unlisten l) ns = none_pages (turn_of w (orders.Unlisten l) ns).answer tt
pages_bounded w (orders.Load r o bytes) ns = none_pages (turn_of w (orders.Load r o bytes) ns).answer tt
pages_bounded w (orders.Notified n) ns = none_pages (turn_of w (orders.Notified n) ns).answer tt
pages_bounded w orders.Look ns = none_pages (turn_of w orders.Look ns).answer tt
