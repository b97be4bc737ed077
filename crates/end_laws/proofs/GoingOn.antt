-- One more turn, and more entries of passes.
use Rattle.std.proofs.Common.{◌≡◌, ℕ, Bool, true, false, List, [], ◌∷◌, ◌++◌, map, append-nil, refl, sym, ap, ◌∙◌, if◌then◌else◌}
use Rattle.std.specs.Prelude.{flat_map, drop, length, Option, Some, None}
use Rattle.std.specs.List.{range_with_len}
use Rattle.mem_base.specs.declared.map.refusals.Refusal.{Refusal}
use Rattle.mem_base.specs.declared.machine.events.HistoryEntry.{HistoryEntry}
use Rattle.mem_base.specs.declared.machine.events.Event.{Event}
use Rattle.mem_base.specs.declared.machine.events.Event.TheVariants as events
use Rattle.mem_base.specs.lists.Every.{Every}
use Rattle.mem_base.specs.lists.Runs.{touched}
use Rattle.mem_base.specs.map.Limits.{word_size}
use Rattle.mem_base.specs.access.PlacesByRegion.{place_in}
use Rattle.mem_base.specs.machine.Desk.{carried_by, places_of}
use Rattle.mem_base.specs.machine.Publishing.{would_publish}
use Rattle.mem_base.specs.machine.Reaps.{Writer}
use Rattle.mem_base.specs.machine.Configs.{writer_after}
use Rattle.mem_base.specs.machine.Answers.{first_or_zero}
use Rattle.mem_base.specs.machine.Orders.{Order, configure, reap, load, harvest, notified, journal, current, pass_ids, sweeps, publishes, events_before}
use Rattle.mem_base.specs.machine.Orders.{private_of, events_after, unless, loads, harvests, mark_words_at, load_refusal, harvest_refusal}
use Rattle.mem_base.specs.machine.Turns.{Answered, WriterCall, after_private, history_entry, played, turn, turns, entries_of_turn, last_writer, is_writers}
use Rattle.mem_base.specs.machine.Turns.{writers_of}
use Rattle.mem_base.proofs.EveryLaws.{every_map, every_one}
use Rattle.end_laws.specs.Shown.{GoesOn}
use Rattle.turn_laws.proofs.TurnLists.{entries_push, last_push, turns_push, writers_append}

-- events of the writer

abbrev AreWriters : List Event → Type 0
AreWriters es = Every (λ e. is_writers e ≡ true) es

all_of : {A : Type 0} (f : A → Event) (xs : List A) → ((x : A) → is_writers (f x) ≡ true) → AreWriters (map f xs)
all_of f xs h = every_map (λ e. is_writers e ≡ true) f xs (every_one (λ x. is_writers (f x) ≡ true) xs h)

and_one : (es : List Event) (e : Event) → AreWriters es → is_writers e ≡ true → AreWriters (es ++ e ∷ [])
and_one [] e h k = (k, tt)
and_one (x ∷ es) e h k = (h.0, and_one es e h.1 k)

before_writers : (w : Writer) (k : Order) → AreWriters (events_before w k)
before_writers w (configure c) = go (would_publish w.desk c)
  where
    go : (b : Bool) → AreWriters (if b then sweeps w.generations else [])
    go true = all_of (λ pass. events.Sweep pass) (pass_ids w.generations) (λ pass. refl)
    go false = tt
before_writers w reap = all_of (λ pass. events.Sweep pass) (pass_ids w.generations) (λ pass. refl)
before_writers w (load region offset bytes) = tt
before_writers w (harvest region client) = tt
before_writers w (notified number) = tt
before_writers w journal = tt
before_writers w current = tt

after_writers : (w : Writer) (k : Order) → AreWriters (events_after w k)
after_writers w (configure c) = go w.desk.due
  where
    go : (b : Bool) → AreWriters (if b then publishes w.generations else map (λ c. events.Fill c) w.desk.unfilled)
    go true = and_one (map (λ pass. events.Place pass) (pass_ids w.generations)) events.Publish
        (all_of (λ pass. events.Place pass) (pass_ids w.generations) (λ pass. refl)) refl
    go false = all_of (λ c. events.Fill c) w.desk.unfilled (λ c. refl)
after_writers w reap = tt
after_writers w (load region offset bytes) = go (load_refusal w.desk.forest region offset (length bytes))
  where
    go : (o : Option Refusal) → AreWriters (unless o (loads region offset bytes))
    go None = all_of _ (touched word_size offset (length bytes)) (λ r. refl)
    go (Some why) = tt
after_writers w (harvest region client) = go (harvest_refusal w.desk.forest region)
  where
    go : (o : Option Refusal) → AreWriters (unless o (harvests w.desk region client))
    go None = all_of (λ index. events.Harvest region client index) (range_with_len 0 (mark_words_at (place_in (places_of w.desk) region))) (λ i. refl)
    go (Some why) = tt
after_writers w (notified number) = (refl, tt)
after_writers w journal = tt
after_writers w current = tt

-- entries

played_writers : (es : List Event) (h : Writer) (ns : List ℕ) → AreWriters es → writers_of (played h es ns).entries ≡ (played h es ns).entries
played_writers [] h ns k = refl
played_writers (e ∷ es) h ns k =
    let x : HistoryEntry = history_entry e (carried_by h.desk e) (first_or_zero ns) in
    let rest : List HistoryEntry = (played (writer_after h e (carried_by h.desk e) (first_or_zero ns)) es (drop 1 ns)).entries in
    ap (λ (b : Bool). if b then x ∷ writers_of rest else writers_of rest) k.0
    ∙ ap (λ (ys : List HistoryEntry). x ∷ ys) (played_writers es (writer_after h e (carried_by h.desk e) (first_or_zero ns)) (drop 1 ns) k.1)

turn_writers : (h : Writer) (k : Order) (ns : List ℕ) → writers_of (entries_of_turn (turn h k ns)) ≡ entries_of_turn (turn h k ns)
turn_writers h k ns =
    let b = played h (events_before h k) ns in let m = after_private b.writer (private_of k) in let t = played m (events_after m k) b.replies in
    writers_append b.entries t.entries
    ∙ (λ i. played_writers (events_before h k) h ns (before_writers h k) i ++ played_writers (events_after m k) m b.replies (after_writers m k) i)

none_of : (ys : List HistoryEntry) → Every (λ y. is_writers y.event ≡ false) ys → writers_of ys ≡ []
none_of [] h = refl
none_of (y ∷ ys) h = ap (λ (b : Bool). if b then y ∷ writers_of ys else writers_of ys) h.0 ∙ none_of ys h.1

-- turns, and one more

pub turns_go_on : (h : Writer) (os : List Answered) (xs : List HistoryEntry) → writers_of xs ≡ flat_map entries_of_turn (turns h os) → GoesOn h os xs
turns_go_on h os xs same = record {
  turn = λ k replies. let t = turn (last_writer h (turns h os)) k replies in (
    writers_append xs (entries_of_turn t)
        ∙ (λ i. same i ++ turn_writers (last_writer h (turns h os)) k replies i)
        ∙ sym (entries_push (turns h os) t)
        ∙ ap (λ (ts : List WriterCall). flat_map entries_of_turn ts) (sym (turns_push h os (k, replies))),
    ap (λ (ts : List WriterCall). last_writer h ts) (turns_push h os (k, replies)) ∙ last_push h (turns h os) t,
  );
  passes = λ ys mine. writers_append xs ys ∙ (λ i. same i ++ none_of ys mine i) ∙ append-nil (flat_map entries_of_turn (turns h os));
}
