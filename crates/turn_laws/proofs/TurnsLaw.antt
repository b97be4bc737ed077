-- A shared history in which the writer's entries are those of turns is a legal history of the pure machine.
use Rattle.std.proofs.Common.{◌≡◌, ℕ, ◌+◌, Bool, true, false, List, [], ◌∷◌, ◌++◌, replicate, append_assoc, sym, refl, ap, ◌∙◌, subst, arith, if◌then◌else◌}
use Rattle.std.specs.Prelude.{flat_map}
use Rattle.mem_base.specs.declared.map.forests.Forest.{Forest}
use Rattle.mem_base.specs.declared.map.calls.Config.{Config}
use Rattle.mem_base.specs.declared.machine.events.HistoryEntry.{HistoryEntry}
use Rattle.mem_base.specs.declared.machine.events.Hand.TheVariants as hands
use Rattle.mem_base.specs.declared.machine.events.Carried.{Carried}
use Rattle.mem_base.specs.declared.machine.events.Carried.TheVariants.{Nothing, Edition, At}
use Rattle.mem_base.specs.declared.machine.events.Event.{Event}
use Rattle.mem_base.specs.declared.machine.events.Event.TheVariants as events
use Rattle.mem_base.specs.map.Limits.{notifier_count}
use Rattle.mem_base.specs.map.Calls.{empty}
use Rattle.mem_base.specs.machine.Committed.{committed_from}
use Rattle.mem_base.specs.machine.Reaps.{Writer, first_writer}
use Rattle.mem_base.specs.machine.World.{opening}
use Rattle.mem_base.specs.machine.History.{PureEntry, after_entries, IsLegal}
use Rattle.mem_base.specs.machine.SharedHistory.{Shared}
use Rattle.mem_base.specs.machine.SharedHistory as running
use Rattle.mem_base.specs.lists.Every.{Every}
use Rattle.mem_base.specs.machine.Orders.{Order, configure, reap, events_before, private_of}
use Rattle.mem_base.specs.machine.Turns.{Answered, WriterCall, played, private_entries, turn, turns, entries_of_turn, last_writer, is_writers, writers_of}
use Rattle.mem_base.specs.machine.JoinedHistory.{row_of, joined_history, accepted, accepted_one, accepted_in, forest_carried}
use Rattle.mem_base.specs.machine.JoinedHistory.{published_forests, is_private, IsJoined}
use Rattle.history_laws.proofs.Idles.{opens_idle, Idle}
use Rattle.turn_laws.proofs.Openings.{opens}
use Rattle.turn_laws.proofs.Joining.{Anything, Goes, Reaches, reaches_end, reaches_legal, joins_all}
use Rattle.turn_laws.proofs.Readies.{Ready, Due, steps_keep, privates_keep}
use Rattle.turn_laws.proofs.TurnGoes.{AllTurns, turns_go}
use Rattle.history_laws.proofs.Outcomes.{stands}
use Rattle.turn_laws.proofs.Rows.{forests_both}
use Rattle.turn_laws.proofs.Turning.{turn_facts}
use Rattle.turn_laws.proofs.TurnPlaces.{PrivateCall, all_shared, turn_placed, turns_keep_shared, turns_keep_private}

pub all_turns : (end : Writer) (os : List Answered) (h : Writer) → Idle h → AllTurns Ready Due end h os
all_turns end [] h i = tt
all_turns end (o ∷ os) h i = let f = turn_facts end h o.0 o.1 i in (f.ready, all_turns end os (turn h o.0 o.1).writer f.idle)

-- turns leave the writer at rest
pub idle_last : (end : Writer) (os : List Answered) (h : Writer) → Idle h → Idle (last_writer h (turns h os))
idle_last end [] h i = i
idle_last end (o ∷ os) h i = idle_last end os (turn h o.0 o.1).writer (turn_facts end h o.0 o.1 i).idle

accepted_both : (xs ys : List PureEntry) → accepted (xs ++ ys) ≡ accepted xs ++ accepted ys
accepted_both [] ys = refl
accepted_both (x ∷ xs) ys = ap (λ (cs : List Config). accepted_one x.event x.reply ++ cs) (accepted_both xs ys)
    ∙ sym (append_assoc (accepted_one x.event x.reply) (accepted xs) (accepted ys))

-- the turns publish what their private events commit
turns_publish : (end : Writer) (os : List Answered) (h : Writer) → Idle h → published_forests (flat_map entries_of_turn (turns h os)) ≡ committed_from
    (stands h.desk) (accepted_in (turns h os))
turns_publish end [] h i = refl
turns_publish end (o ∷ os) h i =
    let f = turn_facts end h o.0 o.1 i in let t = turn h o.0 o.1 in let rest = turns t.writer os in
    forests_both (entries_of_turn t) (flat_map entries_of_turn rest)
    ∙ ap (λ (fs : List Forest). published_forests (entries_of_turn t) ++ fs) (turns_publish end os t.writer f.idle)
    ∙ sym (f.forests (accepted_in rest))
    ∙ ap (λ (cs : List Config). committed_from (stands h.desk) cs) (sym (accepted_both t.private (flat_map (λ t. t.private) rest)))

-- only the writer's entries carry forests

carries_none : (s : Shared) (e : Event) (x : Carried) → is_writers e ≡ false → running.shared_possible s e x ≡ true → forest_carried x ≡ []
carries_none s e Nothing w h = refl
carries_none s e (At p) w h = refl
carries_none s (events.Look v) (Edition f ps) w h = absurd (grind arith)
carries_none s (events.Announce v) (Edition f ps) w h = absurd (grind arith)
carries_none s (events.Enter v) (Edition f ps) w h = absurd (grind arith)
carries_none s (events.Leave v) (Edition f ps) w h = absurd (grind arith)
carries_none s (events.Word (hands.Pass v) c step) (Edition f ps) w h = absurd (grind arith)
carries_none s (events.Mark v region client page) (Edition f ps) w h = absurd (grind arith)
carries_none s e (Edition f ps) w h = absurd (grind arith)

published_by_writer : (xs : List HistoryEntry) (s : Shared) → running.IsSharedLegalFrom s xs → published_forests xs ≡ published_forests (writers_of xs)
published_by_writer [] s l = refl
published_by_writer (x ∷ xs) s l = go (is_writers x.event) refl (published_by_writer xs (running.after_shared_entry s x) l.2)
  where
    go : (b : Bool) → is_writers x.event ≡ b → published_forests xs ≡ published_forests (writers_of xs) → forest_carried x.carried
        ++ published_forests xs ≡ published_forests (if b then x ∷ writers_of xs else writers_of xs)
    go true e rest = ap (λ (fs : List Forest). forest_carried x.carried ++ fs) rest
    go false e rest = ap (λ (fs : List Forest). fs ++ published_forests xs) (carries_none s x.event x.carried e l.0) ∙ rest

-- a turn has private events alone as its private entries
turns_are_private : (os : List Answered) (h : Writer) → Every PrivateCall (turns h os)
turns_are_private [] h = tt
turns_are_private (o ∷ os) h = (go (played h (events_before h o.0) o.1).writer o.0, turns_are_private os (turn h o.0 o.1).writer)
  where
    go : (h : Writer) (k : Order) → Every (λ y. is_private y.event ≡ true) (private_entries h (private_of k))
    go h (configure c) = (refl, tt)
    go h reap = (refl, tt)
    go h k = tt

module _ (pool_words passes : ℕ) (os : List Answered) (xs : List HistoryEntry) (legal : running.IsSharedLegal (pool_words + notifier_count) passes xs)
    (same : writers_of xs ≡ flat_map entries_of_turn (turns (first_writer pool_words passes) os)) where
  abbrev h : Writer
  h = first_writer pool_words passes

  abbrev ts : List WriterCall
  ts = turns h os

  abbrev end : Writer
  end = last_writer h ts

  abbrev final : Shared
  final = running.after_shared_entries (running.shared_opening (pool_words + notifier_count) passes) xs

  goes : Goes Ready Due end h (flat_map row_of ts) (writers_of xs)
  goes = subst (λ (ys : List HistoryEntry). Goes Ready Due end h (flat_map row_of ts) ys) (sym same)
      (turns_go Ready Due end os h refl (all_turns end os h (opens_idle pool_words passes)))

  -- the joined history is legal, and leads to a world with the last writer's part and the shared state
  pub turns_reach : Reaches Anything end final (opening pool_words passes) (joined_history ts xs)
  turns_reach =
      joins_all Ready Due Anything end final steps_keep privates_keep (λ w words k y r may. tt) (λ w words k x due. tt) (λ w words k y e may. tt)
      xs (flat_map row_of ts) (opening pool_words passes) (replicate (pool_words + notifier_count) 0) (opens pool_words passes) goes legal refl

  pub turns_join : IsJoined pool_words passes ts xs
  turns_join =
      let private = turns_are_private os h in
      let shared = all_shared xs (running.shared_opening (pool_words + notifier_count) passes) legal in record {
        shared = turns_keep_shared ts xs private shared;
        private = turns_keep_private ts xs private shared same;
        placed = turn_placed ts xs private shared same;
        legal = reaches_legal Anything end final (opening pool_words passes) (joined_history ts xs) turns_reach;
        ends = (reaches_end Anything end final (opening pool_words passes) (joined_history ts xs) turns_reach).writer;
        forests = ap (λ (fs : List Forest). empty ∷ fs) (published_by_writer xs (running.shared_opening (pool_words + notifier_count) passes) legal
            ∙ ap published_forests same ∙ turns_publish end os h (opens_idle pool_words passes));
      }

-- what holds of the writer's part after every legal history of the pure machine holds of it after turns
pub turns_inherit : (P : Writer → Type 0) (pool_words passes : ℕ)
    → ((ys : List PureEntry) → IsLegal pool_words passes ys → P (after_entries (opening pool_words passes) ys).writer)
    → (os : List Answered) (xs : List HistoryEntry) → running.IsSharedLegal (pool_words + notifier_count) passes xs
    → writers_of xs ≡ flat_map entries_of_turn (turns (first_writer pool_words passes) os)
    → P (last_writer (first_writer pool_words passes) (turns (first_writer pool_words passes) os))
turns_inherit P pool_words passes law os xs legal same = let j = turns_join pool_words passes os xs legal same in
    subst P j.ends (law (joined_history (turns (first_writer pool_words passes) os) xs) j.legal)
