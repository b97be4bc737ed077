-- One turn more, the first part, and what the laws of turns say.
use Rattle.std.proofs.Common.{◌≡◌, ℕ, zero, suc, ◌+◌, false, List, [], ◌∷◌, ◌++◌, map}
use Rattle.std.proofs.Common.{None, Some, refl, sym, ap, subst, ◌∙◌, append_assoc, inl, inr}
use Rattle.std.specs.Prelude.{flat_map, replicate, ◌⊎◌}
use Rattle.mem_base.specs.declared.map.calls.Config.TheVariants as configs
use Rattle.mem_base.specs.declared.machine.events.HistoryEntry.{HistoryEntry}
use Rattle.mem_base.specs.map.Limits.{notifier_count}
use Rattle.mem_base.specs.views.Replay.{replay}
use Rattle.mem_base.specs.views.Listening.{Delivery, calls_to}
use Rattle.mem_base.specs.machine.Actors.{own_entries, generations_after_all}
use Rattle.mem_base.specs.machine.Answers.{Answer}
use Rattle.mem_base.specs.machine.Generations.{Generations, first_generations, nothing_known}
use Rattle.mem_base.specs.machine.JoinedHistory.{IsJoined, TurnsJoin}
use Rattle.mem_base.specs.machine.ListenerReplay.{listener_of, heard_of, told_forest}
use Rattle.mem_base.specs.machine.Orders.{Order}
use Rattle.mem_base.specs.machine.Publishing.{current_forest}
use Rattle.mem_base.specs.machine.Reaps.{Writer, writer, first_writer}
use Rattle.mem_base.specs.machine.SharedHistory.{IsSharedLegal}
use Rattle.mem_base.specs.machine.Turns.{Answered, WriterCall, turn, turns, entries_of_turn, last_writer, writers_of}
use Rattle.mem_base.proofs.EveryLaws.{every_push}
use Rattle.history_laws.proofs.DroppedLaws.{Dropped}
use Rattle.history_laws.proofs.Idles.{Idle, opens_idle}
use Rattle.history_laws.proofs.OwnLaws.{own_writers}
use Rattle.turn_laws.specs.Replayed.{TurnsReplay}
use Rattle.cell_laws.specs.TurnCells.{FitsOrder, HasFittingCall, TurnsKeepMarks, TurnsReuseReleased}
use Rattle.epoch_rule.specs.Rule.{IsLegal}
use Rattle.epoch_rule.specs.Calls.{generations_in_seen}
use Rattle.epoch_rule.specs.Values.{WriterValue}
use Rattle.writer_desk.specs.declared.idle.IdleDesk.{IdleDesk}
use Rattle.writer_desk.specs.Writers.{WriterState, first_state, desk_of, writer_state}
use Rattle.writer_desk.specs.Listened.{resting}
use Rattle.writer_run.specs.Parts.{AreParts, idle_writer}
use Rattle.writer_run.specs.Taken.{desk_with, part_told_before, part_with_calls}
use Rattle.writer_run.specs.Turns.{IsTurn}
use Rattle.writer_run.proofs.TakenLaws.{TurnsAlike, turn_before}
use Rattle.seat_run.specs.Written.{HasWritten}
use Rattle.config_desk.specs.Configs.{ConfigState, IsOfTurns, IsConfig, config_state, part_at, with_calls}
use Rattle.config_desk.specs.SeenLaws.{IsSeenLegal, KeepsMarks, ReplaysToListeners, ReusesWords}
use Rattle.turn_laws.proofs.TurnLists.{turns_push, last_push, entries_push}

-- one turn more
one_more : (v u : WriterValue) (w x : Writer) (k : Order) (answer : Answer) → FitsOrder k → IsOfTurns v w → IsTurn w k (λ xs. HasWritten v xs u) answer x
    → IsOfTurns u x
one_more v u w x k answer fits h t =
    let first : Writer = first_writer h.pool_words h.passes in
    let o : Answered = (k, t.replies) in
    let before : List WriterCall = turns first h.orders in
    let whole : Writer = part_told_before h.taken w in
    let same : TurnsAlike h.taken w k t.replies = turn_before h.taken w k t.replies in
    let all : turns first (h.orders ++ o ∷ []) ≡ before ++ turn whole k t.replies ∷ [] =
    turns_push first h.orders o ∙ ap (λ (y : Writer). before ++ turn y k t.replies ∷ []) (sym h.last) in record {
      pool_words = h.pool_words;
      passes = h.passes;
      taken = h.taken;
      orders = h.orders ++ o ∷ [];
      wide = ap (λ s. s.words) t.made.sizes ∙ h.wide;
      counts = ap (λ s. s.passes) t.made.sizes ∙ h.counts;
      fitting = every_push HasFittingCall h.orders o h.fitting fits;
      entries = t.made.adds.events ∙ ap (λ (xs : List HistoryEntry). xs ++ entries_of_turn (turn w k t.replies)) h.entries
          ∙ ap (λ (xs : List HistoryEntry). flat_map entries_of_turn before ++ xs) (sym same.entries)
          ∙ sym (entries_push before (turn whole k t.replies)) ∙ ap (λ (ts : List WriterCall). flat_map entries_of_turn ts) (sym all);
      last = ap (part_told_before h.taken) t.writer ∙ sym same.writer ∙ sym (last_push first before (turn whole k t.replies))
          ∙ ap (λ (ts : List WriterCall). last_writer first ts) (sym all);
    }

-- at first

off_flags : (n : ℕ) → map (λ k. false) (replicate n nothing_known) ≡ replicate n false
off_flags zero = refl
off_flags (suc n) = ap (λ bs. false ∷ bs) (off_flags n)

first_part : (pool_words passes : ℕ) → idle_writer (first_state pool_words) [] (first_generations passes) ≡ first_writer pool_words passes
first_part pool_words passes =
    λ i. writer (desk_of (first_state pool_words) (record { dropped = []; unfilled = []; swept = off_flags passes i })) (first_generations passes)

module _ (d : IdleDesk) (v : WriterValue) (pool_words passes : ℕ) (first : resting d.listened ≡ first_state pool_words) (none : d.dropped.items ≡ [])
    (counts : passes ≡ v.sizes.passes) (wide : v.sizes.words ≡ pool_words + notifier_count) (fresh : v.seen ≡ []) where
  gens : generations_in_seen v.sizes v.seen ≡ first_generations passes
  gens = λ i. generations_after_all (first_generations (sym counts i)) (own_entries 0 (fresh i))

  pub opens : part_at d v ≡ first_writer pool_words passes
  opens = (λ i. idle_writer (first i) (none i) (gens i)) ∙ first_part pool_words passes

  pub is_config : IsConfig d v
  is_config = record {
    parts = record {
      idle = subst Idle (sym opens) (opens_idle pool_words passes);
      gone = let e : first_writer pool_words passes ≡ part_at d v = sym opens in subst (λ (w : Writer). Dropped w.desk) e
          (record { rising = tt; gone = tt });
      current = ap (λ (g : Generations). current_forest g) gens ∙ sym (ap (λ (x : WriterState). x.backed.desk.current.forest) first);
      number = ap (λ (x : WriterState). x.backed.desk.current.number) first ∙ sym (ap (λ (g : Generations). g.current) gens);
      wide = wide ∙ ap (λ (n : ℕ). n + notifier_count) (sym (ap (λ (x : WriterState). x.backed.backing.pool_words) first));
    };
    turns = record {
      pool_words = pool_words;
      passes = passes;
      taken = [];
      orders = [];
      wide = wide;
      counts = sym counts;
      fitting = tt;
      entries = ap (λ (xs : List HistoryEntry). own_entries 0 xs) fresh;
      last = opens;
    };
  }

-- after a turn it is a configuration still
pub after_turn : (d : IdleDesk) (v : WriterValue) → IsConfig d v → (e : IdleDesk) (u : WriterValue)
    → AreParts e (generations_in_seen u.sizes u.seen) u.sizes.words → (k : Order) (answer : Answer) → FitsOrder k
    → IsTurn (part_at d v) k (λ xs. HasWritten v xs u) answer (part_at e u) → IsConfig e u
after_turn d v h e u parts k answer fits t =
    record { parts = parts; turns = one_more v u (part_at d v) (part_at e u) k answer fits h.turns t }

-- the same after a call that was a turn, or where nothing has happened
pub still_config : (d : IdleDesk) (v : WriterValue) → IsConfig d v → (e : IdleDesk) (u : WriterValue)
    → AreParts e (generations_in_seen u.sizes u.seen) u.sizes.words → (k : Order) (answer : Answer) → FitsOrder k → (P : Type 0)
    → (P → IsTurn (part_at d v) k (λ xs. HasWritten v xs u) answer (part_at e u))
    → (Q : Type 0) → (Q → (part_at e u ≡ part_at d v) × (u ≡ v)) → Q ⊎ P → IsConfig e u
still_config d v h e u parts k answer fits P turned Q unmoved (inl q) =
    let same = unmoved q in record {
      parts = parts;
      turns = subst (λ (z : WriterValue × Writer). IsOfTurns z.0 z.1) (λ i. (sym same.1 i, sym same.0 i)) h.turns;
    }
still_config d v h e u parts k answer fits P turned Q unmoved (inr p) = after_turn d v h e u parts k answer fits (turned p)

-- the same where the writer made no entry

same_part : (d : IdleDesk) (v u : WriterValue) → u.sizes ≡ v.sizes → own_entries 0 u.seen ≡ own_entries 0 v.seen
    → generations_in_seen u.sizes u.seen ≡ generations_in_seen v.sizes v.seen
same_part d v u sizes own = λ i. generations_after_all (first_generations (sizes i).passes) (own i)

pub part_stays : (d : IdleDesk) (v u : WriterValue) → u.sizes ≡ v.sizes → own_entries 0 u.seen ≡ own_entries 0 v.seen → part_at d u ≡ part_at d v
part_stays d v u sizes own = ap (λ (g : Generations). idle_writer (resting d.listened) d.dropped.items g) (same_part d v u sizes own)

pub no_entry : (d : IdleDesk) (v u : WriterValue) → IsConfig d v → u.sizes ≡ v.sizes → own_entries 0 u.seen ≡ own_entries 0 v.seen → IsConfig d u
no_entry d v u h sizes own = let t = h.turns in record {
  parts = subst (λ (z : Generations × ℕ). AreParts d z.0 z.1) (λ i. (sym (same_part d v u sizes own) i, (sym sizes i).words)) h.parts;
  turns = record {
    pool_words = t.pool_words;
    passes = t.passes;
    taken = t.taken;
    orders = t.orders;
    wide = ap (λ s. s.words) sizes ∙ t.wide;
    counts = ap (λ s. s.passes) sizes ∙ t.counts;
    fitting = t.fitting;
    entries = own ∙ t.entries;
    last = ap (part_told_before t.taken) (part_stays d v u sizes own) ∙ t.last;
  };
}

-- the same where the first calls of its journal are taken out

idle_with : (calls : List Delivery) (w : Writer) → Idle w → Idle (part_with_calls calls w)
idle_with calls w h = let s = h.sound in record {
  due = h.due;
  filled = h.filled;
  flagged = h.flagged;
  sound = record { forest = s.forest; few = s.few; places = s.places; pending = s.pending };
}

dropped_with : (calls : List Delivery) (w : Writer) → Dropped w.desk → Dropped (desk_with calls w.desk)
dropped_with calls w h = record { rising = h.rising; gone = h.gone }

module _ (d e : IdleDesk) (v : WriterValue) (rest : List Delivery) (dropped : e.dropped.items ≡ d.dropped.items)
    (backed : e.listened.backed ≡ d.listened.backed) (left : e.listened.set.listening ≡ record d.listened.set.listening { journal = rest }) where
  part_of_rest : part_at e v ≡ part_with_calls rest (part_at d v)
  part_of_rest = λ i. idle_writer (writer_state (backed i) (left i) None) (dropped i) (generations_in_seen v.sizes v.seen)

  pub state_of_rest : config_state e v ≡ with_calls rest (config_state d v)
  state_of_rest = λ i. record { seat = v; part = part_of_rest i }

  pub rest_is_config : (first : List Delivery) → d.listened.set.listening.journal ≡ first ++ rest → IsConfig d v → IsConfig e v
  rest_is_config first is h =
      let t = h.turns in
      let w : Writer = part_at d v in
      let forest : e.listened.backed.desk.current.forest ≡ d.listened.backed.desk.current.forest = λ i. (backed i).desk.current.forest in
      let number : e.listened.backed.desk.current.number ≡ d.listened.backed.desk.current.number = λ i. (backed i).desk.current.number in
      let words : e.listened.backed.backing.pool_words ≡ d.listened.backed.backing.pool_words = λ i. (backed i).backing.pool_words in record {
        parts = record {
          idle = subst Idle (sym part_of_rest) (idle_with rest w h.parts.idle);
          gone = subst (λ (x : Writer). Dropped x.desk) (sym part_of_rest) (dropped_with rest w h.parts.gone);
          current = h.parts.current ∙ sym forest;
          number = number ∙ h.parts.number;
          wide = h.parts.wide ∙ sym (ap (λ (n : ℕ). n + notifier_count) words);
        };
        turns = record {
          pool_words = t.pool_words;
          passes = t.passes;
          taken = t.taken ++ first;
          orders = t.orders;
          wide = t.wide;
          counts = t.counts;
          fitting = t.fitting;
          entries = t.entries;
          last = ap (part_told_before (t.taken ++ first)) part_of_rest
              ∙ ap (λ (calls : List Delivery). part_with_calls calls w)
              (append_assoc t.taken first rest ∙ ap (λ (calls : List Delivery). t.taken ++ calls) (sym is))
              ∙ t.last;
        };
      }

-- what the laws of turns say

module _ (c : ConfigState) (legal : IsLegal c.seat.sizes c.seat.seen) where
  seen_legal : (t : IsOfTurns c.seat c.part) → IsSharedLegal (t.pool_words + notifier_count) t.passes c.seat.seen
  seen_legal t = subst (λ (z : ℕ × ℕ). IsSharedLegal z.0 z.1 c.seat.seen) (λ i. (t.wide i, t.counts i)) legal

  own_are : (t : IsOfTurns c.seat c.part) → writers_of c.seat.seen ≡ flat_map entries_of_turn (turns (first_writer t.pool_words t.passes) t.orders)
  own_are t = sym (own_writers c.seat.seen) ∙ t.entries

  pub joined : TurnsJoin → (t : IsOfTurns c.seat c.part) → IsJoined t.pool_words t.passes (turns (first_writer t.pool_words t.passes) t.orders) c.seat.seen
  joined law t = law t.pool_words t.passes t.orders c.seat.seen (seen_legal t) (own_are t)

  pub joins : TurnsJoin → IsSeenLegal c
  joins law t = let j = joined law t in (j.legal, j.ends ∙ sym t.last)

  pub reuses : TurnsReuseReleased → ReusesWords c
  reuses law t = law t.pool_words t.passes t.orders c.seat.seen (seen_legal t) (own_are t)

  pub marks : TurnsKeepMarks → KeepsMarks c
  marks law t = law t.pool_words t.passes t.orders c.seat.seen (seen_legal t) (own_are t) t.fitting

  pub replays : TurnsReplay → ReplaysToListeners c
  replays law t id = subst (λ (w : Writer). replay (calls_to id w.desk.listening.journal)
      ≡ Some (heard_of (told_forest w) (listener_of w.desk.listening.listeners id))) (sym t.last)
      (law t.pool_words t.passes t.orders c.seat.seen (seen_legal t) (own_are t) id)
