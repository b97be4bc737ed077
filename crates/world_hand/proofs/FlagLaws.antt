-- Which passes were swept before a call matters for nothing that the call makes or answers.
use Rattle.std.proofs.Common.{◌≡◌, ℕ, ◌+◌, ◌-◌, Bool, true, false, List, [], ◌∷◌, ◌++◌, length, length-set, map, drop, set, refl, sym, ap, ◌∙◌, if◌then◌else◌}
use Rattle.std.proofs.Common.{Option, Some, None, Ok, Err}
use Rattle.std.specs.Prelude.{◌==◌, ◌&&◌, not, Result}
use Rattle.std.specs.List.{range_with_len}
use Rattle.mem_base.specs.declared.map.ids.ListenerId.{ListenerId}
use Rattle.mem_base.specs.map.PassIds.{PassId}
use Rattle.mem_base.specs.declared.map.ids.RegionId.{RegionId}
use Rattle.mem_base.specs.declared.map.forests.Forest.{Forest}
use Rattle.mem_base.specs.declared.map.calls.Applied.{Applied}
use Rattle.mem_base.specs.declared.map.calls.Applied.TheVariants.{Made, Done}
use Rattle.mem_base.specs.declared.map.calls.Call.{Call}
use Rattle.mem_base.specs.declared.map.calls.Call.TheVariants as calls
use Rattle.mem_base.specs.declared.map.calls.Config.{Config}
use Rattle.mem_base.specs.declared.map.calls.Config.TheVariants as configs
use Rattle.mem_base.specs.declared.map.kinds.Client.{Client}
use Rattle.mem_base.specs.declared.map.refusals.Refusal.{Refusal}
use Rattle.mem_base.specs.declared.map.refusals.Refusal.TheVariants.{NoTransaction, TooNested}
use Rattle.mem_base.specs.declared.views.listening.Listener.{Listener}
use Rattle.mem_base.specs.declared.machine.events.Carried.{Carried}
use Rattle.mem_base.specs.declared.machine.events.Event.{Event}
use Rattle.mem_base.specs.declared.machine.events.Event.TheVariants as events
use Rattle.mem_base.specs.declared.machine.events.HistoryEntry.{HistoryEntry}
use Rattle.mem_base.specs.lists.Every.{Every}
use Rattle.mem_base.specs.lists.Runs.{touched}
use Rattle.mem_base.specs.map.Calls.{after, answer_of, is_quiet}
use Rattle.mem_base.specs.map.Limits.{most_nested, word_size}
use Rattle.mem_base.specs.map.Refusals.{first_refusal, unknown_space}
use Rattle.mem_base.specs.access.Places.{Extent, extent_of, first_fit, words_of}
use Rattle.mem_base.specs.access.PlacesByRegion.{place_in}
use Rattle.mem_base.specs.views.Flattened.{view_of}
use Rattle.mem_base.specs.views.LiveEvents.{lives_of}
use Rattle.mem_base.specs.views.Listening.{join_refusal, joined, leave_refusal, left}
use Rattle.mem_base.specs.machine.Answers.{answer_of_config, answer_to, first_or_zero, number_due, reap_answer}
use Rattle.mem_base.specs.machine.Configs.{configured, after_call, backed, begun, committed, kept_back, listened, made, unlistened, without_listener, writer_after}
use Rattle.mem_base.specs.machine.Desk.{Desk, carried_by, places_of, unswept}
use Rattle.mem_base.specs.machine.Generations.{Generations}
use Rattle.mem_base.specs.machine.Orders.{Order, configure, current, events_before, events_after, harvest, harvest_refusal, journal, load, load_refusal}
use Rattle.mem_base.specs.machine.Orders.{mark_words_at, notified, pass_ids, reap, sweeps, unless}
use Rattle.mem_base.specs.machine.Publishing.{Settled, current_forest, held_up, publishing, refused_desk, settled, unless_refused, would_publish}
use Rattle.mem_base.specs.machine.Reaps.{Writer, released, writer}
use Rattle.mem_base.specs.machine.Turns.{Played, after_private, entries_of_turn, history_entry, played, replies_of, turn}
use Rattle.mem_base.proofs.EveryLaws.{every_map, every_one}
use Rattle.turn_laws.proofs.Rows.{sweeps_of, with_swept}
use Rattle.writer_hand.proofs.EntryLaws.{same_flags}
use Rattle.world_hand.specs.Run.{SweepNone, is_sweep}

-- the same with these passes swept

abbrev pub flagged : List Bool → Writer → Writer
flagged bs h = writer (with_swept bs h.desk) h.generations

abbrev settled_with : List Bool → Settled → Settled
settled_with bs s = record { desk = with_swept bs s.desk; answer = s.answer }

abbrev played_with : List Bool → Played → Played
played_with bs p = record { entries = p.entries; writer = flagged bs p.writer; replies = p.replies }

-- a private event settles the same

module _ (bs : List Bool) (g : Generations) where
  either_with : (b : Bool) (s t u v : Settled) → s ≡ settled_with bs u → t ≡ settled_with bs v
      → (if b then s else t) ≡ settled_with bs (if b then u else v)
  either_with true s t u v e f = e
  either_with false s t u v e f = f

  unless_with : (o : Option Refusal) (d : Desk) (s t : Settled) → s ≡ settled_with bs t
      → unless_refused o (with_swept bs d) s ≡ settled_with bs (unless_refused o d t)
  unless_with None d s t e = e
  unless_with (Some why) d s t e = refl

  backed_with : (d : Desk) (f : Forest) (r : RegionId) (x : Extent) (o : Option ℕ) → backed (with_swept bs d) f r x o ≡ settled_with bs (backed d f r x o)
  backed_with d f r x None = refl
  backed_with d f r x (Some start) = refl

  made_with : (d : Desk) (f : Forest) (r : RegionId) (x : Extent) → made (with_swept bs d) f r x ≡ settled_with bs (made d f r x)
  made_with d f r x = let o : Option ℕ = first_fit d.pool_words d.places (words_of x) in
      either_with (words_of x == 0) (settled (record (with_swept bs d) { forest = f }) (Made r)) (backed (with_swept bs d) f r x o)
      (settled (record d { forest = f }) (Made r)) (backed d f r x o) refl (backed_with d f r x o)

  kept_with : (d : Desk) (call : Call) (f : Forest) → kept_back (with_swept bs d) call f ≡ settled_with bs (kept_back d call f)
  kept_with d (calls.Region kind size) f = made_with d f (record { 0 = d.forest.made }) (extent_of kind size)
  kept_with d _ f = refl

  publishing_with : (d : Desk) (f : Forest) (a : Applied) → publishing g (with_swept bs d) f a ≡ settled_with bs (publishing g d f a)
  publishing_with d f a = unless_with (held_up g) d _ _ refl

  call_with : (d : Desk) (call : Call) (r : Result Forest Refusal) → after_call g (with_swept bs d) call r ≡ settled_with bs (after_call g d call r)
  call_with d call (Err why) = refl
  call_with d call (Ok f) = let a : Applied = answer_of d.forest call in
      either_with ((d.depth == 0) && not (is_quiet call)) (publishing g (with_swept bs d) f a) (kept_back (with_swept bs d) call f)
      (publishing g d f a) (kept_back d call f) (publishing_with d f a) (kept_with d call f)

  begun_with : (d : Desk) → begun (with_swept bs d) ≡ settled_with bs (begun d)
  begun_with d = either_with (d.depth == most_nested) (refused_desk (with_swept bs d) TooNested)
      (settled (record (with_swept bs d) { depth = d.depth + 1 }) Done) (refused_desk d TooNested) (settled (record d { depth = d.depth + 1 }) Done) refl refl

  committed_with : (d : Desk) → committed g (with_swept bs d) ≡ settled_with bs (committed g d)
  committed_with d =
      let b : Bool = (d.depth == 1) && d.pending in
      let s : Settled = publishing g (with_swept bs d) d.forest Done in
      let t : Settled = settled (record (with_swept bs d) { depth = d.depth - 1 }) Done in
      let u : Settled = publishing g d d.forest Done in
      let v : Settled = settled (record d { depth = d.depth - 1 }) Done in
      either_with (d.depth == 0) (refused_desk (with_swept bs d) NoTransaction) (if b then s else t)
      (refused_desk d NoTransaction) (if b then u else v) refl (either_with b s t u v (publishing_with d d.forest Done) refl)

  joins_with : (d : Desk) (l : Listener) → listened g (with_swept bs d) l ≡ settled_with bs (listened g d l)
  joins_with d l = unless_with (first_refusal (unknown_space d.forest l.space ∷ join_refusal d.listening l.listener ∷ [])) d
      (settled (record (with_swept bs d) {
        listening = joined d.listening l (view_of (current_forest g) l.space) (lives_of (current_forest g) l.space);
      }) Done)
      (settled (record d { listening = joined d.listening l (view_of (current_forest g) l.space) (lives_of (current_forest g) l.space) }) Done) refl

  either_left : (b : Bool) (d e u v : Desk) → d ≡ with_swept bs u → e ≡ with_swept bs v → (if b then d else e) ≡ with_swept bs (if b then u else v)
  either_left true d e u v p q = p
  either_left false d e u v p q = q

  without_with : (ls : List Listener) (id : ListenerId) (d : Desk) → without_listener ls id g (with_swept bs d) ≡ with_swept bs (without_listener ls id g d)
  without_with [] id d = refl
  without_with (l ∷ ls) id d = either_left (l.listener.0 == id.0)
      (record (with_swept bs d) { listening = left d.listening id (view_of (current_forest g) l.space) (lives_of (current_forest g) l.space) })
      (without_listener ls id g (with_swept bs d))
      (record d { listening = left d.listening id (view_of (current_forest g) l.space) (lives_of (current_forest g) l.space) })
      (without_listener ls id g d) refl (without_with ls id d)

  leaves_with : (d : Desk) (id : ListenerId) → unlistened g (with_swept bs d) id ≡ settled_with bs (unlistened g d id)
  leaves_with d id = unless_with (leave_refusal d.listening id) d (settled (without_listener d.listening.listeners id g (with_swept bs d)) Done)
      (settled (without_listener d.listening.listeners id g d) Done) (ap (λ (e : Desk). settled e Done) (without_with d.listening.listeners id d))

  configured_with : (d : Desk) (c : Config) → configured g (with_swept bs d) c ≡ settled_with bs (configured g d c)
  configured_with d configs.Begin = begun_with d
  configured_with d (configs.Call call) = call_with d call (after d.forest call)
  configured_with d configs.Commit = committed_with d
  configured_with d (configs.Listen listener space priority) = joins_with d (record { listener = listener; space = space; priority = priority })
  configured_with d (configs.Unlisten listener) = leaves_with d listener

pub would_with : (bs : List Bool) (d : Desk) (c : Config) → would_publish (with_swept bs d) c ≡ would_publish d c
would_with bs d configs.Begin = refl
would_with bs d _ = refl

-- the events before a private one are played the same

record PlayedWith (bs : List Bool) (h : Writer) (es : List Event) (ns : List ℕ) : Type 0 where
  flags : List Bool
  many : length flags ≡ length (played h es ns).writer.desk.swept
  is : played (flagged bs h) es ns ≡ played_with flags (played h es ns)

sweeps_with : (vs : List PassId) (bs : List Bool) (h : Writer) (ns : List ℕ) → length bs ≡ length h.desk.swept → PlayedWith bs h (sweeps_of vs) ns
sweeps_with [] bs h ns e = record { flags = bs; many = e; is = refl }
sweeps_with (v ∷ vs) bs h ns e =
    let n : ℕ = first_or_zero ns in
    let c = carried_by h.desk (events.Sweep v) in
    let rest : PlayedWith (set bs v.0 true) (writer_after h (events.Sweep v) c n) (sweeps_of vs) (drop 1 ns) =
    sweeps_with vs (set bs v.0 true) (writer_after h (events.Sweep v) c n) (drop 1 ns)
    (length-set bs v.0 true ∙ e ∙ sym (length-set h.desk.swept v.0 true)) in record {
      flags = rest.flags;
      many = rest.many;
      is = ap (λ (p : Played). record p { entries = history_entry (events.Sweep v) c n ∷ p.entries }) rest.is;
    }

before_with : (b : Bool) (bs : List Bool) (h : Writer) (ns : List ℕ) → length bs ≡ length h.desk.swept
    → PlayedWith bs h (if b then sweeps h.generations else []) ns
before_with true bs h ns e = sweeps_with (pass_ids h.generations) bs h ns e
before_with false bs h ns e = record { flags = bs; many = e; is = refl }

-- what a turn leaves of the flags: after a private event no pass is swept
abbrev pub left_with : Order → List Bool → Writer → Writer
left_with (configure c) bs h = h
left_with reap bs h = h
left_with k bs h = flagged bs h

pub record FlaggedTurn (bs : List Bool) (h : Writer) (k : Order) (ns : List ℕ) : Type 0 where
  pub entries : entries_of_turn (turn (flagged bs h) k ns) ≡ entries_of_turn (turn h k ns)
  pub answer : (turn (flagged bs h) k ns).answer ≡ (turn h k ns).answer
  pub writer : (turn (flagged bs h) k ns).writer ≡ left_with k bs (turn h k ns).writer

-- a call, a begin, a commit, a listener that joins or leaves

module _ (c : Config) where
  abbrev middle : Writer → Writer
  middle w = after_private w (events.Config c ∷ [])

  middle_with : (cs : List Bool) (w : Writer) → length cs ≡ length w.desk.swept → middle (flagged cs w) ≡ middle w
  middle_with cs w e =
      let s : Settled = configured w.generations w.desk c in
      let own : s.desk.swept ≡ w.desk.swept = ap (λ (t : Settled). t.desk.swept) (configured_with w.desk.swept w.generations w.desk c) in
      ap (λ (t : Settled). writer (unswept t.desk) w.generations) (configured_with cs w.generations w.desk c)
      ∙ (λ i. writer (with_swept ((same_flags cs w.desk.swept e ∙ ap (λ (bs : List Bool). map (λ b. false) bs) (sym own)) i) s.desk) w.generations)

  abbrev later : Played → Writer → List HistoryEntry
  later p m = p.entries ++ (played m (events_after m (configure c)) p.replies).entries

  config_turn : (bs : List Bool) (h : Writer) (ns : List ℕ) → length bs ≡ length h.desk.swept → FlaggedTurn bs h (configure c) ns
  config_turn bs h ns e =
      let es : List Event = events_before h (configure c) in
      let p : Played = played h es ns in
      let k : PlayedWith bs h es ns = before_with (would_publish h.desk c) bs h ns e in
      let begins : played (flagged bs h) (events_before (flagged bs h) (configure c)) ns ≡ played_with k.flags p =
      ap (λ (b : Bool). played (flagged bs h) (if b then sweeps h.generations else []) ns) (would_with bs h.desk c) ∙ k.is in
      let m : middle (flagged k.flags p.writer) ≡ middle p.writer = middle_with k.flags p.writer k.many in record {
        entries = ap (λ (q : Played). later q (middle q.writer)) begins ∙ ap (λ (w : Writer). later p w) m;
        answer = ap (λ (q : Played). answer_of_config c (configured q.writer.generations q.writer.desk c).answer (number_due (middle q.writer))) begins
            ∙ (λ i. answer_of_config c (configured_with k.flags p.writer.generations p.writer.desk c i).answer (number_due (m i)));
        writer = ap (λ (q : Played). (played (middle q.writer) (events_after (middle q.writer) (configure c)) q.replies).writer) begins
            ∙ ap (λ (w : Writer). (played w (events_after w (configure c)) p.replies).writer) m;
      }

-- a reap

reap_turn : (bs : List Bool) (h : Writer) (ns : List ℕ) → length bs ≡ length h.desk.swept → FlaggedTurn bs h reap ns
reap_turn bs h ns e =
    let p : Played = played h (sweeps h.generations) ns in
    let k : PlayedWith bs h (sweeps h.generations) ns = sweeps_with (pass_ids h.generations) bs h ns e in
    let reaped_part : Writer = after_private p.writer (events.Reap ∷ []) in
    let m : after_private (flagged k.flags p.writer) (events.Reap ∷ []) ≡ reaped_part =
    (λ i. writer (with_swept (same_flags k.flags p.writer.desk.swept k.many i) reaped_part.desk) p.writer.generations) in record {
      entries = ap (λ (q : Played). q.entries ++ []) k.is;
      answer = ap (λ (q : Played). reap_answer (Ok (released q.writer))) k.is;
      writer = ap (λ (q : Played). after_private q.writer (events.Reap ∷ [])) k.is ∙ m;
    }

-- steps on words

record Steady (e : Event) : Type 0 where
  carried : (bs : List Bool) (d : Desk) → carried_by (with_swept bs d) e ≡ carried_by d e
  after : (bs : List Bool) (h : Writer) (x : Carried) (n : ℕ) → writer_after (flagged bs h) e x n ≡ flagged bs (writer_after h e x n)

abbrev with_first : HistoryEntry → Played → Played
with_first x p = record p { entries = x ∷ p.entries }

steady_played : (es : List Event) → Every Steady es → (bs : List Bool) (h : Writer) (ns : List ℕ)
    → played (flagged bs h) es ns ≡ played_with bs (played h es ns)
steady_played [] k bs h ns = refl
steady_played (e ∷ es) k bs h ns =
    let n : ℕ = first_or_zero ns in
    let c : Carried = carried_by h.desk e in
    ap (λ (x : Carried). with_first (history_entry e x n) (played (writer_after (flagged bs h) e x n) es (drop 1 ns))) (k.0.carried bs h.desk)
    ∙ ap (λ (w : Writer). with_first (history_entry e c n) (played w es (drop 1 ns))) (k.0.after bs h c n)
    ∙ ap (λ (p : Played). with_first (history_entry e c n) p) (steady_played es k.1 bs (writer_after h e c n) (drop 1 ns))

steady_rows : {A : Type 0} (f : A → Event) (xs : List A) → ((x : A) → Steady (f x)) → Every Steady (map f xs)
steady_rows f xs k = every_map Steady f xs (every_one (λ x. Steady (f x)) xs k)

steady_unless : (o : Option Refusal) (es : List Event) → Every Steady es → Every Steady (unless o es)
steady_unless None es k = k
steady_unless (Some why) es k = tt

module _ (bs : List Bool) (h : Writer) (ns : List ℕ) where
  load_turn : (region : RegionId) (offset : ℕ) (bytes : List ℕ) → FlaggedTurn bs h (load region offset bytes) ns
  load_turn region offset bytes =
      let is = steady_played (events_after h (load region offset bytes))
      (steady_unless (load_refusal h.desk.forest region offset (length bytes)) _
      (steady_rows _ (touched word_size offset (length bytes)) (λ r. record { carried = λ cs d. refl; after = λ cs w x n. refl }))) bs h ns in record {
        entries = ap (λ (p : Played). p.entries) is;
        answer = ap (λ (p : Played). answer_to h h (load region offset bytes) (replies_of p.entries)) is;
        writer = ap (λ (p : Played). p.writer) is;
      }

  harvest_turn : (region : RegionId) (client : Client) → FlaggedTurn bs h (harvest region client) ns
  harvest_turn region client =
      let is = steady_played (events_after h (harvest region client))
      (steady_unless (harvest_refusal h.desk.forest region) _
      (steady_rows _ (range_with_len 0 (mark_words_at (place_in (places_of h.desk) region)))
      (λ i. record { carried = λ cs d. refl; after = λ cs w x n. refl })))
      bs h ns in record {
        entries = ap (λ (p : Played). p.entries) is;
        answer = ap (λ (p : Played). answer_to h h (harvest region client) (replies_of p.entries)) is;
        writer = ap (λ (p : Played). p.writer) is;
      }

  notified_turn : (number : ℕ) → FlaggedTurn bs h (notified number) ns
  notified_turn number =
      let is = steady_played (events_after h (notified number)) (record { carried = λ cs d. refl; after = λ cs w x n. refl }, tt) bs h ns in record {
        entries = ap (λ (p : Played). p.entries) is;
        answer = ap (λ (p : Played). answer_to h h (notified number) (replies_of p.entries)) is;
        writer = ap (λ (p : Played). p.writer) is;
      }

  -- the same entries and the same answer
  pub flag_turn : (k : Order) → length bs ≡ length h.desk.swept → FlaggedTurn bs h k ns
  flag_turn (configure c) e = config_turn c bs h ns e
  flag_turn reap e = reap_turn bs h ns e
  flag_turn (load region offset bytes) e = load_turn region offset bytes
  flag_turn (harvest region client) e = harvest_turn region client
  flag_turn (notified number) e = notified_turn number
  flag_turn journal e = record { entries = refl; answer = refl; writer = refl }
  flag_turn current e = record { entries = refl; answer = refl; writer = refl }

-- where there is no private event no pass is swept

abbrev AreNoSweeps : List Event → Type 0
AreNoSweeps es = Every (λ e. is_sweep e ≡ false) es

played_none : (es : List Event) → AreNoSweeps es → (h : Writer) (ns : List ℕ) → SweepNone (played h es ns).entries
played_none [] k h ns = tt
played_none (e ∷ es) k h ns = (k.0, played_none es k.1 (writer_after h e (carried_by h.desk e) (first_or_zero ns)) (drop 1 ns))

none_unless : (o : Option Refusal) (es : List Event) → AreNoSweeps es → AreNoSweeps (unless o es)
none_unless None es k = k
none_unless (Some why) es k = tt

none_rows : {A : Type 0} (f : A → Event) (xs : List A) → ((x : A) → is_sweep (f x) ≡ false) → AreNoSweeps (map f xs)
none_rows f xs k = every_map (λ e. is_sweep e ≡ false) f xs (every_one (λ x. is_sweep (f x) ≡ false) xs k)

module _ (h : Writer) (ns : List ℕ) where
  pub load_sweeps_none : (region : RegionId) (offset : ℕ) (bytes : List ℕ) → SweepNone (entries_of_turn (turn h (load region offset bytes) ns))
  load_sweeps_none region offset bytes =
      played_none (events_after h (load region offset bytes)) (none_unless (load_refusal h.desk.forest region offset (length bytes)) _
      (none_rows _ (touched word_size offset (length bytes)) (λ r. refl))) h ns

  pub harvest_sweeps_none : (region : RegionId) (client : Client) → SweepNone (entries_of_turn (turn h (harvest region client) ns))
  harvest_sweeps_none region client =
      played_none (events_after h (harvest region client)) (none_unless (harvest_refusal h.desk.forest region) _
      (none_rows _ (range_with_len 0 (mark_words_at (place_in (places_of h.desk) region))) (λ i. refl))) h ns

  pub notified_sweeps_none : (number : ℕ) → SweepNone (entries_of_turn (turn h (notified number) ns))
  notified_sweeps_none number = played_none (events_after h (notified number)) (refl, tt) h ns
