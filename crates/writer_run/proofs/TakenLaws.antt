-- Nothing but the answer of a journal looks at the journal: the writer's part goes on alike, whichever calls stand in it before the others.
use Rattle.std.proofs.Common.{◌≡◌, ℕ, ◌+◌, Bool, true, false, ◌&&◌, if◌then◌else◌, List, [], ◌∷◌, ◌++◌, append_assoc, refl, ap, ◌∙◌}
use Rattle.std.proofs.Common.{Option, Some, None}
use Rattle.std.specs.Prelude.{◌==◌, ◌-◌, drop, not, Result, Ok, Err}
use Rattle.mem_base.specs.declared.map.ids.ListenerId.{ListenerId}
use Rattle.mem_base.specs.declared.map.ids.RegionId.{RegionId}
use Rattle.mem_base.specs.declared.map.forests.Forest.{Forest}
use Rattle.mem_base.specs.declared.map.calls.Applied.{Applied}
use Rattle.mem_base.specs.declared.map.calls.Applied.TheVariants.{Done, Made}
use Rattle.mem_base.specs.declared.map.calls.Call.{Call}
use Rattle.mem_base.specs.declared.map.calls.Call.TheVariants as calls
use Rattle.mem_base.specs.declared.map.calls.Config.{Config}
use Rattle.mem_base.specs.declared.map.calls.Config.TheVariants as configs
use Rattle.mem_base.specs.declared.map.refusals.Refusal.{Refusal}
use Rattle.mem_base.specs.declared.map.refusals.Refusal.TheVariants.{NoTransaction, TooNested}
use Rattle.mem_base.specs.declared.views.listening.Listener.{Listener}
use Rattle.mem_base.specs.declared.machine.events.Carried.{Carried}
use Rattle.mem_base.specs.declared.machine.events.Event.{Event}
use Rattle.mem_base.specs.declared.machine.events.Event.TheVariants as events
use Rattle.mem_base.specs.declared.machine.events.HistoryEntry.{HistoryEntry}
use Rattle.mem_base.specs.map.Calls.{after, answer_of, is_quiet}
use Rattle.mem_base.specs.map.Limits.{most_nested}
use Rattle.mem_base.specs.map.Refusals.{first_refusal, unknown_space}
use Rattle.mem_base.specs.access.Places.{Extent, extent_of, first_fit, words_of}
use Rattle.mem_base.specs.views.Flattened.{view_of}
use Rattle.mem_base.specs.views.LiveEvents.{lives_of}
use Rattle.mem_base.specs.views.Listening.{Delivery, ascending, changes_between, deliveries_of_changes, deliveries_to, join_refusal, joined, joining}
use Rattle.mem_base.specs.views.Listening.{leave_refusal, leaving, left}
use Rattle.mem_base.specs.machine.Answers.{first_or_zero}
use Rattle.mem_base.specs.machine.Configs.{after_call, backed, begun, committed, configured, kept_back, listened, made, unlistened, without_listener}
use Rattle.mem_base.specs.machine.Configs.{writer_after}
use Rattle.mem_base.specs.machine.Desk.{Desk, carried_by, unswept}
use Rattle.mem_base.specs.machine.Generations.{Generations, generations_after}
use Rattle.mem_base.specs.machine.Orders.{Order, configure, current, events_after, events_before, harvest, journal, load, notified, private_of, reap, sweeps}
use Rattle.mem_base.specs.machine.Publishing.{Settled, current_forest, held_up, publishing, readied, refused_desk, settled, unless_refused, would_publish}
use Rattle.mem_base.specs.machine.Reaps.{Writer, writer}
use Rattle.mem_base.specs.machine.Turns.{Played, after_private, entries_of_turn, history_entry, played, turn}
use Rattle.writer_run.specs.Taken.{desk_with, part_told_before}

-- of two branches each may be changed alike
either_branch : {A B : Type 0} (f : A → B) (test : Bool) (x y : A) (u v : B) → u ≡ f x → v ≡ f y → (if test then u else v) ≡ f (if test then x else y)
either_branch f true x y u v a b = a
either_branch f false x y u v a b = b

-- the desk with one listener more, which was told what there is
abbrev with_listener : Generations → Listener → Desk → Desk
with_listener g l d = record d { listening = joined d.listening l (view_of (current_forest g) l.space) (lives_of (current_forest g) l.space) }

module _ (taken : List Delivery) where
  -- the desk with them before the others
  abbrev pub desk_before : Desk → Desk
  desk_before d = desk_with (taken ++ d.listening.journal) d

  abbrev pub settled_before : Settled → Settled
  settled_before s = record { desk = desk_before s.desk; answer = s.answer }

  -- a private event leaves them, and answers the same

  module _ (g : Generations) (d : Desk) where
    publishing_before : (f : Forest) (answer : Applied) → publishing g (desk_before d) f answer ≡ settled_before (publishing g d f answer)
    publishing_before f answer = go (held_up g)
      where
        go : (o : Option Refusal) → unless_refused o (desk_before d) (settled (readied g (desk_before d) f) answer)
            ≡ settled_before (unless_refused o d (settled (readied g d f) answer))
        go None = ap (λ (js : List Delivery). settled (desk_with js (readied g d f)) answer)
            (append_assoc taken d.listening.journal (deliveries_of_changes (ascending d.listening.listeners) (changes_between (current_forest g) f)))
        go (Some why) = refl

    made_before : (f : Forest) (region : RegionId) (x : Extent) → made (desk_before d) f region x ≡ settled_before (made d f region x)
    made_before f region x =
        either_branch settled_before (words_of x == 0) (settled (record d { forest = f }) (Made region))
        (backed d f region x (first_fit d.pool_words d.places (words_of x))) _ _ refl (go (first_fit d.pool_words d.places (words_of x)))
      where
        go : (o : Option ℕ) → backed (desk_before d) f region x o ≡ settled_before (backed d f region x o)
        go None = refl
        go (Some start) = refl

    kept_before : (call : Call) (f : Forest) → kept_back (desk_before d) call f ≡ settled_before (kept_back d call f)
    kept_before (calls.Region kind size) f = made_before f (record { 0 = d.forest.made }) (extent_of kind size)
    kept_before _ f = refl

    call_before : (call : Call) (x : Result Forest Refusal) → after_call g (desk_before d) call x ≡ settled_before (after_call g d call x)
    call_before call (Ok f) =
        either_branch settled_before ((d.depth == 0) && not (is_quiet call)) (publishing g d f (answer_of d.forest call)) (kept_back d call f) _ _
        (publishing_before f (answer_of d.forest call)) (kept_before call f)
    call_before call (Err why) = refl

    begun_before : begun (desk_before d) ≡ settled_before (begun d)
    begun_before =
        either_branch settled_before (d.depth == most_nested) (refused_desk d TooNested) (settled (record d { depth = d.depth + 1 }) Done) _ _ refl refl

    committed_before : committed g (desk_before d) ≡ settled_before (committed g d)
    committed_before =
        either_branch settled_before (d.depth == 0) (refused_desk d NoTransaction)
        (if (d.depth == 1) && d.pending then publishing g d d.forest Done else settled (record d { depth = d.depth - 1 }) Done) _ _ refl
        (either_branch settled_before ((d.depth == 1) && d.pending) (publishing g d d.forest Done) (settled (record d { depth = d.depth - 1 }) Done) _ _
        (publishing_before d.forest Done) refl)

    listened_before : (l : Listener) → listened g (desk_before d) l ≡ settled_before (listened g d l)
    listened_before l = go (first_refusal (unknown_space d.forest l.space ∷ join_refusal d.listening l.listener ∷ []))
      where
        go : (o : Option Refusal) → unless_refused o (desk_before d) (settled (with_listener g l (desk_before d)) Done)
            ≡ settled_before (unless_refused o d (settled (with_listener g l d) Done))
        go None = ap (λ (js : List Delivery). settled (desk_with js (with_listener g l d)) Done)
            (append_assoc taken d.listening.journal
            (deliveries_to l.listener (joining (view_of (current_forest g) l.space) (lives_of (current_forest g) l.space))))
        go (Some why) = refl

    gone_before : (ls : List Listener) (id : ListenerId) → without_listener ls id g (desk_before d) ≡ desk_before (without_listener ls id g d)
    gone_before [] id = refl
    gone_before (l ∷ ls) id =
        let ranges = view_of (current_forest g) l.space in
        let lives = lives_of (current_forest g) l.space in
        either_branch desk_before (l.listener.0 == id.0) (record d { listening = left d.listening id ranges lives }) (without_listener ls id g d) _ _
        (ap (λ (js : List Delivery). desk_with js (record d { listening = left d.listening id ranges lives }))
        (append_assoc taken d.listening.journal (deliveries_to id (leaving ranges lives))))
        (gone_before ls id)

    unlistened_before : (id : ListenerId) → unlistened g (desk_before d) id ≡ settled_before (unlistened g d id)
    unlistened_before id = go (leave_refusal d.listening id)
      where
        go : (o : Option Refusal) → unless_refused o (desk_before d) (settled (without_listener d.listening.listeners id g (desk_before d)) Done)
            ≡ settled_before (unless_refused o d (settled (without_listener d.listening.listeners id g d) Done))
        go None = ap (λ (e : Desk). settled e Done) (gone_before d.listening.listeners id)
        go (Some why) = refl

    pub configured_before : (k : Config) → configured g (desk_before d) k ≡ settled_before (configured g d k)
    configured_before configs.Begin = begun_before
    configured_before (configs.Call call) = call_before call (after d.forest call)
    configured_before configs.Commit = committed_before
    configured_before (configs.Listen listener space priority) = listened_before (record { listener = listener; space = space; priority = priority })
    configured_before (configs.Unlisten listener) = unlistened_before listener

  pub would_before : (d : Desk) (k : Config) → would_publish (desk_before d) k ≡ would_publish d k
  would_before d configs.Begin = refl
  would_before d _ = refl

  -- so does every event of the writer

  abbrev before : Writer → Writer
  before w = part_told_before taken w

  carried_before : (d : Desk) (e : Event) → carried_by (desk_before d) e ≡ carried_by d e
  carried_before d events.Publish = refl
  carried_before d _ = refl

  after_before : (w : Writer) (e : Event) (c : Carried) (n : ℕ) → writer_after (before w) e c n ≡ before (writer_after w e c n)
  after_before w (events.Config k) c n =
      ap (λ (s : Settled). writer (unswept s.desk) (generations_after w.generations (events.Config k) c n)) (configured_before w.generations w.desk k)
  after_before w _ c n = refl

  -- it leaves the same, whatever it carries
  leaves_before : (w : Writer) (e : Event) (n : ℕ) → writer_after (before w) e (carried_by (before w).desk e) n
      ≡ before (writer_after w e (carried_by w.desk e) n)
  leaves_before w e n = ap (λ (c : Carried). writer_after (before w) e c n) (carried_before w.desk e) ∙ after_before w e (carried_by w.desk e) n

  -- a run of them makes the same entries

  abbrev played_with : Played → Played
  played_with p = record { entries = p.entries; writer = before p.writer; replies = p.replies }

  played_before : (es : List Event) (w : Writer) (ns : List ℕ) → played (before w) es ns ≡ played_with (played w es ns)
  played_before [] w ns = refl
  played_before (e ∷ es) w ns =
      let n : ℕ = first_or_zero ns in
      let v : Writer = writer_after w e (carried_by w.desk e) n in
      let rest : played (writer_after (before w) e (carried_by (before w).desk e) n) es (drop 1 ns) ≡ played_with (played v es (drop 1 ns)) =
      ap (λ (u : Writer). played u es (drop 1 ns)) (leaves_before w e n) ∙ played_before es v (drop 1 ns) in
      λ i. record {
        entries = history_entry e (carried_before w.desk e i) n ∷ (rest i).entries;
        writer = (rest i).writer;
        replies = (rest i).replies;
      }

  private_before : (es : List Event) (w : Writer) → after_private (before w) es ≡ before (after_private w es)
  private_before [] w = refl
  private_before (e ∷ es) w =
      ap (λ (v : Writer). after_private v es) (leaves_before w e 0) ∙ private_before es (writer_after w e (carried_by w.desk e) 0)

  -- and so does a turn

  first_before : (w : Writer) (k : Order) → events_before (before w) k ≡ events_before w k
  first_before w (configure c) = ap (λ (b : Bool). if b then sweeps w.generations else []) (would_before w.desk c)
  first_before w reap = refl
  first_before w (load region offset bytes) = refl
  first_before w (harvest region client) = refl
  first_before w (notified number) = refl
  first_before w journal = refl
  first_before w current = refl

  later_before : (w : Writer) (k : Order) → events_after (before w) k ≡ events_after w k
  later_before w (configure c) = refl
  later_before w reap = refl
  later_before w (load region offset bytes) = refl
  later_before w (harvest region client) = refl
  later_before w (notified number) = refl
  later_before w journal = refl
  later_before w current = refl

  -- what comes after some entries, in the part that a private event left
  abbrev then_played : List HistoryEntry → Played → List HistoryEntry × Writer
  then_played xs p = (xs ++ p.entries, p.writer)

  abbrev ran_before : List HistoryEntry × Writer → List HistoryEntry × Writer
  ran_before r = (r.0, before r.1)

  abbrev turned : Writer → Order → List ℕ → List HistoryEntry × Writer
  turned w k ns = (entries_of_turn (turn w k ns), (turn w k ns).writer)

  both_before : (w : Writer) (k : Order) (ns : List ℕ) → turned (before w) k ns ≡ ran_before (turned w k ns)
  both_before w k ns =
      let p : Played = played w (events_before w k) ns in
      let m : Writer = after_private p.writer (private_of k) in
      let later : Played → Writer → List HistoryEntry × Writer = λ q v. then_played q.entries (played v (events_after v k) q.replies) in
      let one : played (before w) (events_before (before w) k) ns ≡ played_with p =
      ap (λ (es : List Event). played (before w) es ns) (first_before w k) ∙ played_before (events_before w k) w ns in
      let three : played (before m) (events_after (before m) k) p.replies ≡ played_with (played m (events_after m k) p.replies) =
      ap (λ (es : List Event). played (before m) es p.replies) (later_before m k) ∙ played_before (events_after m k) m p.replies in
      ap (λ (q : Played). later q (after_private q.writer (private_of k))) one
      ∙ ap (λ (v : Writer). later p v) (private_before (private_of k) p.writer)
      ∙ ap (λ (q : Played). then_played p.entries q) three

  -- it makes the same entries, and leaves the part with the calls in its journal
  pub record TurnsAlike (w : Writer) (k : Order) (ns : List ℕ) : Type 0 where
    pub entries : entries_of_turn (turn (before w) k ns) ≡ entries_of_turn (turn w k ns)
    pub writer : (turn (before w) k ns).writer ≡ before (turn w k ns).writer

  pub turn_before : (w : Writer) (k : Order) (ns : List ℕ) → TurnsAlike w k ns
  turn_before w k ns = let both = both_before w k ns in record {
    entries = ap (λ (r : List HistoryEntry × Writer). r.0) both;
    writer = ap (λ (r : List HistoryEntry × Writer). r.1) both;
  }
