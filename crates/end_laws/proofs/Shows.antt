-- One more turn, or one more access, is the call of the pure machine in the world that is shown.
use Rattle.std.proofs.Common.{◌≡◌, ℕ, ◌+◌, Bool, true, false, List, [], ◌∷◌, ◌++◌, map, refl, sym, ap, subst, ◌∙◌}
use Rattle.std.specs.Prelude.{flat_map}
use Rattle.mem_base.specs.map.PassIds.{PassId}
use Rattle.mem_base.specs.declared.map.ids.SpaceId.{SpaceId}
use Rattle.mem_base.specs.declared.machine.events.HistoryEntry.{HistoryEntry}
use Rattle.mem_base.specs.declared.machine.events.Event.{Event}
use Rattle.mem_base.specs.lists.Every.{Every}
use Rattle.mem_base.specs.map.Limits.{notifier_count}
use Rattle.mem_base.specs.access.Cells.{Block}
use Rattle.mem_base.specs.access.AccessSteps.{Transfer, AccessStep, blank, steps, marks, events_of_steps}
use Rattle.mem_base.specs.machine.Reaps.{Writer, first_writer}
use Rattle.mem_base.specs.machine.World.{World, world, opening, reply, world_after}
use Rattle.mem_base.specs.machine.History.{PureEntry, pure_entry, after_entries, IsLegal, IsLegalFrom, run_events}
use Rattle.mem_base.specs.machine.SharedHistory.{Shared}
use Rattle.mem_base.specs.machine.SharedHistory as running
use Rattle.mem_base.specs.machine.Orders.{Order, events_before, private_of, events_after}
use Rattle.mem_base.specs.machine.Composites.{accessed, completed, enters, enters_unless, is_entered, leaves, leaves_unless, steps_in}
use Rattle.mem_base.specs.machine.Turns.{Answered, WriterCall, turn, turns, entries_of_turn, last_writer, writers_of, is_writers}
use Rattle.mem_base.specs.machine.JoinedHistory.{joined_history}
use Rattle.history_laws.specs.BackedForests.{ShowsOwnPlaces}
use Rattle.history_laws.proofs.Idles.{Idle}
use Rattle.history_laws.proofs.ShownLaws.{generations_show_places}
use Rattle.turn_laws.proofs.Coupled.{Coupled, seen}
use Rattle.turn_laws.proofs.Turning.{turn_facts}
use Rattle.turn_laws.proofs.TurnsLaw.{turns_join}
use Rattle.mem_base.specs.machine.ShownWorlds.{world_shown}
use Rattle.end_laws.specs.Shown.{IsAccessedRun, IsCompletedTurn, IsPassRun as IsShownRun, entries_read}
use Rattle.turn_laws.proofs.Joining.{Ends}
use Rattle.end_laws.proofs.BlockLaws.{HasItsCells, cells_are, its_cells}
use Rattle.end_laws.proofs.EndLaws.{ends, idle, leads}
use Rattle.end_laws.proofs.TurnRuns.{Completes, IsPassRun, completes, pass_runs, shared_both}
use Rattle.history_laws.proofs.PureAppends.{after_both, ends_then, events_of_run, legal_both, run_ends}

-- runs of events, one after another

entries_then : (es fs : List Event) (w : World) → (run_events w (es ++ fs)).entries
    ≡ (run_events w es).entries ++ (run_events (run_events w es).world fs).entries
entries_then [] fs w = refl
entries_then (e ∷ es) fs w = ap (λ (ys : List PureEntry). pure_entry e (reply w e) ∷ ys) (entries_then es fs (world_after w e))

world_then : (es fs : List Event) (w : World) → (run_events w (es ++ fs)).world ≡ (run_events (run_events w es).world fs).world
world_then [] fs w = refl
world_then (e ∷ es) fs w = world_then es fs (world_after w e)

-- the events of an access

module _ (w : World) (pass : PassId) (space : SpaceId) (addr : ℕ) (transfer : Transfer) where
  abbrev first : Bool → List Event
  first b = enters_unless b pass

  abbrev middle : Bool → List Event
  middle b = events_of_steps pass (steps_in (run_events w (first b)).world pass space addr transfer)

  abbrev access_list : Bool → List Event
  access_list b = first b ++ (middle b ++ leaves_unless b pass)

  same_entries : (b : Bool) → (let u : World = (run_events w (first b)).world in let v : World = (run_events u (middle b)).world in
      (run_events w (access_list b)).entries ≡ (run_events w (first b)).entries
      ++ ((run_events u (middle b)).entries ++ (run_events v (leaves_unless b pass)).entries))
  same_entries b = let u : World = (run_events w (first b)).world in
      entries_then (first b) (middle b ++ leaves_unless b pass) w
      ∙ ap (λ (ys : List PureEntry). (run_events w (first b)).entries ++ ys) (entries_then (middle b) (leaves_unless b pass) u)

  same_world : (b : Bool) → (let u : World = (run_events w (first b)).world in let v : World = (run_events u (middle b)).world in
      (run_events w (access_list b)).world ≡ (run_events v (leaves_unless b pass)).world)
  same_world b = let u : World = (run_events w (first b)).world in
      world_then (first b) (middle b ++ leaves_unless b pass) w ∙ world_then (middle b) (leaves_unless b pass) u

  abbrev AreMine : List Event → Type 0
  AreMine es = Every (λ e. is_writers e ≡ false) es

  both_mine : (es fs : List Event) → AreMine es → AreMine fs → AreMine (es ++ fs)
  both_mine [] fs h k = k
  both_mine (e ∷ es) fs h k = (h.0, both_mine es fs h.1 k)

  steps_mine : (ds : List AccessStep) → AreMine (events_of_steps pass ds)
  steps_mine [] = tt
  steps_mine (blank n result ∷ ds) = steps_mine ds
  steps_mine (steps cell step x ∷ ds) = (refl, steps_mine ds)
  steps_mine (marks region client page ∷ ds) = (refl, steps_mine ds)

  list_mine : (b : Bool) → AreMine (access_list b)
  list_mine true = both_mine (middle true) [] (steps_mine (steps_in w pass space addr transfer)) tt
  list_mine false = (
    refl,
    (
      refl,
      (
        refl,
        both_mine (middle false) (leaves pass)
            (steps_mine (steps_in (run_events w (enters pass)).world pass space addr transfer)) (refl, tt),
      ),
    ),
  )

mine_of : (ys : List HistoryEntry) → Every (λ e. is_writers e ≡ false) (map (λ y. y.event) ys) → Every (λ y. is_writers y.event ≡ false) ys
mine_of [] h = tt
mine_of (y ∷ ys) h = (h.0, mine_of ys h.1)

-- a world to which a legal history leads, with its words, is the one that is shown
shown_itself : (pool_words passes : ℕ) (zs : List PureEntry) (v : World) (words : List ℕ) → IsLegal pool_words passes zs
    → after_entries (opening pool_words passes) zs ≡ v → Coupled v words → v.writer.desk.unfilled ≡ [] → v ≡ world_shown v.writer (seen v words)
shown_itself pool_words passes zs v words legal leads coupled none =
    ap (λ (bs : List Block). world v.writer v.passes bs)
    (cells_are pool_words v words coupled none (subst HasItsCells leads (its_cells pool_words passes zs))
    (subst (λ (w : World). ShowsOwnPlaces pool_words w.writer) leads (generations_show_places pool_words passes zs legal)))

module _ (pool_words passes : ℕ) (os : List Answered) (xs : List HistoryEntry)
    (same : writers_of xs ≡ flat_map entries_of_turn (turns (first_writer pool_words passes) os)) where
  abbrev ts : List WriterCall
  ts = turns (first_writer pool_words passes) os

  abbrev h : Writer
  h = last_writer (first_writer pool_words passes) ts

  abbrev s : Shared
  s = running.after_shared_entries (running.shared_opening (pool_words + notifier_count) passes) xs

  abbrev last : World
  last = after_entries (opening pool_words passes) (joined_history ts xs)

  module _ (legal : running.IsSharedLegal (pool_words + notifier_count) passes xs) where
    at_end : Ends h s last
    at_end = ends pool_words passes os xs legal same

    is_shown : last ≡ world_shown h s
    is_shown = leads pool_words passes os xs legal same

    -- further legal entries lead to what is shown
    onward : (ys : List PureEntry) (v : World) (words : List ℕ) → IsLegalFrom last ys → after_entries last ys ≡ v → Coupled v words
        → v.writer.desk.unfilled ≡ [] → v ≡ world_shown v.writer (seen v words)
    onward ys v words l e coupled none =
        shown_itself pool_words passes (joined_history ts xs ++ ys) v words
        (legal_both (opening pool_words passes) (joined_history ts xs) ys (turns_join pool_words passes os xs legal same).legal l)
        (after_both (opening pool_words passes) (joined_history ts xs) ys ∙ e) coupled none

    module _ (k : Order) (replies : List ℕ) (next : running.IsSharedLegalFrom s (entries_of_turn (turn h k replies))) where
      abbrev t : WriterCall
      t = turn h k replies

      done : Completes last at_end.words k replies
      done = completes h last at_end.words k replies at_end.coupled (subst Idle (sym at_end.writer) (idle pool_words passes os xs legal same))
          (subst (λ (z : Shared × Writer). running.IsSharedLegalFrom z.0 (entries_of_turn (turn z.1 k replies)))
          (λ i. (sym at_end.shows i, sym at_end.writer i)) next)

      abbrev v : World
      v = (completed last k).world

      -- the writer's part after the turn
      its_writer : t.writer ≡ v.writer
      its_writer = ap (λ (z : Writer). (turn z k replies).writer) (sym at_end.writer) ∙ done.writer

      run_of_call : after_entries last (completed last k).entries ≡ v
      run_of_call =
          let es = events_before last.writer k in let u : World = (run_events last es).world in
          let q : World = (run_events u (private_of k)).world in
          ends_then es last _ ∙ ends_then (private_of k) u _ ∙ run_ends (events_after q.writer k) q

      none : v.writer.desk.unfilled ≡ []
      none = sym (ap (λ (z : Writer). z.desk.unfilled) its_writer) ∙ (turn_facts h h k replies (idle pool_words passes os xs legal same)).idle.filled

      its_world : world_shown t.writer (running.after_shared_entries s (entries_of_turn t)) ≡ v
      its_world = sym (
          onward (completed last k).entries v done.after done.legal run_of_call done.coupled none
          ∙ (λ i. world_shown (sym its_writer i) (sym done.shows i))
          ∙ (λ i. world_shown t.writer (running.after_shared_entries (at_end.shows i) (entries_of_turn (turn (at_end.writer i) k replies)))))

      completed_turn : IsCompletedTurn (world_shown h s) k t (running.after_shared_entries s (entries_of_turn t))
      completed_turn = subst (λ (w : World). IsCompletedTurn w k t (running.after_shared_entries s (entries_of_turn t))) is_shown (record {
        entries = ap (λ (z : Writer). entries_read (turn z k replies)) (sym at_end.writer) ∙ done.entries;
        answer = ap (λ (z : Writer). (turn z k replies).answer) (sym at_end.writer) ∙ done.answer;
        writer = its_writer;
        world = its_world;
      })

    module _ (ys : List HistoryEntry) (next : running.IsSharedLegalFrom s ys) (mine : Every (λ y. is_writers y.event ≡ false) ys) where
      pass_run : IsPassRun last at_end.words ys
      pass_run = pass_runs ys last at_end.words at_end.coupled mine
          (subst (λ (z : Shared). running.IsSharedLegalFrom z ys) (sym at_end.shows) next)

      abbrev last_of_run : World
      last_of_run = (run_events last (map (λ y. y.event) ys)).world

      run_none : last_of_run.writer.desk.unfilled ≡ []
      run_none = ap (λ (z : Writer). z.desk.unfilled) (pass_run.writer ∙ at_end.writer) ∙ (idle pool_words passes os xs legal same).filled

      shown_run : IsShownRun (world_shown h s) h ys (running.after_shared_entries s ys)
      shown_run = subst (λ (w : World). IsShownRun w h ys (running.after_shared_entries s ys)) is_shown (record {
        entries = pass_run.entries;
        world = sym (
            onward (run_events last (map (λ y. y.event) ys)).entries last_of_run pass_run.after pass_run.legal
            (run_ends (map (λ y. y.event) ys) last) pass_run.coupled run_none
            ∙ (λ i. world_shown ((pass_run.writer ∙ at_end.writer) i) (sym pass_run.shows i))
            ∙ (λ i. world_shown h (running.after_shared_entries (at_end.shows i) ys)));
      })

    module _ (ys : List HistoryEntry) (pass : PassId) (space : SpaceId) (addr : ℕ) (transfer : Transfer) (next : running.IsSharedLegalFrom s ys)
        (are : map (λ y. y.event) ys ≡ map (λ y. y.event) (accessed last pass space addr transfer).entries) where
      abbrev es : List Event
      es = access_list last pass space addr transfer (is_entered last pass)

      its_events : map (λ y. y.event) ys ≡ es
      its_events = are
          ∙ sym (ap (λ (zs : List PureEntry). map (λ y. y.event) zs) (same_entries last pass space addr transfer (is_entered last pass)))
          ∙ events_of_run es last

      run : IsPassRun last at_end.words ys
      run = pass_runs ys last at_end.words at_end.coupled
          (mine_of ys (subst (λ (fs : List Event). Every (λ e. is_writers e ≡ false) fs) (sym its_events)
          (list_mine last pass space addr transfer (is_entered last pass))))
          (subst (λ (z : Shared). running.IsSharedLegalFrom z ys) (sym at_end.shows) next)

      abbrev ran_to : World
      ran_to = (run_events last (map (λ y. y.event) ys)).world

      to_access : ran_to ≡ (accessed last pass space addr transfer).world
      to_access = ap (λ (fs : List Event). (run_events last fs).world) its_events
          ∙ same_world last pass space addr transfer (is_entered last pass)

      ran_none : ran_to.writer.desk.unfilled ≡ []
      ran_none = ap (λ (z : Writer). z.desk.unfilled) (run.writer ∙ at_end.writer) ∙ (idle pool_words passes os xs legal same).filled

      accessed_run : IsAccessedRun (world_shown h s) h pass space addr transfer ys (running.after_shared_entries s ys)
      accessed_run = subst (λ (w : World). IsAccessedRun w h pass space addr transfer ys (running.after_shared_entries s ys)) is_shown (record {
        entries = run.entries ∙ ap (λ (fs : List Event). (run_events last fs).entries) its_events
            ∙ same_entries last pass space addr transfer (is_entered last pass);
        writer = sym (ap (λ (w : World). w.writer) to_access) ∙ run.writer ∙ at_end.writer;
        world = sym (
            sym to_access
            ∙ onward (run_events last (map (λ y. y.event) ys)).entries ran_to run.after run.legal
            (run_ends (map (λ y. y.event) ys) last) run.coupled ran_none
            ∙ (λ i. world_shown ((run.writer ∙ at_end.writer) i) (sym run.shows i))
            ∙ (λ i. world_shown h (running.after_shared_entries (at_end.shows i) ys)));
      })

pub turn_is_completed : (pool_words passes : ℕ) (os : List Answered) (xs : List HistoryEntry) (k : Order) (replies : List ℕ)
    → let ts = turns (first_writer pool_words passes) os in let h = last_writer (first_writer pool_words passes) ts in let t = turn h k replies in
    let s = running.after_shared_entries (running.shared_opening (pool_words + notifier_count) passes) xs in
    writers_of xs ≡ flat_map entries_of_turn ts → running.IsSharedLegal (pool_words + notifier_count) passes (xs ++ entries_of_turn t)
    → IsCompletedTurn (world_shown h s) k t (running.after_shared_entries s (entries_of_turn t))
turn_is_completed pool_words passes os xs k replies same legal =
    let h = last_writer (first_writer pool_words passes) (turns (first_writer pool_words passes) os) in
    let parts = shared_both xs (entries_of_turn (turn h k replies)) (running.shared_opening (pool_words + notifier_count) passes) legal in
    completed_turn pool_words passes os xs same parts.0 k replies parts.1

pub access_is_accessed : (pool_words passes : ℕ) (os : List Answered) (xs ys : List HistoryEntry) (pass : PassId) (space : SpaceId) (addr : ℕ)
    (transfer : Transfer)
    → let ts = turns (first_writer pool_words passes) os in let h = last_writer (first_writer pool_words passes) ts in
    let s = running.after_shared_entries (running.shared_opening (pool_words + notifier_count) passes) xs in
    writers_of xs ≡ flat_map entries_of_turn ts → running.IsSharedLegal (pool_words + notifier_count) passes (xs ++ ys)
    → map (λ y. y.event) ys ≡ map (λ y. y.event) (accessed (world_shown h s) pass space addr transfer).entries
    → IsAccessedRun (world_shown h s) h pass space addr transfer ys (running.after_shared_entries s ys)
access_is_accessed pool_words passes os xs ys pass space addr transfer same legal are =
    let parts = shared_both xs ys (running.shared_opening (pool_words + notifier_count) passes) legal in
    accessed_run pool_words passes os xs same parts.0 ys pass space addr transfer parts.1
    (are ∙ ap (λ (w : World). map (λ y. y.event) (accessed w pass space addr transfer).entries) (sym (leads pool_words passes os xs parts.0 same)))

pub pass_entries_run : (pool_words passes : ℕ) (os : List Answered) (xs ys : List HistoryEntry)
    → let ts = turns (first_writer pool_words passes) os in let h = last_writer (first_writer pool_words passes) ts in
    let s = running.after_shared_entries (running.shared_opening (pool_words + notifier_count) passes) xs in
    writers_of xs ≡ flat_map entries_of_turn ts → running.IsSharedLegal (pool_words + notifier_count) passes (xs ++ ys)
    → Every (λ y. is_writers y.event ≡ false) ys → IsShownRun (world_shown h s) h ys (running.after_shared_entries s ys)
pass_entries_run pool_words passes os xs ys same legal mine =
    let parts = shared_both xs ys (running.shared_opening (pool_words + notifier_count) passes) legal in
    shown_run pool_words passes os xs same parts.0 ys parts.1 mine
