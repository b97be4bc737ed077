-- A turn whose shared entries follow one another is a call of the pure machine.
use Rattle.std.proofs.Common.{◌≡◌, ℕ, true, false, List, [], ◌∷◌, ◌++◌, map, refl, sym, ap, subst, ◌∙◌, arith, Option, Some, None}
use Rattle.std.specs.Prelude.{drop}
use Rattle.mem_base.specs.declared.access.cells.Place.{Place}
use Rattle.mem_base.specs.declared.machine.events.HistoryEntry.{HistoryEntry}
use Rattle.mem_base.specs.declared.machine.events.Event.{Event}
use Rattle.mem_base.specs.declared.machine.events.Event.TheVariants as events
use Rattle.mem_base.specs.declared.machine.events.Hand.TheVariants as hands
use Rattle.mem_base.specs.access.PlacesByRegion.{place_in}
use Rattle.mem_base.specs.machine.Desk.{Desk, places_of, carried_by, at_place}
use Rattle.mem_base.specs.machine.Reaps.{Writer}
use Rattle.mem_base.specs.machine.Configs.{private_reply, writer_after}
use Rattle.mem_base.specs.lists.Every.{Every}
use Rattle.mem_base.specs.machine.World.{World, possible, reply, number_in, world_after}
use Rattle.mem_base.specs.machine.History.{PureEntry, pure_entry, after_entry, IsLegalFrom, run_events}
use Rattle.mem_base.specs.machine.SharedHistory.{Shared, pool_after, pool_touch_of}
use Rattle.mem_base.specs.machine.SharedHistory as running
use Rattle.mem_base.specs.machine.Orders.{Order, events_before, private_of, events_after}
use Rattle.mem_base.specs.machine.Answers.{answer_to, first_or_zero}
use Rattle.mem_base.specs.machine.Composites.{completed, numbers_of}
use Rattle.mem_base.specs.machine.Turns.{history_entry, played, private_entries, after_private, replies_of, turn, entries_of_turn, is_writers}
use Rattle.mem_base.specs.machine.JoinedHistory.{read, reply_read}
use Rattle.history_laws.proofs.Idles.{Idle}
use Rattle.turn_laws.proofs.Coupled.{Coupled, Follows, seen}
use Rattle.turn_laws.proofs.PassSteps.{passes_follow}
use Rattle.turn_laws.proofs.Readies.{Ready, Readied, Due, steps_keep, privates_keep}
use Rattle.turn_laws.proofs.TurnGoes.{AllReady, AllDue}
use Rattle.turn_laws.proofs.Turning.{turn_facts}
use Rattle.end_laws.specs.Shown.{entries_read}
use Rattle.history_laws.proofs.AppendLaws.{after_append}

-- an entry that a ready event makes is the pure machine's

-- what an entry tells is the number in its reply
pub told_number : (s : Shared) (d : Desk) (e : Event) → Readied d e
    → number_in (reply_read e (running.shared_reply s e (carried_by d e))) ≡ running.shared_reply s e (carried_by d e)
told_number s d (events.Sweep v) r = refl
told_number s d (events.Place v) r = refl
told_number s d events.Publish r = refl
told_number s d (events.Word hands.Writer c step) r = refl
told_number s d (events.Harvest region client index) r = refl
told_number s d (events.Fill c) r = go (place_in (places_of d) c.region)
  where
    go : (o : Option Place) → 0 ≡ running.shared_reply s (events.Fill c) (at_place o)
    go None = refl
    go (Some p) = refl
told_number s d e r = absurd r

-- one entry, and the world after it with the words that back it
pub record Taken (w : World) (words : List ℕ) (y : HistoryEntry) : Type 0 where
  pub may : possible w y.event ≡ true
  pub reads : read y ≡ pure_entry y.event (reply w y.event)
  pub number : y.reply ≡ number_in (reply w y.event)
  pub after : List ℕ
  pub coupled : Coupled (world_after w y.event) after
  pub shows : running.after_shared_entry (seen w words) y ≡ seen (world_after w y.event) after
  pub writer : (world_after w y.event).writer ≡ writer_after w.writer y.event y.carried y.reply

pub taken : (w : World) (words : List ℕ) → Coupled w words → (y : HistoryEntry) → Ready w.writer y
    → running.shared_possible (seen w words) y.event y.carried ≡ true → y.reply ≡ running.shared_reply (seen w words) y.event y.carried → Taken w words y
taken w words k y r may is =
    let p = steps_keep w words k y r may is in
    let f = p.follows in
    let told : reply_read y.event y.reply ≡ reply w y.event = ap (reply_read y.event) is ∙ f.tells in
    let reads : read y ≡ pure_entry y.event (reply w y.event) = ap (pure_entry y.event) told in record {
      may = f.may;
      reads = reads;
      number =
          is
          ∙ sym (subst (λ x. number_in (reply_read y.event (running.shared_reply (seen w words) y.event x)) ≡ running.shared_reply (seen w words) y.event x)
          (sym r.carries) (told_number (seen w words) w.writer.desk y.event r.event))
          ∙ ap number_in f.tells;
      after = pool_after words (pool_touch_of y.event y.carried);
      coupled = f.coupled;
      shows = ap (λ (n : ℕ). running.after_shared_entry (seen w words) (history_entry y.event y.carried n)) is ∙ f.leads;
      writer = sym (ap (λ (z : PureEntry). (after_entry w z).writer) reads) ∙ p.writer;
    }

-- entries that the writer makes one after another, with none between, are a run of the pure machine
pub record IsRun (w : World) (words : List ℕ) (es : List Event) (ns : List ℕ) : Type 0 where
  pub legal : IsLegalFrom w (run_events w es).entries
  pub entries : map read (played w.writer es ns).entries ≡ (run_events w es).entries
  pub numbers : replies_of (played w.writer es ns).entries ≡ numbers_of (run_events w es).entries
  pub writer : (played w.writer es ns).writer ≡ (run_events w es).world.writer
  pub after : List ℕ
  pub coupled : Coupled (run_events w es).world after
  pub shows : running.after_shared_entries (seen w words) (played w.writer es ns).entries ≡ seen (run_events w es).world after

pub runs : (end : Writer) (es : List Event) (w : World) (words : List ℕ) (ns : List ℕ) → Coupled w words → AllReady Ready Due end w.writer es ns
    → running.IsSharedLegalFrom (seen w words) (played w.writer es ns).entries → IsRun w words es ns
runs end [] w words ns k a l = record { legal = tt; entries = refl; numbers = refl; writer = refl; after = words; coupled = k; shows = refl }
runs end (e ∷ es) w words ns k a l =
    let n : ℕ = first_or_zero ns in
    let y : HistoryEntry = history_entry e (carried_by w.writer.desk e) n in
    let t : Taken w words y = taken w words k y a.0 l.0 l.1 in
    let v : World = world_after w e in
    let go = runs end es v t.after (drop 1 ns) t.coupled (subst (λ (h : Writer). AllReady Ready Due end h es (drop 1 ns)) (sym t.writer) a.1)
    (subst (λ (z : Shared × Writer). running.IsSharedLegalFrom z.0 (played z.1 es (drop 1 ns)).entries) (λ i. (t.shows i, sym t.writer i)) l.2) in
    let same : (played (writer_after w.writer e y.carried n) es (drop 1 ns)).entries ≡ (played v.writer es (drop 1 ns)).entries =
    ap (λ (h : Writer). (played h es (drop 1 ns)).entries) (sym t.writer) in record {
      legal = (t.may, refl, go.legal);
      entries = (λ i. t.reads i ∷ map read (same i)) ∙ ap (λ (ys : List PureEntry). pure_entry e (reply w e) ∷ ys) go.entries;
      numbers = (λ i. t.number i ∷ replies_of (same i)) ∙ ap (λ (ms : List ℕ). number_in (reply w e) ∷ ms) go.numbers;
      writer = ap (λ (h : Writer). (played h es (drop 1 ns)).writer) (sym t.writer) ∙ go.writer;
      after = go.after;
      coupled = go.coupled;
      shows = (λ i. running.after_shared_entries (t.shows i) (same i)) ∙ go.shows;
    }

-- private entries
pub record IsPrivateRun (w : World) (words : List ℕ) (es : List Event) : Type 0 where
  pub legal : IsLegalFrom w (run_events w es).entries
  pub entries : private_entries w.writer es ≡ (run_events w es).entries
  pub writer : after_private w.writer es ≡ (run_events w es).world.writer
  pub coupled : Coupled (run_events w es).world words
  pub shows : seen (run_events w es).world words ≡ seen w words

pub privately : (end : Writer) (es : List Event) (w : World) (words : List ℕ) → Coupled w words → AllDue Ready Due end w.writer es → IsPrivateRun w words es
privately end [] w words k a = record { legal = tt; entries = refl; writer = refl; coupled = k; shows = refl }
privately end (e ∷ es) w words k a =
    let x : PureEntry = pure_entry e (private_reply w.writer e) in
    let p = privates_keep w words k x a.0 in
    let v : World = world_after w e in
    let same : after_entry w x ≡ v = ap (λ r. after_entry w (pure_entry e r)) p.tells in
    let writer : writer_after w.writer e (carried_by w.writer.desk e) 0 ≡ v.writer = sym p.writer ∙ ap (λ (z : World). z.writer) same in
    let go = privately end es v words (subst (λ (z : World). Coupled z words) same p.coupled)
    (subst (λ (h : Writer). AllDue Ready Due end h es) writer a.1) in record {
      legal = (p.may, refl, go.legal);
      entries = (λ i. pure_entry e (p.tells i) ∷ private_entries (writer i) es) ∙ ap (λ (ys : List PureEntry). pure_entry e (reply w e) ∷ ys) go.entries;
      writer = ap (λ (h : Writer). after_private h es) writer ∙ go.writer;
      coupled = go.coupled;
      shows = go.shows ∙ sym (ap (λ (z : World). seen z words) same) ∙ p.shows;
    }

-- legal histories of the running machine, in two parts

pub shared_both : (xs ys : List HistoryEntry) (s : Shared) → running.IsSharedLegalFrom s (xs ++ ys)
    → running.IsSharedLegalFrom s xs × running.IsSharedLegalFrom (running.after_shared_entries s xs) ys
shared_both [] ys s l = (tt, l)
shared_both (x ∷ xs) ys s l = let t = shared_both xs ys (running.after_shared_entry s x) l.2 in ((l.0, l.1, t.0), t.1)

-- runs of the pure machine, one after another

legal_then : (es : List Event) (w : World) (ys : List PureEntry) → IsLegalFrom w (run_events w es).entries → IsLegalFrom (run_events w es).world ys
    → IsLegalFrom w ((run_events w es).entries ++ ys)
legal_then [] w ys l m = m
legal_then (e ∷ es) w ys l m = (l.0, l.1, legal_then es (world_after w e) ys l.2 m)

-- what passes do, one entry after another with none between

pub record IsPassRun (w : World) (words : List ℕ) (ys : List HistoryEntry) : Type 0 where
  pub legal : IsLegalFrom w (run_events w (map (λ y. y.event) ys)).entries
  pub entries : map read ys ≡ (run_events w (map (λ y. y.event) ys)).entries
  pub writer : (run_events w (map (λ y. y.event) ys)).world.writer ≡ w.writer
  pub after : List ℕ
  pub coupled : Coupled (run_events w (map (λ y. y.event) ys)).world after
  pub shows : running.after_shared_entries (seen w words) ys ≡ seen (run_events w (map (λ y. y.event) ys)).world after

pass_writer : (w : World) (e : Event) → is_writers e ≡ false → (world_after w e).writer ≡ w.writer
pass_writer w (events.Look v) is = refl
pass_writer w (events.Announce v) is = refl
pass_writer w (events.Enter v) is = refl
pass_writer w (events.Leave v) is = refl
pass_writer w (events.Word (hands.Pass v) c step) is = refl
pass_writer w (events.Mark v region client page) is = refl
pass_writer w e is = absurd (grind arith)

pub pass_runs : (ys : List HistoryEntry) (w : World) (words : List ℕ) → Coupled w words → Every (λ y. is_writers y.event ≡ false) ys
    → running.IsSharedLegalFrom (seen w words) ys → IsPassRun w words ys
pass_runs [] w words k h l = record { legal = tt; entries = refl; writer = refl; after = words; coupled = k; shows = refl }
pass_runs (y ∷ ys) w words k h l =
    let f : Follows w words y.event y.carried = passes_follow w words k y.event y.carried h.0 l.0 in
    let told : reply_read y.event y.reply ≡ reply w y.event = ap (reply_read y.event) l.1 ∙ f.tells in
    let v : World = world_after w y.event in
    let after : List ℕ = pool_after words (pool_touch_of y.event y.carried) in
    let shows : running.after_shared_entry (seen w words) y ≡ seen v after =
    ap (λ (n : ℕ). running.after_shared_entry (seen w words) (history_entry y.event y.carried n)) l.1 ∙ f.leads in
    let go = pass_runs ys v after f.coupled h.1 (subst (λ (z : Shared). running.IsSharedLegalFrom z ys) shows l.2) in record {
      legal = (f.may, refl, go.legal);
      entries = (λ i. pure_entry y.event (told i) ∷ go.entries i);
      writer = go.writer ∙ pass_writer w y.event h.0;
      after = go.after;
      coupled = go.coupled;
      shows = ap (λ (z : Shared). running.after_shared_entries z ys) shows ∙ go.shows;
    }

-- the whole turn
pub record Completes (w : World) (words : List ℕ) (k : Order) (ns : List ℕ) : Type 0 where
  pub legal : IsLegalFrom w (completed w k).entries
  pub entries : entries_read (turn w.writer k ns) ≡ (completed w k).entries
  pub answer : (turn w.writer k ns).answer ≡ (completed w k).answer
  pub writer : (turn w.writer k ns).writer ≡ (completed w k).world.writer
  pub after : List ℕ
  pub coupled : Coupled (completed w k).world after
  pub shows : running.after_shared_entries (seen w words) (entries_of_turn (turn w.writer k ns)) ≡ seen (completed w k).world after

pub completes : (end : Writer) (w : World) (words : List ℕ) (k : Order) (ns : List ℕ) → Coupled w words → Idle w.writer
    → running.IsSharedLegalFrom (seen w words) (entries_of_turn (turn w.writer k ns)) → Completes w words k ns
completes end w words k ns c idle l =
    let ready = (turn_facts end w.writer k ns idle).ready in
    let es : List Event = events_before w.writer k in
    let before = played w.writer es ns in
    let middle : Writer = after_private before.writer (private_of k) in
    let later = played middle (events_after middle k) before.replies in
    let parts = shared_both before.entries later.entries (seen w words) l in
    let one : IsRun w words es ns = runs end es w words ns c ready.before parts.0 in
    let u : World = (run_events w es).world in
    let two : IsPrivateRun u one.after (private_of k) = privately end (private_of k) u one.after one.coupled
    (subst (λ (h : Writer). AllDue Ready Due end h (private_of k)) one.writer ready.private) in
    let v : World = (run_events u (private_of k)).world in
    let at : middle ≡ v.writer = ap (λ (h : Writer). after_private h (private_of k)) one.writer ∙ two.writer in
    let three : IsRun v one.after (events_after v.writer k) before.replies =
    runs end (events_after v.writer k) v one.after before.replies two.coupled
    (subst (λ (h : Writer). AllReady Ready Due end h (events_after h k) before.replies) at ready.after)
    (subst (λ (z : Shared × Writer). running.IsSharedLegalFrom z.0 (played z.1 (events_after z.1 k) before.replies).entries)
    (λ i. ((one.shows ∙ sym two.shows) i, at i)) parts.1) in
    let same : later.entries ≡ (played v.writer (events_after v.writer k) before.replies).entries =
    ap (λ (h : Writer). (played h (events_after h k) before.replies).entries) at in record {
      legal = legal_then es w _ one.legal (legal_then (private_of k) u _ two.legal three.legal);
      entries =
          (λ i. one.entries i ++ ((ap (λ (h : Writer). private_entries h (private_of k)) one.writer ∙ two.entries) i
          ++ (ap (map read) same ∙ three.entries) i));
      answer =
          (λ i. answer_to (one.writer i) (at i) k ((ap replies_of same ∙ three.numbers) i));
      writer = ap (λ (h : Writer). (played h (events_after h k) before.replies).writer) at ∙ three.writer;
      after = three.after;
      coupled = three.coupled;
      shows =
          after_append before.entries later.entries (seen w words)
          ∙ (λ i. running.after_shared_entries ((one.shows ∙ sym two.shows) i) (same i)) ∙ three.shows;
    }
