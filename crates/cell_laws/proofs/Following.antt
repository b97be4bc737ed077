-- Each event of a turn that the pure machine makes is possible on the running one, with its place and the same reply.
use Rattle.std.proofs.Common.{◌≡◌, ⊎_elim, ℕ, zero, suc, ◌+◌, ◌<◌, ◌≤◌, Bool, true, false, List, [], ◌∷◌, ◌++◌, length, map}
use Rattle.std.proofs.Common.{refl, sym, ap, subst, ◌∙◌, arith, eq-eqb, if◌then◌else◌, Option, Some, None}
use Rattle.std.specs.Prelude.{◌==◌, ◌&&◌, ◌-◌, ◌/◌, ◌*◌, flat_map, nat_lt}
use Rattle.std.specs.List.{range_with_len}
use Rattle.std.proofs.lemmas.Bool.{le-leb, lt-ltb, ltb-true, eqb-true, and_from, and_parts}
use Rattle.mem_base.specs.declared.map.ids.RegionId.{RegionId}
use Rattle.mem_base.specs.declared.map.kinds.Client.{Client}
use Rattle.mem_base.specs.declared.map.calls.Config.{Config}
use Rattle.mem_base.specs.declared.access.cells.Place.{Place}
use Rattle.mem_base.specs.declared.access.cells.Cell.{Cell}
use Rattle.mem_base.specs.declared.access.cells.WordStep.{WordStep}
use Rattle.mem_base.specs.declared.machine.events.HistoryEntry.{HistoryEntry}
use Rattle.mem_base.specs.declared.machine.events.Event.{Event}
use Rattle.mem_base.specs.declared.machine.events.Event.TheVariants as events
use Rattle.mem_base.specs.declared.machine.events.Hand.TheVariants as hands
use Rattle.mem_base.specs.lists.Every.{Every}
use Rattle.mem_base.specs.map.Limits.{notifier_count, pages_per_word, word_size}
use Rattle.mem_base.specs.access.PlacesByRegion.{place_in}
use Rattle.mem_base.specs.access.Places.{mark_word, mark_words, pages_in, past, notifiers_place}
use Rattle.mem_base.specs.access.Cells.{cell}
use Rattle.mem_base.specs.machine.Desk.{Desk, at_place, carried_by, cells_of, places_of}
use Rattle.mem_base.specs.machine.Reaps.{Writer, first_writer}
use Rattle.mem_base.specs.machine.Configs.{writer_after}
use Rattle.mem_base.specs.machine.World.{World, opening, possible, reply, number_in, world_after, if_placed, is_at_rest}
use Rattle.mem_base.specs.machine.History.{PureEntry, after_entries, IsLegalFrom, run_events}
use Rattle.mem_base.specs.machine.SharedHistory.{Shared}
use Rattle.mem_base.specs.machine.SharedHistory as running
use Rattle.mem_base.specs.machine.Orders.{Order, configure, reap, load, harvest, notified, journal, current, events_before, private_of, events_after, publishes}
use Rattle.mem_base.specs.machine.Orders.{harvest_refusal, harvests, load_refusal, loads, mark_words_at, pass_ids, sweeps, unless}
use Rattle.mem_base.specs.machine.Publishing.{would_publish}
use Rattle.mem_base.specs.declared.map.refusals.Refusal.{Refusal}
use Rattle.mem_base.specs.lists.Runs.{touched}
use Rattle.world_laws.proofs.Keeping.{Holds, holds, holds_from}
use Rattle.cell_laws.proofs.EachEvent.{no_place}
use Rattle.mem_base.specs.machine.Composites.{numbers_of}
use Rattle.mem_base.specs.machine.Turns.{Answered, after_private, entries_of_turn, history_entry, last_writer, played, turn, turns, writers_of}
use Rattle.mem_base.specs.machine.JoinedHistory.{joined_history}
use Rattle.history_laws.proofs.Idles.{Idle, IsSoundDesk}
use Rattle.turn_laws.proofs.Coupled.{Coupled, IsWhole, seen}
use Rattle.turn_laws.proofs.NewPlace.{found_new}
use Rattle.turn_laws.proofs.Readies.{Ready, Readied, Due, steps_keep}
use Rattle.turn_laws.proofs.Replaced.{its_region}
use Rattle.turn_laws.proofs.TurnGoes.{AllReady, AllDue}
use Rattle.turn_laws.proofs.Turning.{turn_facts}
use Rattle.turn_laws.proofs.TurnsLaw.{turns_join}
use Rattle.world_laws.specs.Legal.{IsFitting, IsLegalCall}
use Rattle.world_laws.proofs.OrderLaws.{orders_are_legal}
use Rattle.cell_laws.proofs.PlaceKeeping.{configured_grows}
use Rattle.mem_base.specs.machine.ShownWorlds.{world_shown}
use Rattle.turn_laws.proofs.Joining.{Ends}
use Rattle.end_laws.proofs.EndLaws.{ends, idle, leads, turns_end_in}
use Rattle.history_laws.proofs.PureAppends.{run_ends}
use Rattle.end_laws.proofs.TurnRuns.{IsPrivateRun, IsRun, Taken, privately, runs, taken, told_number}
use Rattle.history_laws.proofs.PureAppends.{legal_parts}
use Rattle.mem_base.proofs.PlaceLaws.{found_has}

-- a cell that is filled has its place
abbrev FillPlaced : World → Event → Type 0
FillPlaced w (events.Fill c) = (p : Place) × (place_in (places_of w.writer.desk) c.region ≡ Some p) × (c.word < p.words)
FillPlaced w e = Unit {0}

abbrev AllPlaced : World → List Event → Type 0
AllPlaced w [] = Unit {0}
AllPlaced w (e ∷ es) = FillPlaced w e × AllPlaced (world_after w e) es

-- one event

module _ (w : World) (words : List ℕ) (k : Coupled w words) where
  within : (p : Place) (r : RegionId) (word : ℕ) → place_in (places_of w.writer.desk) r ≡ Some p → word < p.words
      → ((p.region.0 == r.0) && running.is_within (seen w words) p word) ≡ true
  within p r word here near =
      let inside : p.start + p.words ≤ length words = k.backed.inside r p here in
      and_from _ _ (eq-eqb p.region.0 r.0 (its_region (places_of w.writer.desk) r p here))
      (and_from _ _ (lt-ltb word p.words near) (le-leb (past p) (length words) inside))

  first_page : (index n : ℕ) → index < (n + (pages_per_word - 1)) / pages_per_word →
      (pages_per_word * index < n) × (pages_per_word * index / pages_per_word ≡ index)
  first_page index n l = (omega (arith, l), omega arith)

  by_word : (c : Cell) (step : WordStep) (o : Option Place) → place_in (places_of w.writer.desk) c.region ≡ o
      → if_placed o (λ p. nat_lt c.word p.words) ≡ true
      → running.shared_possible (seen w words) (events.Word hands.Writer c step) (at_place o) ≡ true
  by_word c step None is may = absurd (grind arith)
  by_word c step (Some p) is may = within p c.region c.word is (ltb-true c.word p.words may)

  by_harvest : (r : RegionId) (client : Client) (index : ℕ) (o : Option Place) → place_in (places_of w.writer.desk) r ≡ o
      → if_placed o (λ p. nat_lt index (mark_words p.bytes)) ≡ true
      → running.shared_possible (seen w words) (events.Harvest r client index) (at_place o) ≡ true
  by_harvest r client index None is may = absurd (grind arith)
  by_harvest r client index (Some p) is may =
      let whole = found_has (IsWhole (places_of w.writer.desk)) (places_of w.writer.desk) r p k.whole is in
      let page = first_page index (pages_in p) (ltb-true _ _ may) in
      within p r (mark_word p client index) is
      (subst (λ (z : ℕ). mark_word p client z < p.words) page.1 (whole.marks client (pages_per_word * index) page.0))

  by_fill : (c : Cell) (p : Place) → place_in (places_of w.writer.desk) c.region ≡ Some p → c.word < p.words
      → running.shared_possible (seen w words) (events.Fill c) (carried_by w.writer.desk (events.Fill c)) ≡ true
  by_fill c p is near = ap (λ (o : Option Place). running.shared_possible (seen w words) (events.Fill c) (at_place o)) is ∙ within p c.region c.word is near

  may_shared : (e : Event) → possible w e ≡ true → Readied w.writer.desk e → FillPlaced w e
      → running.shared_possible (seen w words) e (carried_by w.writer.desk e) ≡ true
  may_shared (events.Sweep v) may r f = may
  may_shared (events.Place v) may r f =
      let t = and_parts _ _ may in let near = k.order.each v (ltb-true _ _ (and_parts _ _ t.1).0) in
      and_from _ _ (le-leb _ _ (near.due_near t.0)) t.1
  may_shared events.Publish may r f = (and_parts _ _ may).1
  may_shared (events.Word hands.Writer c step) may r f = by_word c step (place_in (places_of w.writer.desk) c.region) refl may
  may_shared (events.Harvest s client index) may r f = by_harvest s client index (place_in (places_of w.writer.desk) s) refl may
  may_shared (events.Fill c) may r f = by_fill c f.0 f.1 f.2
  may_shared e may r f = absurd r

  -- it tells what the pure machine answers
  tells_same : (e : Event) (n : ℕ) → n ≡ number_in (reply w e) → possible w e ≡ true → Ready w.writer (history_entry e (carried_by w.writer.desk e) n)
      → FillPlaced w e → n ≡ running.shared_reply (seen w words) e (carried_by w.writer.desk e)
  tells_same e n is may r f =
      let x = carried_by w.writer.desk e in
      let m = running.shared_reply (seen w words) e x in
      let keeps = steps_keep w words k (history_entry e x m) (record { carries = refl; event = r.event }) (may_shared e may r.event f) refl in
      is ∙ sym (ap number_in keeps.follows.tells) ∙ told_number (seen w words) w.writer.desk e r.event

-- rows of events

feasible : (end : Writer) (es : List Event) (w : World) (words : List ℕ) (rest : List ℕ) → Coupled w words
    → AllReady Ready Due end w.writer es (numbers_of (run_events w es).entries ++ rest) → IsLegalFrom w (run_events w es).entries → AllPlaced w es
    → running.IsSharedLegalFrom (seen w words) (played w.writer es (numbers_of (run_events w es).entries ++ rest)).entries
feasible end [] w words rest k a l f = tt
feasible end (e ∷ es) w words rest k a l f =
    let n : ℕ = number_in (reply w e) in
    let x = carried_by w.writer.desk e in
    let y : HistoryEntry = history_entry e x n in
    let may : running.shared_possible (seen w words) e x ≡ true = may_shared w words k e l.0 a.0.event f.0 in
    let is : n ≡ running.shared_reply (seen w words) e x = tells_same w words k e n refl l.0 a.0 f.0 in
    let t : Taken w words y = taken w words k y a.0 may is in
    let v : World = world_after w e in
    let ns : List ℕ = numbers_of (run_events v es).entries ++ rest in (
      may,
      is,
      subst (λ (z : Shared × Writer). running.IsSharedLegalFrom z.0 (played z.1 es ns).entries) (λ i. (sym t.shows i, t.writer i))
          (feasible end es v t.after rest t.coupled (subst (λ (h : Writer). AllReady Ready Due end h es ns) (sym t.writer) a.1) l.2 f.1),
    )

-- the replies that a row leaves over
left_over : (es : List Event) (w : World) (h : Writer) (rest : List ℕ) → (played h es (numbers_of (run_events w es).entries ++ rest)).replies ≡ rest
left_over [] w h rest = refl
left_over (e ∷ es) w h rest = left_over es (world_after w e) (writer_after h e (carried_by h.desk e) (number_in (reply w e))) rest

-- which cells are filled

placed_fills : (cs : List Cell) (w : World) → Every (λ c. FillPlaced w (events.Fill c)) cs → AllPlaced w (map (λ c. events.Fill c) cs)
placed_fills [] w h = tt
placed_fills (c ∷ cs) w h = (h.0, placed_fills cs (world_after w (events.Fill c)) h.1)

cells_placed : (w : World) (p : Place) (a n : ℕ) → place_in (places_of w.writer.desk) p.region ≡ Some p → a + n ≤ p.words
    → Every (λ c. FillPlaced w (events.Fill c)) (map (cell p.region) (range_with_len a n))
cells_placed w p a zero here l = tt
cells_placed w p a (suc n) here l = ((p, here, omega (arith, l)), cells_placed w p (a + 1) n here (omega (arith, l)))

-- events that fill nothing

abbrev FillNothing : List Event → Type 0
FillNothing es = Every (λ e. (z : World) → FillPlaced z e) es

no_fills : (es : List Event) (w : World) → FillNothing es → AllPlaced w es
no_fills [] w h = tt
no_fills (e ∷ es) w h = (h.0 w, no_fills es (world_after w e) h.1)

plainly : {A : Type 0} (g : A → Event) (xs : List A) → ((x : A) (z : World) → FillPlaced z (g x)) → FillNothing (map g xs)
plainly g [] h = tt
plainly g (x ∷ xs) h = (h x, plainly g xs h)

and_one : (es : List Event) (e : Event) → FillNothing es → ((z : World) → FillPlaced z e) → FillNothing (es ++ e ∷ [])
and_one [] e h k = (k, tt)
and_one (x ∷ es) e h k = (h.0, and_one es e h.1 k)

before_none : (h : Writer) (k : Order) → FillNothing (events_before h k)
before_none h (configure c) = go (would_publish h.desk c)
  where
    go : (b : Bool) → FillNothing (if b then sweeps h.generations else [])
    go true = plainly (λ pass. events.Sweep pass) (pass_ids h.generations) (λ pass z. tt)
    go false = tt
before_none h reap = plainly (λ pass. events.Sweep pass) (pass_ids h.generations) (λ pass z. tt)
before_none h (load region offset bytes) = tt
before_none h (harvest region client) = tt
before_none h (notified number) = tt
before_none h journal = tt
before_none h current = tt

-- histories in parts

pub shared_join : (xs ys : List HistoryEntry) (s : Shared) → running.IsSharedLegalFrom s xs
    → running.IsSharedLegalFrom (running.after_shared_entries s xs) ys → running.IsSharedLegalFrom s (xs ++ ys)
shared_join [] ys s l m = m
shared_join (x ∷ xs) ys s l m = (l.0, l.1, shared_join xs ys (running.after_shared_entry s x) l.2 m)

-- the cells of a region that was just made

module _ (u : World) (c : Config) (sound : IsSoundDesk u.writer.desk) (rest : is_at_rest u.writer.desk ≡ true) where
  abbrev d : Desk
  d = u.writer.desk

  abbrev np : Place
  np = notifiers_place d.pool_words

  abbrev v : World
  v = world_after u (events.Config c)

  nothing : (cells : List Cell) → (length cells == 0) ≡ true → cells ≡ []
  nothing [] h = refl
  nothing (x ∷ xs) h = absurd (omega (arith, eqb-true _ _ h))

  filled : d.unfilled ≡ []
  filled = nothing d.unfilled (and_parts _ _ rest).1

  unplaced : (r : RegionId) → d.forest.made ≡ r.0 → place_in (places_of d) r ≡ None
  unplaced r e = go (place_in (places_of d) r) refl
    where
      go : (o : Option Place) → place_in (places_of d) r ≡ o → o ≡ None
      go None is = refl
      go (Some q) is = absurd (no_place d.pool_words d.forest.made d.places r q sound.few sound.places is e)

  unfilled_placed : Every (λ x. FillPlaced v (events.Fill x)) v.writer.desk.unfilled
  unfilled_placed = ⊎_elim
      (λ a. subst (λ (cs : List Cell). Every (λ x. FillPlaced v (events.Fill x)) cs) (sym (a.1 ∙ filled)) tt)
      (λ b. subst (λ (cs : List Cell). Every (λ x. FillPlaced v (events.Fill x)) cs)
      (sym (b.3 ∙ ap (λ (cs : List Cell). cs ++ cells_of b.0) filled))
      (cells_placed v b.0 0 b.0.words
      (ap (λ (ps : List Place). place_in ps b.0.region) b.2 ∙ found_new d.places b.0 np (unplaced b.0.region (sym b.1)))
      (let l : 0 + b.0.words ≤ b.0.words = omega arith in l)))
      (configured_grows u.writer.generations d sound c).places

  after_config : (b : Bool) → AllPlaced v (if b then publishes v.writer.generations else map (λ x. events.Fill x) v.writer.desk.unfilled)
  after_config true = no_fills (publishes v.writer.generations) v
      (and_one (map (λ pass. events.Place pass) (pass_ids v.writer.generations)) events.Publish
      (plainly (λ pass. events.Place pass) (pass_ids v.writer.generations) (λ pass z. tt)) (λ z. tt))
  after_config false = placed_fills v.writer.desk.unfilled v unfilled_placed

-- a whole turn

module _ (end : Writer) (w : World) (words : List ℕ) (k : Order) (c : Coupled w words) (i : Idle w.writer) (h : Holds w) (call : IsLegalCall w k) where
  abbrev es : List Event
  es = events_before w.writer k

  abbrev u : World
  u = (run_events w es).world

  abbrev m : World
  m = (run_events u (private_of k)).world

  abbrev ls : List Event
  ls = events_after m.writer k

  abbrev later : List ℕ
  later = numbers_of (run_events m ls).entries ++ []

  abbrev pub replies : List ℕ
  replies = numbers_of (run_events w es).entries ++ later

  first_legal : IsLegalFrom w (run_events w es).entries
  first_legal = (legal_parts w (run_events w es).entries _ call.legal).0

  middle_legal : IsLegalFrom u ((run_events u (private_of k)).entries ++ (run_events m ls).entries)
  middle_legal = subst (λ (z : World). IsLegalFrom z ((run_events u (private_of k)).entries ++ (run_events m ls).entries)) (run_ends es w)
      ((legal_parts w (run_events w es).entries _ call.legal).1)

  last_legal : IsLegalFrom m (run_events m ls).entries
  last_legal = subst (λ (z : World). IsLegalFrom z (run_events m ls).entries) (run_ends (private_of k) u)
      ((legal_parts u (run_events u (private_of k)).entries _ middle_legal).1)

  u_sound : IsSoundDesk u.writer.desk
  u_sound = (subst Holds (run_ends es w) (holds_from w (run_events w es).entries h first_legal)).sound

  placed : (k : Order) → (let u : World = (run_events w (events_before w.writer k)).world in let m : World = (run_events u (private_of k)).world in
      IsSoundDesk u.writer.desk → IsLegalFrom u ((run_events u (private_of k)).entries ++ (run_events m (events_after m.writer k)).entries)
      → AllPlaced m (events_after m.writer k))
  placed (configure x) sound l = let u : World = (run_events w (events_before w.writer (configure x))).world in
      after_config u x sound (and_parts _ _ l.0).0 (world_after u (events.Config x)).writer.desk.due
  placed reap sound l = tt
  placed (load region offset bytes) sound l = no_fills _ w (go (load_refusal w.writer.desk.forest region offset (length bytes)))
    where
      go : (o : Option Refusal) → FillNothing (unless o (loads region offset bytes))
      go None = plainly _ (touched word_size offset (length bytes)) (λ r z. tt)
      go (Some why) = tt
  placed (harvest region client) sound l = no_fills _ w (go (harvest_refusal w.writer.desk.forest region))
    where
      go : (o : Option Refusal) → FillNothing (unless o (harvests w.writer.desk region client))
      go None = plainly (λ index. events.Harvest region client index) (range_with_len 0 (mark_words_at (place_in (places_of w.writer.desk) region))) (λ j z. tt)
      go (Some why) = tt
  placed (notified number) sound l = (tt, tt)
  placed journal sound l = tt
  placed current sound l = tt

  pub next_legal : running.IsSharedLegalFrom (seen w words) (entries_of_turn (turn w.writer k replies))
  next_legal =
      let ready = (turn_facts end w.writer k replies i).ready in
      let before = played w.writer es replies in
      let middle : Writer = after_private before.writer (private_of k) in
      let one_legal = feasible end es w words later c ready.before first_legal (no_fills es w (before_none w.writer k)) in
      let one : IsRun w words es replies = runs end es w words replies c ready.before one_legal in
      let two : IsPrivateRun u one.after (private_of k) = privately end (private_of k) u one.after one.coupled
      (subst (λ (z : Writer). AllDue Ready Due end z (private_of k)) one.writer ready.private) in
      let at : middle ≡ m.writer = ap (λ (z : Writer). after_private z (private_of k)) one.writer ∙ two.writer in
      let left : before.replies ≡ later = left_over es w w.writer later in
      let three : running.IsSharedLegalFrom (seen m one.after) (played m.writer ls later).entries =
      feasible end ls m one.after [] two.coupled
      (subst (λ (z : Writer × List ℕ). AllReady Ready Due end z.0 (events_after z.0 k) z.1) (λ j. (at j, left j)) ready.after)
      last_legal (placed k u_sound middle_legal) in
      shared_join before.entries (played middle (events_after middle k) before.replies).entries (seen w words) one_legal
      (subst (λ (z : Shared × Writer × List ℕ). running.IsSharedLegalFrom z.0 (played z.1 (events_after z.1 k) z.2).entries)
      (λ j. (sym (one.shows ∙ sym two.shows) j, sym at j, sym left j)) three)

pub turns_may_follow : (pool_words passes : ℕ) (os : List Answered) (xs : List HistoryEntry) (k : Order)
    → let ts = turns (first_writer pool_words passes) os in let h = last_writer (first_writer pool_words passes) ts in
    let s = running.after_shared_entries (running.shared_opening (pool_words + notifier_count) passes) xs in
    running.IsSharedLegal (pool_words + notifier_count) passes xs → writers_of xs ≡ flat_map entries_of_turn ts → IsFitting (world_shown h s) k
    → (replies : List ℕ) × running.IsSharedLegal (pool_words + notifier_count) passes (xs ++ entries_of_turn (turn h k replies))
turns_may_follow pool_words passes os xs k legal same fits =
    let h = last_writer (first_writer pool_words passes) (turns (first_writer pool_words passes) os) in
    let s : Shared = running.after_shared_entries (running.shared_opening (pool_words + notifier_count) passes) xs in
    let zs : List PureEntry = joined_history (turns (first_writer pool_words passes) os) xs in
    let w : World = after_entries (opening pool_words passes) zs in
    let e : Ends h s w = ends pool_words passes os xs legal same in
    let j = turns_join pool_words passes os xs legal same in
    let shown : w ≡ world_shown h s = leads pool_words passes os xs legal same in
    let rests : is_at_rest w.writer.desk ≡ true =
    ap (λ (z : Writer). is_at_rest z.desk) e.writer ∙ (turns_end_in pool_words passes os xs legal same).rests in
    let call : IsLegalCall w k = orders_are_legal pool_words passes zs j.legal rests k (subst (λ (z : World). IsFitting z k) (sym shown) fits) in
    let i : Idle w.writer = subst Idle (sym e.writer) (idle pool_words passes os xs legal same) in
    let next = next_legal h w e.words k e.coupled i (holds pool_words passes zs j.legal) call in
    let ns : List ℕ = replies h w e.words k e.coupled i (holds pool_words passes zs j.legal) call in (
      ns,
      shared_join xs (entries_of_turn (turn h k ns)) (running.shared_opening (pool_words + notifier_count) passes) legal
          (subst (λ (z : Shared × Writer). running.IsSharedLegalFrom z.0 (entries_of_turn (turn z.1 k ns))) (λ j. (e.shows j, e.writer j)) next),
    )
