-- What cells hold in histories of turns.
use Rattle.std.proofs.Common.{◌≡◌, ◌⊎◌, inl, inr, ℕ, ◌+◌, ◌<◌, true, false, List, [], ◌∷◌, ◌++◌, replicate, append_assoc}
use Rattle.std.proofs.Common.{refl, sym, ap, subst, ◌∙◌, arith, Option, Some}
use Rattle.std.specs.Prelude.{flat_map, nat_lt, ◌/◌, is_some}
use Rattle.std.proofs.lemmas.Bool.{eqb-true, lt-ltb, and_parts}
use Rattle.mem_base.specs.declared.map.ids.RegionId.{RegionId}
use Rattle.mem_base.specs.map.PassIds.{PassId}
use Rattle.mem_base.specs.declared.map.kinds.Client.{Client}
use Rattle.mem_base.specs.declared.map.forests.Node.{Node}
use Rattle.mem_base.specs.declared.access.cells.Place.{Place}
use Rattle.mem_base.specs.declared.access.cells.Cell.{Cell}
use Rattle.mem_base.specs.declared.machine.events.Event.{Event}
use Rattle.mem_base.specs.declared.machine.events.Event.TheVariants as events
use Rattle.mem_base.specs.declared.machine.events.Hand.TheVariants as hands
use Rattle.mem_base.specs.declared.machine.events.HistoryEntry.{HistoryEntry}
use Rattle.mem_base.specs.declared.machine.events.Carried.{Carried}
use Rattle.mem_base.specs.declared.machine.events.Carried.TheVariants.{Nothing, Edition, At}
use Rattle.mem_base.specs.lists.Every.{Every}
use Rattle.mem_base.specs.map.Limits.{notifier_count}
use Rattle.mem_base.specs.map.Region.{node_of}
use Rattle.mem_base.specs.access.Places.{extent_of, is_data_or_register, notifiers_place, place_from}
use Rattle.mem_base.specs.machine.Desk.{Desk, places_of}
use Rattle.mem_base.specs.machine.Reaps.{Writer, first_writer}
use Rattle.mem_base.specs.machine.World.{World, opening, possible, place_in_world, if_placed}
use Rattle.mem_base.specs.machine.History.{PureEntry, after_entry, after_entries, IsLegal}
use Rattle.mem_base.specs.machine.SharedHistory as running
use Rattle.mem_base.specs.machine.Turns.{Answered, turns, entries_of_turn, is_writers, last_writer, writers_of}
use Rattle.mem_base.specs.machine.JoinedHistory.{joined_history, read, row_of}
use Rattle.mem_base.proofs.ForestLaws.{known_below}
use Rattle.view_laws.proofs.Tests.{same_place, same_region}
use Rattle.history_laws.specs.BackedForests.{ShowsOwnPlaces}
use Rattle.history_laws.proofs.Idles.{opens_idle}
use Rattle.history_laws.proofs.ShownLaws.{generations_show_places}
use Rattle.turn_laws.proofs.Coupled.{Coupled, seen}
use Rattle.turn_laws.proofs.Joining.{Goes, EachEntry, joins_all, reaches_each}
use Rattle.turn_laws.proofs.Openings.{opens}
use Rattle.turn_laws.proofs.PassSteps.{transaction}
use Rattle.turn_laws.proofs.Readies.{Due, DueEvent, Readied, steps_keep, privates_keep}
use Rattle.turn_laws.proofs.Replaced.{its_region}
use Rattle.turn_laws.proofs.TurnGoes.{turns_go}
use Rattle.turn_laws.proofs.TurnsLaw.{turns_join}
use Rattle.world_laws.proofs.Keeping.{Holds, holds}
use Rattle.mem_base.proofs.EveryLaws.{every_append}
use Rattle.map_laws.proofs.MadeForests.{made_empty}
use Rattle.mem_base.specs.machine.CellHistories.{IsMarkKept}
use Rattle.cell_laws.specs.CellHistory.{AreOnData, IsFilled, IsOnData}
use Rattle.cell_laws.proofs.EachEvent.{notifiers_last}
use Rattle.cell_laws.proofs.Histories.{marks_are_kept, steps_tell_last, words_are_released}
use Rattle.cell_laws.specs.TurnCells.{HasFittingCall, ReusesReleased}
use Rattle.cell_laws.proofs.DataSteps.{IsOfData, ReadyOnData, StepsOnData, turns_on_data}
use Rattle.history_laws.proofs.PureAppends.{after_both, legal_parts}
use Rattle.mem_base.proofs.NodeLaws.{whole_bytes}
use Rattle.mem_base.proofs.PlaceLaws.{found_has}

-- what holds of each entry where it stands

abbrev MarksFilled : World → Event → Type 0
MarksFilled w (events.Mark v r client page) = IsFilled w.writer.desk r
MarksFilled w e = Unit {0}

abbrev Fact : World → PureEntry → Type 0
Fact w x = StepsOnData w.writer.desk.forest x.event × MarksFilled w x.event

on_step : (w : World) (words : List ℕ) → Coupled w words → (y : HistoryEntry) → ReadyOnData w.writer y
    → running.shared_possible (seen w words) y.event y.carried ≡ true → Fact w (read y)
on_step w words k y r may = (r.1, go y.event r.0.event)
  where
    go : (e : Event) → Readied w.writer.desk e → MarksFilled w e
    go (events.Mark v s client page) z = absurd z
    go (events.Look v) z = tt
    go (events.Announce v) z = tt
    go (events.Enter v) z = tt
    go (events.Leave v) z = tt
    go (events.Sweep v) z = tt
    go (events.Place v) z = tt
    go events.Publish z = tt
    go (events.Word h c step) z = tt
    go (events.Harvest s client index) z = tt
    go (events.Fill c) z = tt
    go (events.Config c) z = tt
    go events.Reap z = tt

on_private : (w : World) (words : List ℕ) → Coupled w words → (x : PureEntry) → Due w.writer x → Fact w x
on_private w words k x due = go x.event due.event
  where
    go : (e : Event) → DueEvent w.writer e → StepsOnData w.writer.desk.forest e × MarksFilled w e
    go (events.Config c) z = (tt, tt)
    go events.Reap z = (tt, tt)
    go e z = absurd z

-- a pass marks a page of a place that its generation carries, of which each cell was cleared
filled_by : (w : World) (words : List ℕ) → Coupled w words → (v : PassId) (r : RegionId) (client : Client) (page : ℕ) (x : Carried)
    → running.shared_possible (seen w words) (events.Mark v r client page) x ≡ true → IsFilled w.writer.desk r
filled_by w words k v r client page Nothing h = absurd (grind arith)
filled_by w words k v r client page (Edition f places) h = absurd (grind arith)
filled_by w words k v r client page (At p) h =
    let a = and_parts _ _ h in let b = and_parts _ _ a.0 in
    let t = transaction w words k v p a.1 in
    subst (λ (z : RegionId). IsFilled w.writer.desk z) (same_region p.region r (eqb-true p.region.0 r.0 b.0)) t.place.filled

on_pass : (w : World) (words : List ℕ) → Coupled w words → (y : HistoryEntry) → is_writers y.event ≡ false
    → running.shared_possible (seen w words) y.event y.carried ≡ true → Fact w (read y)
on_pass w words k y is may = go y.event is may
  where
    go : (e : Event) → is_writers e ≡ false → running.shared_possible (seen w words) e y.carried ≡ true
        → StepsOnData w.writer.desk.forest e × MarksFilled w e
    go (events.Look v) is may = (tt, tt)
    go (events.Announce v) is may = (tt, tt)
    go (events.Enter v) is may = (tt, tt)
    go (events.Leave v) is may = (tt, tt)
    go (events.Word (hands.Pass v) c step) is may = (tt, tt)
    go (events.Mark v r client page) is may = (tt, filled_by w words k v r client page y.carried may)
    go e is may = absurd (grind arith)

-- a step on data of a region that has memory is one on data of its place

module _ (pool_words : ℕ) (w : World) (k : Holds w) (shown : ShowsOwnPlaces pool_words w.writer) where
  abbrev d : Desk
  d = w.writer.desk

  abbrev np : Place
  np = notifiers_place d.pool_words

  abbrev Fits : Place → Type 0
  Fits q = (n : Node) → node_of d.forest.nodes q.region ≡ Some n → q ≡ place_from q.region q.start (extent_of n.kind n.size)

  all_fit : Every Fits (places_of d)
  all_fit = every_append Fits d.places (np ∷ []) shown.backs.fits (none_known, tt)
    where
      none_known : Fits np
      none_known n e =
          let l : 4294967295 < d.forest.made =
          known_below d.forest np.region k.sound.forest (ap (λ (o : Option Node). is_some o) e) in
          let few = k.sound.few in absurd (omega (arith, l, few))

  data_word : (c : Cell) (p : Place) → place_in_world w c.region ≡ Some p → nat_lt c.word p.words ≡ true
      → (c.region.0 ≡ 4294967295) ⊎ IsOfData d.forest c → is_data_or_register p c.word ≡ true
  data_word c p here near (inl e) =
      let same : np ≡ p = same_place np p (sym (notifiers_last d.pool_words d.forest.made d.places c.region k.sound.few k.sound.places (sym e)) ∙ here) in
      subst (λ (q : Place). is_data_or_register q c.word ≡ true) same
      (subst (λ (q : Place). nat_lt c.word q.words ≡ true) (sym same) near)
  data_word c p here near (inr m) =
      let its : p.region ≡ c.region = same_region p.region c.region (its_region (places_of d) c.region p here) in
      let fits : p ≡ place_from p.region p.start (extent_of m.node.kind m.node.size) =
      found_has Fits (places_of d) c.region p all_fit here m.node (ap (node_of d.forest.nodes) its ∙ m.there) in
      let bytes : p.bytes ≡ m.node.size = ap (λ (q : Place). q.bytes) fits ∙ whole_bytes m.node.kind m.node.size m.memory in
      at p.bytes m.node.size p.regs c.word bytes m.inside
    where
      at : (bytes size regs word : ℕ) → bytes ≡ size → word < size / 8 → nat_lt word (bytes / 8 + regs) ≡ true
      at bytes size regs word e l = lt-ltb word (bytes / 8 + regs) (omega (arith, e, l))

  on_data_at : (e : Event) → possible w e ≡ true → StepsOnData d.forest e → IsOnData w e
  on_data_at (events.Word hands.Writer c step) may s = λ p here.
      data_word c p here (sym (ap (λ (o : Option Place). if_placed o (λ q. nat_lt c.word q.words)) here) ∙ may) s
  on_data_at (events.Word (hands.Pass v) c step) may s = tt
  on_data_at _ may s = tt

-- histories in parts

each_part : (w : World) (xs ys : List PureEntry) → EachEntry Fact w (xs ++ ys) → EachEntry Fact (after_entries w xs) ys
each_part w [] ys h = h
each_part w (x ∷ xs) ys h = each_part (after_entry w x) xs ys h.1

on_data_from : (pool_words passes : ℕ) (ys zs : List PureEntry) → IsLegal pool_words passes (zs ++ ys)
    → EachEntry Fact (after_entries (opening pool_words passes) zs) ys → AreOnData (after_entries (opening pool_words passes) zs) ys
on_data_from pool_words passes [] zs l h = tt
on_data_from pool_words passes (x ∷ ys) zs l h =
    let w = after_entries (opening pool_words passes) zs in
    let t = legal_parts (opening pool_words passes) zs (x ∷ ys) l in
    let next : after_entries (opening pool_words passes) (zs ++ x ∷ []) ≡ after_entry w x = after_both (opening pool_words passes) zs (x ∷ []) in (
      on_data_at pool_words w (holds pool_words passes zs t.0) (generations_show_places pool_words passes zs t.0) x.event t.1.0 h.0.0,
      subst (λ (v : World). AreOnData v ys) next (on_data_from pool_words passes ys (zs ++ x ∷ [])
          (subst (λ (us : List PureEntry). IsLegal pool_words passes us) (sym (append_assoc zs (x ∷ []) ys)) l)
          (subst (λ (v : World). EachEntry Fact v ys) (sym next) h.1)),
    )

module _ (pool_words passes : ℕ) (os : List Answered) (xs : List HistoryEntry) (legal : running.IsSharedLegal (pool_words + notifier_count) passes xs)
    (same : writers_of xs ≡ flat_map entries_of_turn (turns (first_writer pool_words passes) os)) where
  abbrev h : Writer
  h = first_writer pool_words passes

  abbrev ys : List PureEntry
  ys = joined_history (turns h os) xs

  ys_legal : IsLegal pool_words passes ys
  ys_legal = (turns_join pool_words passes os xs legal same).legal

  each : Every HasFittingCall os → EachEntry Fact (opening pool_words passes) ys
  each fits =
      let end = last_writer h (turns h os) in
      let final = running.after_shared_entries (running.shared_opening (pool_words + notifier_count) passes) xs in
      let goes : Goes ReadyOnData Due end h (flat_map row_of (turns h os)) (writers_of xs) =
      subst (λ (zs : List HistoryEntry). Goes ReadyOnData Due end h (flat_map row_of (turns h os)) zs) (sym same)
      (turns_go ReadyOnData Due end os h refl (turns_on_data end os h (opens_idle pool_words passes) fits made_empty)) in
      reaches_each Fact end final (opening pool_words passes) ys
      (joins_all ReadyOnData Due Fact end final (λ w words k y r may is. steps_keep w words k y r.0 may is) privates_keep on_step on_private on_pass
      xs (flat_map row_of (turns h os)) (opening pool_words passes)
      (replicate (pool_words + notifier_count) 0) (opens pool_words passes) goes legal refl)

  marks : Every HasFittingCall os → (before after : List PureEntry) (x : PureEntry) (pass : PassId) (r : RegionId) (client : Client) (page : ℕ)
      → ys ≡ before ++ x ∷ after → x.event ≡ events.Mark pass r client page
      → let w = after_entries (opening pool_words passes) before in
      (p : Place) → place_in_world w r ≡ Some p → IsMarkKept p client page (after_entry w x) after
  marks fits before after x pass r client page split is p here =
      let w = after_entries (opening pool_words passes) before in
      let l : IsLegal pool_words passes (before ++ x ∷ after) = subst (λ (us : List PureEntry). IsLegal pool_words passes us) split ys_legal in
      let e : EachEntry Fact (opening pool_words passes) (before ++ x ∷ after) =
      subst (λ (us : List PureEntry). EachEntry Fact (opening pool_words passes) us) split (each fits) in
      let at : EachEntry Fact w (x ∷ after) = each_part (opening pool_words passes) before (x ∷ after) e in
      let filled : IsFilled w.writer.desk r = subst (λ (z : Event). MarksFilled w z) is at.0.1 in
      marks_are_kept pool_words passes before after x pass r client page l is p here filled
      (on_data_from pool_words passes (x ∷ after) before l at).1

  reuse : ReusesReleased pool_words passes ys
  reuse = record {
    tells = λ before after x hand c step split is.
        steps_tell_last pool_words passes before x hand c step
        (legal_parts (opening pool_words passes) (before ++ x ∷ []) after
        (subst (λ (us : List PureEntry). IsLegal pool_words passes us) (split ∙ sym (append_assoc before (x ∷ []) after)) ys_legal)).0 is;
    released = λ before after rest split r s p q here there ne meet.
        words_are_released pool_words passes before after
        (legal_parts (opening pool_words passes) (before ++ after) rest
        (subst (λ (us : List PureEntry). IsLegal pool_words passes us) split ys_legal)).0 r s p q here there ne meet;
  }

pub turns_keep_marks : (pool_words passes : ℕ) (os : List Answered) (xs : List HistoryEntry) → running.IsSharedLegal (pool_words + notifier_count) passes xs
    → let ts = turns (first_writer pool_words passes) os in
    writers_of xs ≡ flat_map entries_of_turn ts → Every HasFittingCall os
    → (before after : List PureEntry) (x : PureEntry) (pass : PassId) (r : RegionId) (client : Client) (page : ℕ)
    → joined_history ts xs ≡ before ++ x ∷ after → x.event ≡ events.Mark pass r client page
    → let w = after_entries (opening pool_words passes) before in
    (p : Place) → place_in_world w r ≡ Some p → IsMarkKept p client page (after_entry w x) after
turns_keep_marks pool_words passes os xs legal same fits = marks pool_words passes os xs legal same fits

pub turns_reuse_released : (pool_words passes : ℕ) (os : List Answered) (xs : List HistoryEntry)
    → running.IsSharedLegal (pool_words + notifier_count) passes xs
    → let ts = turns (first_writer pool_words passes) os in
    writers_of xs ≡ flat_map entries_of_turn ts → ReusesReleased pool_words passes (joined_history ts xs)
turns_reuse_released pool_words passes os xs legal same = reuse pool_words passes os xs legal same
