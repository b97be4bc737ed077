-- Each call of the writer is legal where nothing is due or unfilled, and leaves nothing due or unfilled.
use Rattle.std.proofs.Common.{◌≡◌, ℕ, ◌+◌, ◌<◌, ◌≤◌, ne_eqb, Bool, true, false, ◌||◌, List, [], ◌∷◌, ◌++◌, length, map}
use Rattle.std.proofs.Common.{sym, refl, ap, ◌∙◌, subst, arith, if◌then◌else◌, Option, Some, None}
use Rattle.std.specs.Prelude.{not, nat_lt, ◌==◌, ◌/◌, ◌%◌, ◌^◌, ◌-◌}
use Rattle.std.specs.List.{range_with_len}
use Rattle.std.proofs.lemmas.Bool.{lt-ltb, and_from, and_parts, or_right, not-true}
use Rattle.std.proofs.lemmas.Bool.Decides.{nat_tests}
use Rattle.mem_base.specs.declared.map.ids.RegionId.{RegionId}
use Rattle.mem_base.specs.declared.map.kinds.Client.{Client}
use Rattle.mem_base.specs.declared.map.kinds.Kind.{Kind}
use Rattle.mem_base.specs.declared.map.kinds.Kind.TheVariants.{Ram, Rom, RomDevice}
use Rattle.mem_base.specs.declared.map.forests.Node.{Node}
use Rattle.mem_base.specs.declared.map.forests.Forest.{Forest}
use Rattle.mem_base.specs.declared.map.calls.Config.{Config}
use Rattle.mem_base.specs.declared.map.refusals.Refusal.{Refusal}
use Rattle.mem_base.specs.declared.map.refusals.Refusal.TheVariants.{WrongKind, BadSize}
use Rattle.mem_base.specs.declared.access.cells.Place.{Place}
use Rattle.mem_base.specs.declared.machine.events.Event.{Event}
use Rattle.mem_base.specs.declared.machine.events.Event.TheVariants as events
use Rattle.mem_base.specs.lists.Every.{Every}
use Rattle.mem_base.specs.lists.Runs.{is_in_unit, touched}
use Rattle.mem_base.specs.map.Limits.{notifier_count, page_size, word_size}
use Rattle.mem_base.specs.map.Kinds.{has_bytes}
use Rattle.mem_base.specs.map.Region.{node_of}
use Rattle.mem_base.specs.map.Refusals.{refuse_where, unknown_region, wrong_kind}
use Rattle.mem_base.specs.map.Forest.{IsMade, IsRegion, IsClosedForest}
use Rattle.mem_base.specs.access.PlacesByRegion.{notifiers, place_in}
use Rattle.mem_base.specs.access.Places.{extent_of, words_of, place_from, notifiers_place, mark_words}
use Rattle.mem_base.specs.access.MemoryAccess.{replaces}
use Rattle.mem_base.specs.machine.Desk.{Desk, places_of, is_all_swept}
use Rattle.mem_base.specs.machine.Generations.{nothing_known}
use Rattle.mem_base.specs.machine.Publishing.{would_publish}
use Rattle.mem_base.specs.machine.World.{World, opening, world_after, is_at_rest, if_placed}
use Rattle.mem_base.specs.machine.History.{PureEntry, after_entries, IsLegal, run_events}
use Rattle.mem_base.specs.machine.Orders.{Order, configure, reap, load, harvest, notified, journal, current, sweeps, publishes, events_before, private_of}
use Rattle.mem_base.specs.machine.Orders.{events_after, unless, loads, harvests, mark_words_at, ends_past, load_refusal, harvest_refusal}
use Rattle.mem_base.proofs.EveryLaws.{weaker, every_get}
use Rattle.mem_base.proofs.ForestLaws.{every_node_of}
use Rattle.map_laws.proofs.RefusalLaws.{each_none, known_node, refuse_where-none}
use Rattle.map_laws.proofs.SizeLaws.{size_whole}
use Rattle.map_laws.proofs.SoundCallLaws.{IsClosedForest-made}
use Rattle.view_laws.proofs.Tests.{none_is_not_some}
use Rattle.history_laws.specs.BackedForests.{BacksForest}
use Rattle.history_laws.proofs.Outcomes.{Distinct, outcome}
use Rattle.history_laws.proofs.PlaceLaws.{place_of_region, some_is}
use Rattle.history_laws.proofs.ReleasedLaws.{ids}
use Rattle.history_laws.proofs.ShownLaws.{generations_show_places}
use Rattle.turn_laws.proofs.Rows.{flags_after, all_swept}
use Rattle.world_laws.specs.Legal.{IsFitting, IsLegalCall}
use Rattle.world_laws.proofs.Lists.{starts_below}
use Rattle.history_laws.proofs.PureAppends.{run_ends, ends_then}
use Rattle.world_laws.proofs.Running.{AllMay, Sound, sound, sound_run, legal_run, legal_then}
use Rattle.world_laws.proofs.OrderRows.{sweeps_may, swept_desk, publishes_may, published_desk, fills_may, filled_desk}
use Rattle.world_laws.proofs.OrderRows.{loads_may, loads_rest, harvests_may, harvests_rest}
use Rattle.turn_laws.proofs.PrivateSteps.{nothing_unfilled}
use Rattle.mem_base.proofs.PlaceLaws.{found_has}

-- events that are possible, after which nothing is due or unfilled
record Runs (w : World) (es : List Event) : Type 0 where
  may : AllMay w es
  rests : is_at_rest (run_events w es).world.writer.desk ≡ true

-- events before a private one, that event, and the events after it
record Goes (w : World) (es ps ls : List Event) : Type 0 where
  before : AllMay w es
  private : AllMay (run_events w es).world ps
  after : Runs (run_events (run_events w es).world ps).world ls

-- are a legal call
as_call : (w : World) (k : Order) → (let v = (run_events w (events_before w.writer k)).world in let u = (run_events v (private_of k)).world in
    Goes w (events_before w.writer k) (private_of k) (events_after u.writer k)) → IsLegalCall w k
as_call w k g =
    let es = events_before w.writer k in let v = (run_events w es).world in
    let ps = private_of k in let u = (run_events v ps).world in let ls = events_after u.writer k in record {
      legal = legal_then es w _ g.before (legal_then ps v _ g.private (legal_run ls u g.after.may));
      ends = ends_then es w _ ∙ ends_then ps v _ ∙ run_ends ls u;
      rests = g.after.rests;
    }

-- a call, a begin, a commit, and a listener that joins or leaves

module _ (v : World) (k : Sound v) (rest : is_at_rest v.writer.desk ≡ true) (c : Config) where
  abbrev u : World
  u = world_after v (events.Config c)

  off : v.writer.desk.due ≡ false
  off = not-true v.writer.desk.due (and_parts _ _ rest).0

  after_config : (b : Bool) → u.writer.desk.due ≡ b → Runs u (if b then publishes u.writer.generations else map (λ c. events.Fill c) u.writer.desk.unfilled)
  after_config b due =
      let o = outcome v.writer.generations v.writer.desk k.holds.sound off (nothing_unfilled v.writer.desk.unfilled (and_parts _ _ rest).1) c in
      go b due o.none_due o.distinct
    where
      go : (b : Bool) → u.writer.desk.due ≡ b → (u.writer.desk.due ≡ true → u.writer.desk.unfilled ≡ []) → Distinct u.writer.desk.unfilled
          → Runs u (if b then publishes u.writer.generations else map (λ c. events.Fill c) u.writer.desk.unfilled)
      go true due none distinct = let ks = v.writer.generations.passes in record {
        may = publishes_may 0 (length ks) u due k.holds.kept.coupled.order.all_known (omega arith)
            (λ i l. every_get (λ k. k.placed ≡ false) ks i nothing_known refl (k.unplaced off)) (λ i l. absurd (omega arith));
        rests = subst (λ (d : Desk). is_at_rest d ≡ true) (sym (published_desk (ids 0 (length ks)) u)) (rw (none due) refl);
      }
      go false due none distinct = record {
        may = fills_may u.writer.desk.unfilled u refl distinct;
        rests = subst (λ (d : Desk). is_at_rest d ≡ true) (sym (filled_desk u.writer.desk.unfilled u refl distinct)) (rw due refl);
      }

module _ (w : World) (k : Sound w) (rest : is_at_rest w.writer.desk ≡ true) where
  abbrev swept : World
  swept = (run_events w (sweeps w.writer.generations)).world

  may_sweep : AllMay w (sweeps w.writer.generations)
  may_sweep = let e = k.holds.kept.coupled.order.all_known in sweeps_may 0 (length w.writer.generations.passes) w (omega arith)

  swept_is : swept.writer.desk ≡ (record w.writer.desk { swept = flags_after (ids 0 (length w.writer.generations.passes)) w.writer.desk.swept })
  swept_is = swept_desk (ids 0 (length w.writer.generations.passes)) w

  swept_rests : is_at_rest swept.writer.desk ≡ true
  swept_rests = subst (λ (d : Desk). is_at_rest d ≡ true) (sym swept_is) rest

  swept_all : is_all_swept swept.writer.desk ≡ true
  swept_all = let o = k.holds.kept.coupled.order in subst (λ (d : Desk). is_all_swept d ≡ true) (sym swept_is)
      (all_swept (length w.writer.generations.passes) w.writer.desk.swept (o.all_flagged ∙ sym o.all_known))

  configures : (c : Config) → IsLegalCall w (configure c)
  configures c = as_call w (configure c) (go (would_publish w.writer.desk c) refl)
    where
      by : (es : List Event) → AllMay w es → (let v = (run_events w es).world in is_at_rest v.writer.desk ≡ true
          → (not (would_publish v.writer.desk c) || is_all_swept v.writer.desk) ≡ true
          → Goes w es (events.Config c ∷ []) (events_after (world_after v (events.Config c)).writer (configure c)))
      by es may rests ok = let v = (run_events w es).world in record {
        before = may;
        private = (and_from (is_at_rest v.writer.desk) _ rests ok, tt);
        after = after_config v (sound_run es w k may) rests c (world_after v (events.Config c)).writer.desk.due refl;
      }

      go : (b : Bool) → would_publish w.writer.desk c ≡ b → (let es = if b then sweeps w.writer.generations else [] in let v = (run_events w es).world in
          Goes w es (events.Config c ∷ []) (events_after (world_after v (events.Config c)).writer (configure c)))
      go true e = by (sweeps w.writer.generations) may_sweep swept_rests (or_right (not (would_publish swept.writer.desk c)) _ swept_all)
      go false e = by [] tt rest (rw e refl)

  reaps : IsLegalCall w reap
  reaps = as_call w reap record {
    before = may_sweep;
    private = (and_from (is_at_rest swept.writer.desk) _ swept_rests swept_all, tt);
    after = record { may = tt; rests = swept_rests };
  }

  -- an order without a private event
  steadily : (es : List Event) → AllMay w es → (run_events w es).world.writer.desk ≡ w.writer.desk → Runs w es
  steadily es may same = record { may = may; rests = subst (λ (d : Desk). is_at_rest d ≡ true) (sym same) rest }

  alone : (es : List Event) → Runs w es → Goes w [] [] es
  alone es r = record { before = tt; private = tt; after = r }

  unless_runs : (o : Option Refusal) (es : List Event) → (o ≡ None → Runs w es) → Runs w (unless o es)
  unless_runs None es r = r refl
  unless_runs (Some why) es r = record { may = tt; rests = rest }

  -- the marks of a region

  takes_marks : (region : RegionId) (client : Client) → IsLegalCall w (harvest region client)
  takes_marks region client = as_call w (harvest region client)
      (alone _ (unless_runs (harvest_refusal w.writer.desk.forest region) (harvests w.writer.desk region client)
      (λ none. steadily (harvests w.writer.desk region client) (go (place_in (places_of w.writer.desk) region) refl)
      (harvests_rest region client (range_with_len 0 (mark_words_at (place_in (places_of w.writer.desk) region))) w))))
    where
      go : (o : Option Place) → place_in (places_of w.writer.desk) region ≡ o
          → AllMay w (map (λ index. events.Harvest region client index) (range_with_len 0 (mark_words_at o)))
      go None here = tt
      go (Some p) here = harvests_may region p client 0 (mark_words p.bytes) w here (omega arith)

  -- a notifier

  last_place : (made : ℕ) (ps : List Place) (np : Place) → made ≤ 4294967294 → Every (λ p. p.region.0 < made) ps → np.region ≡ notifiers
      → place_in (ps ++ np ∷ []) notifiers ≡ Some np
  last_place made [] np few k is = ap (λ (r : RegionId). if r.0 == notifiers.0 then Some np else None) is
  last_place made (p ∷ ps) np few k is =
      rw (ne_eqb p.region.0 (2 ^ 32 - 1) (λ e. let l : p.region.0 < made = k.0 in omega (arith, e, l, few))) (last_place made ps np few k.1 is)

  takes_notifier : (number : ℕ) → number < notifier_count → IsLegalCall w (notified number)
  takes_notifier number l = let d = w.writer.desk in let s = k.holds.sound in
      let here : place_in (places_of d) notifiers ≡ Some (notifiers_place d.pool_words) =
      last_place d.forest.made d.places (notifiers_place d.pool_words) s.few s.places refl in
      as_call w (notified number) (alone _ (steadily _
      (ap (λ (o : Option Place). if_placed o (λ p. nat_lt number p.words)) here ∙ lt-ltb number notifier_count l, tt) refl))

  -- bytes into a region

  module _ (pool_words : ℕ) (backs : BacksForest pool_words w.writer.desk.forest w.writer.desk.places) where
    abbrev f : Forest
    f = w.writer.desk.forest

    held_data : (kind : Kind) (size : ℕ) → has_bytes kind ≡ true → size / 8 ≤ words_of (extent_of kind size)
    held_data Ram size e = omega arith
    held_data Rom size e = omega arith
    held_data (RomDevice device) size e = omega arith
    held_data _ size e = absurd (grind arith)

    place_first : (ps : List Place) (np p : Place) (r : RegionId) → place_in ps r ≡ Some p → place_in (ps ++ np ∷ []) r ≡ Some p
    place_first [] np p r e = none_is_not_some p e
    place_first (q ∷ qs) np p r e = go (q.region.0 == r.0) e (place_first qs np p r)
      where
        go : (b : Bool) → (if b then Some q else place_in qs r) ≡ Some p → (place_in qs r ≡ Some p → place_in (qs ++ np ∷ []) r ≡ Some p)
            → (if b then Some q else place_in (qs ++ np ∷ []) r) ≡ Some p
        go true e rest = e
        go false e rest = rest e

    -- the place of a region that has bytes
    record HoldsBytes (region : RegionId) (n : Node) : Type 0 where
      place : Place
      here : place_in (places_of w.writer.desk) region ≡ Some place
      pages : n.size % page_size ≡ 0
      room : n.size / 8 ≤ place.words

    holds_bytes : (region : RegionId) (n : Node) → node_of f.nodes region ≡ Some n → IsRegion f.nodes n → has_bytes n.kind ≡ true → HoldsBytes region n
    holds_bytes region n is sized memory =
        let size = size_whole n.kind n.size sized.sized memory in
        let least = held_data n.kind n.size memory in
        let some : 0 < words_of (extent_of n.kind n.size) = above n.size (words_of (extent_of n.kind n.size)) size.0 size.1 least in
        let p = some_is (place_in w.writer.desk.places region) (backs.regions region n is some) in
        let its = place_of_region w.writer.desk.places region p.0 p.1 in
        let fits = found_has (λ q. (n : Node) → node_of f.nodes q.region ≡ Some n → q ≡ place_from q.region q.start (extent_of n.kind n.size))
        w.writer.desk.places region p.0 backs.fits p.1 n (ap (node_of f.nodes) its.1 ∙ is) in record {
          place = p.0;
          here = place_first w.writer.desk.places (notifiers_place w.writer.desk.pool_words) p.0 region p.1;
          pages = size.1;
          room = wide p.0 (words_of (extent_of n.kind n.size)) n.size (ap (λ (q : Place). q.words) fits) least;
        }
      where
        above : (size words : ℕ) → 0 < size → size % page_size ≡ 0 → size / 8 ≤ words → 0 < words
        above size words some pages room = omega (arith, some, pages, room)

        wide : (p : Place) (words size : ℕ) → p.words ≡ words → size / 8 ≤ words → size / 8 ≤ p.words
        wide p words size e l = omega (arith, e, l)

    module _ (made : IsMade f) (region : RegionId) (offset : ℕ) (bytes : List ℕ)
        (none : load_refusal f region offset (length bytes) ≡ None) where
      loads_into : (n : Node) → HoldsBytes region n → offset + length bytes ≤ n.size → Runs w (loads region offset bytes)
      loads_into n h ends = steadily (loads region offset bytes)
          (loads_may region h.place (λ r. r.start / word_size) (replaces offset bytes) (touched word_size offset (length bytes)) w h.here
          (weaker (λ r. r.start < offset + length bytes) (λ r. r.start / word_size < h.place.words)
          (λ r l. inside r.start n.size h.place.words (omega (arith, l, ends)) h.pages h.room) (touched word_size offset (length bytes))
          (starts_below (is_in_unit word_size) offset (length bytes))))
          (loads_rest region (λ r. r.start / word_size) (replaces offset bytes) (touched word_size offset (length bytes)) w)
        where
          inside : (start size words : ℕ) → start < size → size % page_size ≡ 0 → size / 8 ≤ words → start / 8 < words
          inside start size words l pages room = omega (arith, l, pages, room)

      loads_run : Runs w (loads region offset bytes)
      loads_run =
          let each = each_none (unknown_region f region ∷ wrong_kind has_bytes f region
          ∷ refuse_where (ends_past offset (length bytes)) BadSize (node_of f.nodes region) ∷ []) none in
          let n = known_node f region each.0 in
          let memory = is_memory n.0 (refuse_where-none (λ n. not (has_bytes n.kind)) (WrongKind region) (node_of f.nodes region) n.0 n.1 each.1.0) in
          let ends = within n.0 (refuse_where-none (ends_past offset (length bytes)) BadSize (node_of f.nodes region) n.0 n.1 each.1.1.0) in
          let closed : IsClosedForest f = subst IsClosedForest made.made (IsClosedForest-made made.calls made.fitting) in
          let sized : IsRegion f.nodes n.0 = (every_node_of (IsRegion f.nodes) f.nodes region n.0 n.1 closed.regions).0 in
          loads_into n.0 (holds_bytes region n.0 n.1 sized memory) ends
        where
          is_memory : (n : Node) → not (has_bytes n.kind) ≡ false → has_bytes n.kind ≡ true
          is_memory n e = go (has_bytes n.kind) e
            where
              go : (b : Bool) → not b ≡ false → b ≡ true
              go true e = refl
              go false e = absurd (grind arith)

          within : (n : Node) → nat_lt n.size (offset + length bytes) ≡ false → offset + length bytes ≤ n.size
          within n e = grind (arith, nat_tests, e)

    loads_bytes : IsMade f → (region : RegionId) (offset : ℕ) (bytes : List ℕ) → IsLegalCall w (load region offset bytes)
    loads_bytes made region offset bytes = as_call w (load region offset bytes)
        (alone _ (unless_runs (load_refusal f region offset (length bytes)) (loads region offset bytes) (loads_run made region offset bytes)))

    pub legal_call : (k : Order) → IsFitting w k → IsLegalCall w k
    legal_call (configure c) fits = configures c
    legal_call reap fits = reaps
    legal_call (load region offset bytes) fits = loads_bytes fits region offset bytes
    legal_call (harvest region client) fits = takes_marks region client
    legal_call (notified number) fits = takes_notifier number fits
    legal_call journal fits = as_call w journal (alone [] (record { may = tt; rests = rest }))
    legal_call current fits = as_call w current (alone [] (record { may = tt; rests = rest }))

pub orders_are_legal : (pool_words passes : ℕ) (xs : List PureEntry) → IsLegal pool_words passes xs
    → let w = after_entries (opening pool_words passes) xs in is_at_rest w.writer.desk ≡ true → (k : Order) → IsFitting w k → IsLegalCall w k
orders_are_legal pool_words passes xs l rest =
    let w = after_entries (opening pool_words passes) xs in
    legal_call w (sound pool_words passes xs l) rest pool_words (generations_show_places pool_words passes xs l).backs
