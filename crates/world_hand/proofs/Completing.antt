-- A turn whose entries the pure machine makes one after another, from a world to which a legal history leads, is the call of the
-- pure machine in that world.
use Rattle.std.proofs.Common.{◌≡◌, ℕ, ◌+◌, ◌<◌, ◌≤◌, true, false, List, [], ◌∷◌, ◌++◌, length, append_assoc, refl, sym, ap, subst, ◌∙◌, arith, inl}
use Rattle.std.specs.Prelude.{slice_index}
use Rattle.std.proofs.lemmas.Bool.{eqb-false, and_parts, not-true}
use Rattle.mem_base.specs.declared.access.cells.Place.{Place}
use Rattle.mem_base.specs.declared.access.cells.WordStep.TheVariants.{Take}
use Rattle.mem_base.specs.declared.machine.events.Event.{Event}
use Rattle.mem_base.specs.declared.machine.events.HistoryEntry.{HistoryEntry}
use Rattle.mem_base.specs.lists.Every.{Every, EveryPair}
use Rattle.mem_base.specs.map.Limits.{notifier_count}
use Rattle.mem_base.specs.access.Cells.{Block, cells_in}
use Rattle.mem_base.specs.access.EditionPlaces.{ArePlacesApart}
use Rattle.mem_base.specs.access.PlaceCells.{blocks_at}
use Rattle.mem_base.specs.access.Places.{is_notifiers, notifiers_place, past}
use Rattle.mem_base.specs.views.Listening.{Delivery}
use Rattle.mem_base.specs.machine.Answers.{Answer}
use Rattle.mem_base.specs.machine.Completions.{IsCompleted}
use Rattle.mem_base.specs.machine.Composites.{completed}
use Rattle.mem_base.specs.machine.Desk.{places_of}
use Rattle.mem_base.specs.machine.History.{PureEntry, IsLegalFrom, after_entries, run_events}
use Rattle.mem_base.specs.machine.Orders.{Order, configure, current, events_after, events_before, harvest, journal, load, notified, private_of, reap}
use Rattle.mem_base.specs.machine.SharedHistory.{Shared, IsSharedLegalFrom, after_shared_entries}
use Rattle.mem_base.specs.machine.ShownWorlds.{world_shown}
use Rattle.mem_base.specs.machine.Turns.{entries_of_turn, turn}
use Rattle.mem_base.specs.machine.World.{World, is_at_rest, number_in, opening, reply, world, world_after}
use Rattle.mem_base.proofs.EveryLaws.{every_push, weaker}
use Rattle.map_laws.proofs.PairLaws.{pairs_push}
use Rattle.history_laws.specs.BackedForests.{BacksForest, ShowsOwnPlaces}
use Rattle.history_laws.proofs.Idles.{Idle}
use Rattle.history_laws.proofs.PureAppends.{after_both, legal_both}
use Rattle.history_laws.proofs.ShownLaws.{generations_show_places}
use Rattle.turn_laws.proofs.Coupled.{Coupled, seen}
use Rattle.world_laws.specs.Legal.{IsFitting, IsLegalCall}
use Rattle.world_laws.proofs.Keeping.{Holds, holds}
use Rattle.world_laws.proofs.OrderLaws.{orders_are_legal}
use Rattle.cell_laws.proofs.HandedOn.{IsOurs, after_ours, before_ours}
use Rattle.place_words.proofs.CellLaws.{steps_on_cells}
use Rattle.end_laws.proofs.BlockLaws.{HasItsCells, cells_are, its_cells}
use Rattle.end_laws.proofs.TurnRuns.{Completes, completes}
use Rattle.cell_laws.proofs.Following as following
use Rattle.world_hand.specs.Reached.{IsReached}
use Rattle.world_hand.specs.Run.{HasRun}
use Rattle.world_hand.specs.Taken.{told_before, with_calls}
use Rattle.world_hand.proofs.SameTurns.{SameTurn, legal_replies, same_turn}
use Rattle.world_hand.proofs.TakenLaws.{call_without, entries_before, fitting_before, legal_before}
use Rattle.world_hand.proofs.WithoutLaws.{holds_without, places_without}
use Rattle.turn_laws.proofs.PrivateSteps.{nothing_unfilled}
use Rattle.mem_base.proofs.PlaceLaws.{found_has}

-- places of regions below a pool's end, and the notifiers' after it

module _ (pool_words : ℕ) (places : List Place)
    (inside : Every (λ p. (is_notifiers p.region ≡ false) × (0 < p.words) × (past p ≤ pool_words)) places) where
  pub all_apart : EveryPair ArePlacesApart places → EveryPair ArePlacesApart (places ++ notifiers_place pool_words ∷ [])
  all_apart apart = pairs_push ArePlacesApart places (notifiers_place pool_words)
      (weaker (λ p. (is_notifiers p.region ≡ false) × (0 < p.words) × (past p ≤ pool_words)) (λ p. ArePlacesApart p (notifiers_place pool_words))
      (λ p k. (eqb-false _ _ k.0, inl k.2)) places inside) apart

  pub all_within : Every (λ p. past p ≤ pool_words + notifier_count) (places ++ notifiers_place pool_words ∷ [])
  all_within = every_push (λ p. past p ≤ pool_words + notifier_count) places (notifiers_place pool_words)
      (weaker (λ p. (is_notifiers p.region ≡ false) × (0 < p.words) × (past p ≤ pool_words)) (λ p. past p ≤ pool_words + notifier_count)
      (λ p k. (let l : past p ≤ pool_words = k.2 in omega (arith, l))) places inside)
      (let l : pool_words + notifier_count ≤ pool_words + notifier_count = omega arith in l)

-- what holds of a world to which a legal history leads

pub reached_holds : (w : World) → IsReached w → Holds w
reached_holds w r = holds_without r.taken w (subst Holds r.leads (holds r.pool_words r.passes r.entries r.legal))

pub reached_places : (w : World) (r : IsReached w) → ShowsOwnPlaces r.pool_words w.writer
reached_places w r = places_without r.taken w r.pool_words
    (subst (λ (v : World). ShowsOwnPlaces r.pool_words v.writer) r.leads (generations_show_places r.pool_words r.passes r.entries r.legal))

pub backs : (w : World) → IsReached w → BacksForest w.writer.desk.pool_words w.writer.desk.forest w.writer.desk.places
backs w r = let shown = reached_places w r in
    subst (λ (n : ℕ). BacksForest n w.writer.desk.forest w.writer.desk.places) (sym shown.pool) shown.backs

pub reached_idle : (w : World) → IsReached w → is_at_rest w.writer.desk ≡ true → Idle w.writer
reached_idle w r rest = let h = reached_holds w r in let o = h.kept.coupled.order in let t = and_parts _ _ rest in record {
  due = not-true w.writer.desk.due t.0;
  filled = nothing_unfilled w.writer.desk.unfilled t.1;
  flagged = o.all_flagged ∙ sym o.all_known;
  sound = h.sound;
}

-- a legal history leads on
pub reached_on : (w : World) (ys : List PureEntry) (v : World) → IsReached w → IsLegalFrom w ys → after_entries w ys ≡ v → IsReached v
reached_on w ys v r legal leads = record {
  pool_words = r.pool_words;
  passes = r.passes;
  taken = r.taken;
  entries = r.entries ++ ys;
  legal = legal_both (opening r.pool_words r.passes) r.entries ys r.legal
      (subst (λ (u : World). IsLegalFrom u ys) (sym r.leads) (legal_before r.taken ys w legal));
  leads = after_both (opening r.pool_words r.passes) r.entries ys ∙ ap (λ (u : World). after_entries u ys) r.leads ∙ entries_before r.taken ys w
      ∙ ap (told_before r.taken) leads;
}

-- so it does where the first calls of the journal are taken out
pub reached_rest : (w : World) (first rest : List Delivery) → w.writer.desk.listening.journal ≡ first ++ rest → IsReached w → IsReached (with_calls rest w)
reached_rest w first rest is r = record {
  pool_words = r.pool_words;
  passes = r.passes;
  taken = r.taken ++ first;
  entries = r.entries;
  legal = r.legal;
  leads = r.leads ∙ ap (λ (js : List Delivery). with_calls js w)
      (ap (λ (js : List Delivery). r.taken ++ js) is ∙ sym (append_assoc r.taken first rest));
}

-- each call is legal where nothing is due or unfilled
pub is_legal : (w : World) (k : Order) → IsReached w → is_at_rest w.writer.desk ≡ true → IsFitting w k → IsLegalCall w k
is_legal w k r rest fits =
    let P : World → Type 0 = λ v. is_at_rest v.writer.desk ≡ true → IsFitting v k → IsLegalCall v k in
    call_without r.taken w k
    ((subst P r.leads (λ ok fit. orders_are_legal r.pool_words r.passes r.entries r.legal ok k fit)) rest (fitting_before r.taken w k fits))

-- and leaves the passes

run_passes : (es : List Event) (w : World) → Every IsOurs es → (run_events w es).world.passes ≡ w.passes
run_passes [] w k = refl
run_passes (e ∷ es) w k = run_passes es (world_after w e) k.1 ∙ k.0.passes w.passes (number_in (reply w e))

private_passes : (w : World) (k : Order) → (run_events w (private_of k)).world.passes ≡ w.passes
private_passes w (configure c) = refl
private_passes w reap = refl
private_passes w (load region offset bytes) = refl
private_passes w (harvest region client) = refl
private_passes w (notified number) = refl
private_passes w journal = refl
private_passes w current = refl

call_passes : (w : World) (k : Order) → (completed w k).world.passes ≡ w.passes
call_passes w k =
    let u : World = (run_events w (events_before w.writer k)).world in
    let v : World = (run_events u (private_of k)).world in
    run_passes (events_after v.writer k) v (after_ours v.writer k) ∙ private_passes u k ∙ run_passes (events_before w.writer k) w (before_ours w.writer k)

-- the call is the defined one, and its entries are legal where they stand; a legal history leads to the world after it
pub record CompletesCall (w : World) (k : Order) (answer : Answer) (v : World) : Type 0 where
  pub is : IsCompleted w k answer v
  pub legal : IsLegalFrom w (completed w k).entries
  pub reached : IsReached v

module _ (w : World) (ws : List ℕ) (r : IsReached w) (shown : w.blocks ≡ blocks_at ws (places_of w.writer.desk))
    (wide : length ws ≡ w.writer.desk.pool_words + notifier_count) where
  abbrev places : List Place
  places = places_of w.writer.desk

  pub coupled : Coupled w ws
  coupled =
      let k = (reached_holds w r).kept.coupled in
      let back = backs w r in
      let pool : ℕ = w.writer.desk.pool_words in
      let apart : EveryPair ArePlacesApart places = all_apart pool w.writer.desk.places back.inside back.apart in
      let within : Every (λ p. past p ≤ pool + notifier_count) places = all_within pool w.writer.desk.places back.inside in record {
        backed = record {
          same = λ s p i is near filled. subst (λ (bs : List Block). slice_index (cells_in bs s) i ≡ slice_index ws (p.start + i)) (sym shown)
              (steps_on_cells ws places s p i Take apart is near).0;
          long = k.backed.long;
          inside = λ s p is. let l : past p ≤ pool + notifier_count = found_has (λ q. past q ≤ pool + notifier_count) places s p within is in
              omega (arith, l, wide);
          apart = k.backed.apart;
        };
        held = k.held;
        whole = k.whole;
        low = k.low;
        still = k.still;
        bare = k.bare;
        order = k.order;
      }

  module _ (rest : is_at_rest w.writer.desk ≡ true) (k : Order) (fits : IsFitting w k) where
    call : IsLegalCall w k
    call = is_legal w k r rest fits

    idle : Idle w.writer
    idle = reached_idle w r rest

    abbrev its : List ℕ
    its = following.replies w.writer w ws k coupled idle (reached_holds w r) call

    next : IsSharedLegalFrom (seen w ws) (entries_of_turn (turn w.writer k its))
    next = following.next_legal w.writer w ws k coupled idle (reached_holds w r) call

    done : Completes w ws k its
    done = completes w.writer w ws k its coupled idle next

    abbrev after : World
    after = (completed w k).world

    reached : IsReached after
    reached = reached_on w (completed w k).entries after r call.legal call.ends

    cells : after.blocks ≡ blocks_at done.after (places_of after.writer.desk)
    cells = cells_are reached.pool_words after done.after done.coupled (nothing_unfilled after.writer.desk.unfilled (and_parts _ _ call.rests).1)
        (subst HasItsCells reached.leads (its_cells reached.pool_words reached.passes reached.entries)) (reached_places after reached)

    module _ (ns : List ℕ) (t : Shared) (run : HasRun (seen w ws) (entries_of_turn (turn w.writer k ns)) t) where
      same : SameTurn (turn w.writer k ns) (turn w.writer k its)
      same = same_turn w.writer k ns its (seen w ws) run.replies (legal_replies (entries_of_turn (turn w.writer k its)) (seen w ws) next)

      abbrev shown_then : World
      shown_then = world_shown (turn w.writer k ns).writer t

      its_writer : after.writer ≡ (turn w.writer k ns).writer
      its_writer = sym (same.writer ∙ done.writer)

      its_state : seen after done.after ≡ t
      its_state = sym (run.leads ∙ ap (λ (xs : List HistoryEntry). after_shared_entries (seen w ws) xs) same.entries ∙ done.shows)

      is : after ≡ shown_then
      is = ap (λ (bs : List Block). world after.writer after.passes bs) cells ∙ (λ i. world_shown (its_writer i) (its_state i))

      pub completes_call : CompletesCall w k (turn w.writer k ns).answer shown_then
      completes_call = record {
        is = record {
          world = sym is;
          answer_is = same.answer ∙ done.answer;
          rests = subst (λ (v : World). is_at_rest v.writer.desk ≡ true) is call.rests;
          passes = sym (ap (λ (s : Shared). s.passes) its_state) ∙ call_passes w k;
        };
        legal = call.legal;
        reached = subst IsReached is reached;
      }
