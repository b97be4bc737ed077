-- Nothing but the answer of a journal looks at the journal: the machine goes on alike, whichever calls stand in it before the others.
use Rattle.std.proofs.Common.{◌≡◌, ℕ, ◌+◌, Bool, ◌&&◌, if◌then◌else◌, List, [], ◌∷◌, ◌++◌, refl, sym, ap, subst, ◌∙◌}
use Rattle.std.proofs.Common.{Option, Some, None}
use Rattle.std.specs.Prelude.{◌||◌, not, Result, Ok}
use Rattle.mem_base.specs.declared.map.ids.RegionId.{RegionId}
use Rattle.mem_base.specs.declared.map.refusals.Refusal.{Refusal}
use Rattle.mem_base.specs.declared.machine.events.Event.{Event}
use Rattle.mem_base.specs.declared.machine.events.Event.TheVariants as events
use Rattle.mem_base.specs.declared.machine.events.Hand.TheVariants as hands
use Rattle.mem_base.specs.declared.machine.events.Reply.{Reply}
use Rattle.mem_base.specs.declared.machine.events.Reply.TheVariants.{Old}
use Rattle.mem_base.specs.access.Cells.{Touch}
use Rattle.mem_base.specs.views.Listening.{Delivery}
use Rattle.mem_base.specs.machine.Composites.{completed}
use Rattle.mem_base.specs.machine.Configs.{answers}
use Rattle.mem_base.specs.machine.Desk.{carried_by, is_all_swept, unswept}
use Rattle.mem_base.specs.machine.Generations.{generations_after}
use Rattle.mem_base.specs.machine.History.{PureEntry, Ran, IsLegalFrom, after_entries, after_entry, pure_entry, ran, run_events}
use Rattle.mem_base.specs.machine.Orders.{Order, configure, current, events_after, events_before, harvest, journal, load, notified, private_of, reap, sweeps}
use Rattle.mem_base.specs.machine.Passes.{passes_after}
use Rattle.mem_base.specs.machine.Publishing.{Settled}
use Rattle.mem_base.specs.machine.Reaps.{writer}
use Rattle.mem_base.specs.machine.World.{World, after_telling, blocks_for, is_at_rest, number_in, old_at, possible, reply, touch_at, world, world_after}
use Rattle.history_laws.proofs.PureAppends.{ends_then, run_ends}
use Rattle.world_laws.specs.Legal.{IsFitting, IsLegalCall}
use Rattle.writer_run.proofs.TakenLaws.{configured_before, would_before}
use Rattle.world_hand.specs.Taken.{told_before}

module _ (taken : List Delivery) where
  -- every event goes on alike

  abbrev before : World → World
  before w = told_before taken w

  possible_before : (w : World) (e : Event) → possible (before w) e ≡ possible w e
  possible_before w (events.Word (hands.Pass pass) c step) = refl
  possible_before w (events.Config k) =
      ap (λ (b : Bool). is_at_rest w.writer.desk && (not b || is_all_swept w.writer.desk)) (would_before taken w.writer.desk k)
  possible_before w _ = refl

  old_before : (w : World) (region : RegionId) (o : Option Touch) → old_at (before w) (Some region) o ≡ old_at w (Some region) o
  old_before w region None = refl
  old_before w region (Some t) = refl

  reply_before : (w : World) (e : Event) → reply (before w) e ≡ reply w e
  reply_before w (events.Word hand c step) = ap (λ (n : ℕ). Ok (Old n)) (old_before w c.region (touch_at w (events.Word hand c step) (Some c.region)))
  reply_before w (events.Harvest region client index) =
      ap (λ (n : ℕ). Ok (Old n)) (old_before w region (touch_at w (events.Harvest region client index) (Some region)))
  reply_before w (events.Config k) = ap (λ (s : Settled). answers k s.answer) (configured_before taken w.writer.generations w.writer.desk k)
  reply_before w _ = refl

  telling_before : (w : World) (e : Event) (n : ℕ) → after_telling (before w) e n ≡ before (after_telling w e n)
  telling_before w (events.Config k) n =
      ap (λ (s : Settled). world
      (writer (unswept s.desk) (generations_after w.writer.generations (events.Config k) (carried_by w.writer.desk (events.Config k)) n))
      (passes_after w.passes (events.Config k) n) (blocks_for w.blocks (unswept s.desk)))
      (configured_before taken w.writer.generations w.writer.desk k)
  telling_before w _ n = refl

  -- and every history

  pub entries_before : (xs : List PureEntry) (w : World) → after_entries (before w) xs ≡ before (after_entries w xs)
  entries_before [] w = refl
  entries_before (x ∷ xs) w = ap (λ (v : World). after_entries v xs) (telling_before w x.event (number_in x.reply)) ∙ entries_before xs (after_entry w x)

  pub legal_before : (xs : List PureEntry) (w : World) → IsLegalFrom w xs → IsLegalFrom (before w) xs
  legal_before [] w l = tt
  legal_before (x ∷ xs) w l = (
    possible_before w x.event ∙ l.0,
    l.1 ∙ sym (reply_before w x.event),
    subst (λ (v : World). IsLegalFrom v xs) (sym (telling_before w x.event (number_in x.reply))) (legal_before xs (after_entry w x) l.2),
  )

  legal_without : (xs : List PureEntry) (w : World) → IsLegalFrom (before w) xs → IsLegalFrom w xs
  legal_without [] w l = tt
  legal_without (x ∷ xs) w l = (
    sym (possible_before w x.event) ∙ l.0,
    l.1 ∙ reply_before w x.event,
    legal_without xs (after_entry w x) (subst (λ (v : World). IsLegalFrom v xs) (telling_before w x.event (number_in x.reply)) l.2),
  )

  -- a run of events makes the same entries

  abbrev ran_before : Ran → Ran
  ran_before r = ran (before r.world) r.entries

  runs_before : (es : List Event) (w : World) → run_events (before w) es ≡ ran_before (run_events w es)
  runs_before [] w = refl
  runs_before (e ∷ es) w =
      let leads : world_after (before w) e ≡ before (world_after w e) =
      ap (λ (r : Result Reply Refusal). after_telling (before w) e (number_in r)) (reply_before w e) ∙ telling_before w e (number_in (reply w e)) in
      let rest : run_events (world_after (before w) e) es ≡ ran_before (run_events (world_after w e) es) =
      ap (λ (v : World). run_events v es) leads ∙ runs_before es (world_after w e) in
      λ i. ran (rest i).world (pure_entry e (reply_before w e i) ∷ (rest i).entries)

  first_before : (w : World) (k : Order) → events_before (before w).writer k ≡ events_before w.writer k
  first_before w (configure c) = ap (λ (b : Bool). if b then sweeps w.writer.generations else []) (would_before taken w.writer.desk c)
  first_before w reap = refl
  first_before w (load region offset bytes) = refl
  first_before w (harvest region client) = refl
  first_before w (notified number) = refl
  first_before w journal = refl
  first_before w current = refl

  later_before : (w : World) (k : Order) → events_after (before w).writer k ≡ events_after w.writer k
  later_before w (configure c) = refl
  later_before w reap = refl
  later_before w (load region offset bytes) = refl
  later_before w (harvest region client) = refl
  later_before w (notified number) = refl
  later_before w journal = refl
  later_before w current = refl

  pub fitting_before : (w : World) (k : Order) → IsFitting w k → IsFitting (before w) k
  fitting_before w (configure c) fits = fits
  fitting_before w reap fits = fits
  fitting_before w (load region offset bytes) fits = fits
  fitting_before w (harvest region client) fits = fits
  fitting_before w (notified number) fits = fits
  fitting_before w journal fits = fits
  fitting_before w current fits = fits

  -- and a call of the writer

  -- the world after it and its entries
  abbrev call_of : World → Order → Ran
  call_of w k = ran (completed w k).world (completed w k).entries

  -- what follows some entries with which it began, and then those of its private event
  abbrev later_then : Order → List PureEntry → Ran → Ran
  later_then k xs p = let l = run_events p.world (events_after p.world.writer k) in ran l.world (xs ++ (p.entries ++ l.entries))

  completed_before : (w : World) (k : Order) → call_of (before w) k ≡ ran_before (call_of w k)
  completed_before w k =
      let u : Ran = run_events w (events_before w.writer k) in
      let p : Ran = run_events u.world (private_of k) in
      let one : run_events (before w) (events_before (before w).writer k) ≡ ran_before u =
      ap (λ (es : List Event). run_events (before w) es) (first_before w k) ∙ runs_before (events_before w.writer k) w in
      let two : run_events (before u.world) (private_of k) ≡ ran_before p = runs_before (private_of k) u.world in
      let three : run_events (before p.world) (events_after (before p.world).writer k) ≡ ran_before (run_events p.world (events_after p.world.writer k)) =
      ap (λ (es : List Event). run_events (before p.world) es) (later_before p.world k) ∙ runs_before (events_after p.world.writer k) p.world in
      ap (λ (r : Ran). later_then k r.entries (run_events r.world (private_of k))) one
      ∙ ap (λ (r : Ran). later_then k u.entries r) two
      ∙ ap (λ (r : Ran). ran r.world (u.entries ++ (p.entries ++ r.entries))) three

  -- which is legal without them where it is with them
  pub call_without : (w : World) (k : Order) → IsLegalCall (before w) k → IsLegalCall w k
  call_without w k c =
      let es : List Event = events_before w.writer k in
      let u : World = (run_events w es).world in
      let v : World = (run_events u (private_of k)).world in record {
        legal = legal_without (completed w k).entries w
            (subst (λ (xs : List PureEntry). IsLegalFrom (before w) xs) (ap (λ (r : Ran). r.entries) (completed_before w k)) c.legal);
        ends = ends_then es w _ ∙ ends_then (private_of k) u _ ∙ run_ends (events_after v.writer k) v;
        rests = sym (ap (λ (r : Ran). is_at_rest r.world.writer.desk) (completed_before w k)) ∙ c.rests;
      }
