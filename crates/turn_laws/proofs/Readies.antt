-- When an event of the writer is ready, by the writer's part alone, and that each ready one follows.
use Rattle.std.proofs.Common.{◌≡◌, ℕ, ◌<◌, true, ◌||◌, List, [], sym, refl, ap, ◌∙◌, subst, arith, Option, Some, None}
use Rattle.std.specs.Prelude.{not, nat_lt}
use Rattle.std.proofs.lemmas.Bool.{ltb-true, and_parts, and_from}
use Rattle.mem_base.specs.declared.map.ids.RegionId.{RegionId}
use Rattle.mem_base.specs.declared.map.kinds.Client.{Client}
use Rattle.mem_base.specs.declared.access.cells.Place.{Place}
use Rattle.mem_base.specs.declared.access.cells.Cell.{Cell}
use Rattle.mem_base.specs.declared.access.cells.WordStep.{WordStep}
use Rattle.mem_base.specs.declared.machine.events.HistoryEntry.{HistoryEntry}
use Rattle.mem_base.specs.declared.machine.events.Carried.{Carried}
use Rattle.mem_base.specs.declared.machine.events.Event.{Event}
use Rattle.mem_base.specs.declared.machine.events.Event.TheVariants as events
use Rattle.mem_base.specs.declared.machine.events.Hand.TheVariants as hands
use Rattle.mem_base.specs.access.PlacesByRegion.{place_in}
use Rattle.mem_base.specs.access.Places.{mark_words}
use Rattle.mem_base.specs.machine.Desk.{Desk, places_of, at_place, carried_by, is_all_swept}
use Rattle.mem_base.specs.machine.Reaps.{Writer}
use Rattle.mem_base.specs.machine.Publishing.{would_publish}
use Rattle.mem_base.specs.machine.Configs.{private_reply, writer_after}
use Rattle.mem_base.specs.machine.World.{World, possible, is_at_rest}
use Rattle.mem_base.specs.machine.History.{PureEntry, pure_entry, after_entry}
use Rattle.mem_base.specs.machine.SharedHistory as running
use Rattle.mem_base.specs.machine.JoinedHistory.{read}
use Rattle.turn_laws.proofs.Backed.{waits}
use Rattle.turn_laws.proofs.Coupled.{Coupled, Follows, seen}
use Rattle.turn_laws.proofs.WriterSteps as steps
use Rattle.turn_laws.proofs.FillSteps.{fills}
use Rattle.turn_laws.proofs.ReapSteps.{reaps}
use Rattle.turn_laws.proofs.PrivateSteps.{configures}
use Rattle.history_laws.proofs.Idles.{IsFresh}
use Rattle.turn_laws.proofs.Joining.{Keeps, KeepsPrivate}

abbrev pub Readied : Desk → Event → Type 0
Readied d (events.Sweep v) = Unit {0}
Readied d (events.Place v) = d.due ≡ true
Readied d events.Publish = d.due ≡ true
Readied d (events.Word hands.Writer c step) = d.unfilled ≡ []
Readied d (events.Harvest r client index) = (d.unfilled ≡ []) × ((p : Place) → place_in (places_of d) r ≡ Some p → index < mark_words p.bytes)
Readied d (events.Fill c) = waits d.unfilled c.region c.word ≡ true
Readied d e = ⊥

pub record Ready (h : Writer) (y : HistoryEntry) : Type 0 where
  pub carries : y.carried ≡ carried_by h.desk y.event
  pub event : Readied h.desk y.event

-- when a private event is due
abbrev pub DueEvent : Writer → Event → Type 0
DueEvent h (events.Config c) = (is_at_rest h.desk ≡ true) × ((not (would_publish h.desk c) || is_all_swept h.desk) ≡ true) × IsFresh h.desk c
DueEvent h events.Reap = (is_at_rest h.desk ≡ true) × (is_all_swept h.desk ≡ true)
DueEvent h e = ⊥

pub record Due (h : Writer) (x : PureEntry) : Type 0 where
  pub tells : x.reply ≡ private_reply h x.event
  pub event : DueEvent h x.event

-- a step on a cell whose region has no place is not possible
writes_there : (w : World) (words : List ℕ) → Coupled w words → w.writer.desk.unfilled ≡ [] → (c : Cell) (step : WordStep) → (o : Option Place)
    → place_in (places_of w.writer.desk) c.region ≡ o
    → running.shared_possible (seen w words) (events.Word hands.Writer c step) (at_place o) ≡ true → Follows w words (events.Word hands.Writer c step)
    (at_place o)
writes_there w words k none c step None here may = absurd (grind arith)
writes_there w words k none c step (Some p) here may = let b : (nat_lt c.word p.words) ≡ true = (and_parts _ _ (and_parts _ _ may).1).0 in
    steps.writes w words k none c step p here (ltb-true _ _ b)

harvests_there : (w : World) (words : List ℕ) → Coupled w words → w.writer.desk.unfilled ≡ [] → (r : RegionId) (client : Client) (index : ℕ)
    → ((p : Place) → place_in (places_of w.writer.desk) r ≡ Some p → index < mark_words p.bytes) → (o : Option Place)
    → place_in (places_of w.writer.desk) r ≡ o
    → running.shared_possible (seen w words) (events.Harvest r client index) (at_place o) ≡ true → Follows w words (events.Harvest r client index) (at_place o)
harvests_there w words k none r client index inside None here may = absurd (grind arith)
harvests_there w words k none r client index inside (Some p) here may = steps.harvests w words k none r client index p here (inside p here)
    (ltb-true _ _ (and_parts _ _ (and_parts _ _ may).1).0)

fills_there : (w : World) (words : List ℕ) → Coupled w words → (c : Cell) → waits w.writer.desk.unfilled c.region c.word ≡ true → (o : Option Place)
    → place_in (places_of w.writer.desk) c.region ≡ o
    → running.shared_possible (seen w words) (events.Fill c) (at_place o) ≡ true → Follows w words (events.Fill c) (at_place o)
fills_there w words k c waiting None here may = absurd (grind arith)
fills_there w words k c waiting (Some p) here may = let b : (nat_lt c.word p.words) ≡ true = (and_parts _ _ (and_parts _ _ may).1).0 in
    fills w words k c p waiting here (ltb-true _ _ b)

follows : (w : World) (words : List ℕ) → Coupled w words → (e : Event) → Readied w.writer.desk e → running.shared_possible (seen w words) e
    (carried_by w.writer.desk e) ≡ true → Follows w words e (carried_by w.writer.desk e)
follows w words k (events.Sweep v) r may = steps.sweeps w words k v may
follows w words k (events.Place v) r may = steps.places w words k r v may
follows w words k events.Publish r may = steps.publishes w words k r may
follows w words k (events.Word hands.Writer c step) r may = writes_there w words k r c step (place_in (places_of w.writer.desk) c.region) refl may
follows w words k (events.Harvest region client index) r may = harvests_there w words k r.0 region client index r.1
    (place_in (places_of w.writer.desk) region) refl may
follows w words k (events.Fill c) r may = fills_there w words k c r (place_in (places_of w.writer.desk) c.region) refl may
follows w words k e r may = absurd r

-- the writer's part goes by the number that the entry tells
same_writer : (w : World) (e : Event) (n : ℕ) → Readied w.writer.desk e
    → (after_entry w (read (record { event = e; carried = carried_by w.writer.desk e; reply = n }))).writer ≡ writer_after w.writer e
    (carried_by w.writer.desk e) n
same_writer w (events.Sweep v) n r = refl
same_writer w (events.Place v) n r = refl
same_writer w events.Publish n r = refl
same_writer w (events.Word hands.Writer c step) n r = refl
same_writer w (events.Harvest region client index) n r = refl
same_writer w (events.Fill c) n r = refl
same_writer w e n r = absurd r

pub steps_keep : (w : World) (words : List ℕ) → Coupled w words → (y : HistoryEntry) → Ready w.writer y → running.shared_possible
    (seen w words) y.event y.carried ≡ true → y.reply ≡ running.shared_reply (seen w words) y.event y.carried → Keeps w words y
steps_keep w words k y r may is = record {
  follows = subst (λ (x : Carried). Follows w words y.event x) (sym r.carries)
      (follows w words k y.event r.event (subst (λ (x : Carried). running.shared_possible (seen w words) y.event x ≡ true) r.carries may));
  writer = same_writer w y.event y.reply r.event ∙ ap (λ (x : Carried). writer_after w.writer y.event x y.reply) (sym r.carries);
}

private_keeps : (w : World) (words : List ℕ) → Coupled w words → (e : Event) → DueEvent w.writer e
    → KeepsPrivate w words (pure_entry e (private_reply w.writer e))
private_keeps w words k (events.Config c) due =
    let may : possible w (events.Config c) ≡ true = and_from _ _ due.0 due.1 in record {
      may = may;
      tells = refl;
      coupled = configures w words c k may due.2;
      writer = refl;
      shows = refl;
    }
private_keeps w words k events.Reap due =
    let may : possible w events.Reap ≡ true = and_from _ _ due.0 due.1 in record {
      may = may;
      tells = refl;
      coupled = reaps w words k may;
      writer = refl;
      shows = refl;
    }
private_keeps w words k e due = absurd due

pub privates_keep : (w : World) (words : List ℕ) → Coupled w words → (x : PureEntry) → Due w.writer x → KeepsPrivate w words x
privates_keep w words k x due = subst (λ r. KeepsPrivate w words (pure_entry x.event r)) (sym due.tells) (private_keeps w words k x.event due.event)
