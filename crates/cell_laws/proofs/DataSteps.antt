-- The writer of turns steps on data of regions that have memory, and on notifiers.
use Rattle.std.proofs.Common.{◌≡◌, ◌⊎◌, inl, inr, ℕ, ◌+◌, ◌<◌, ◌≤◌, Bool, true, false, List, [], ◌∷◌, map, length, refl, sym, subst, ◌∙◌, arith}
use Rattle.std.proofs.Common.{if◌then◌else◌, Option, Some, None}
use Rattle.std.specs.Prelude.{not, drop, nat_lt, ◌/◌, ◌%◌}
use Rattle.std.specs.List.{range_with_len}
use Rattle.std.proofs.lemmas.Bool.Decides.{nat_tests}
use Rattle.mem_base.specs.declared.map.ids.RegionId.{RegionId}
use Rattle.mem_base.specs.declared.map.forests.Node.{Node}
use Rattle.mem_base.specs.declared.map.forests.Forest.{Forest}
use Rattle.mem_base.specs.declared.map.refusals.Refusal.{Refusal}
use Rattle.mem_base.specs.declared.map.refusals.Refusal.TheVariants.{WrongKind, BadSize}
use Rattle.mem_base.specs.declared.access.cells.Cell.{Cell}
use Rattle.mem_base.specs.declared.machine.events.Event.{Event}
use Rattle.mem_base.specs.declared.machine.events.Event.TheVariants as events
use Rattle.mem_base.specs.declared.machine.events.Hand.TheVariants as hands
use Rattle.mem_base.specs.declared.machine.events.HistoryEntry.{HistoryEntry}
use Rattle.mem_base.specs.declared.machine.events.Carried.{Carried}
use Rattle.mem_base.specs.lists.Every.{Every}
use Rattle.mem_base.specs.lists.Runs.{is_in_unit, touched}
use Rattle.mem_base.specs.map.Limits.{page_size, word_size}
use Rattle.mem_base.specs.map.Kinds.{has_bytes}
use Rattle.mem_base.specs.map.Region.{node_of}
use Rattle.mem_base.specs.map.Forest.{IsMade, IsRegion, IsClosedForest}
use Rattle.mem_base.specs.map.Refusals.{refuse_where, unknown_region, wrong_kind}
use Rattle.mem_base.specs.access.PlacesByRegion.{place_in}
use Rattle.mem_base.specs.access.Cells.{cell}
use Rattle.mem_base.specs.access.MemoryAccess.{replaces}
use Rattle.mem_base.specs.machine.Desk.{carried_by, places_of}
use Rattle.mem_base.specs.machine.Generations.{Generations}
use Rattle.mem_base.specs.machine.Publishing.{would_publish}
use Rattle.mem_base.specs.machine.Reaps.{Writer}
use Rattle.mem_base.specs.machine.Configs.{writer_after}
use Rattle.mem_base.specs.machine.Answers.{first_or_zero}
use Rattle.mem_base.specs.machine.Orders.{Order, configure, reap, load, harvest, notified, journal, current, pass_ids, sweeps, publishes, events_before}
use Rattle.mem_base.specs.machine.Orders.{private_of, events_after, ends_past, unless, loads, harvests, mark_words_at, load_refusal, harvest_refusal}
use Rattle.mem_base.specs.machine.Turns.{Answered, after_private, played, turn}
use Rattle.mem_base.proofs.EveryLaws.{every_map, weaker, every_append, every_one}
use Rattle.mem_base.proofs.ForestLaws.{every_node_of}
use Rattle.map_laws.proofs.RefusalLaws.{each_none, known_node, refuse_where-none}
use Rattle.map_laws.proofs.SizeLaws.{size_whole}
use Rattle.map_laws.proofs.SoundCallLaws.{IsClosedForest-made}
use Rattle.history_laws.proofs.Idles.{Idle}
use Rattle.turn_laws.proofs.Readies.{Ready, Due}
use Rattle.turn_laws.proofs.TurnGoes.{AllDue, AllReady, AllTurns, TurnReady}
use Rattle.turn_laws.proofs.Turning.{turn_facts}
use Rattle.world_laws.proofs.Lists.{starts_below}
use Rattle.run_laws.proofs.MadeLaws.{configured_left}
use Rattle.cell_laws.specs.TurnCells.{FitsOrder, HasFittingCall}

-- the word is one of the data of a region that has memory
pub record IsOfData (f : Forest) (c : Cell) : Type 0 where
  pub node : Node
  pub there : node_of f.nodes c.region ≡ Some node
  pub memory : has_bytes node.kind ≡ true
  pub inside : c.word < node.size / 8

abbrev pub StepsOnData : Forest → Event → Type 0
StepsOnData f (events.Word hands.Writer c step) = (c.region.0 ≡ 4294967295) ⊎ IsOfData f c
StepsOnData f e = Unit {0}

abbrev pub OnData : Writer → HistoryEntry → Type 0
OnData h y = StepsOnData h.desk.forest y.event

abbrev pub ReadyOnData : Writer → HistoryEntry → Type 0
ReadyOnData h y = Ready h y × OnData h y

-- an event of the writer that leaves the forest
record IsGood (f : Forest) (e : Event) : Type 0 where
  steps : StepsOnData f e
  keeps : (h : Writer) (x : Carried) (n : ℕ) → (writer_after h e x n).desk.forest ≡ h.desk.forest

abbrev AllGood : Forest → List Event → Type 0
AllGood f es = Every (IsGood f) es

-- loads

module _ (f : Forest) (made : IsMade f) (region : RegionId) (offset : ℕ) (bytes : List ℕ) where
  loads_good : load_refusal f region offset (length bytes) ≡ None → AllGood f (loads region offset bytes)
  loads_good none =
      let each = each_none (unknown_region f region ∷ wrong_kind has_bytes f region
      ∷ refuse_where (ends_past offset (length bytes)) BadSize (node_of f.nodes region) ∷ []) none in
      let n = known_node f region each.0 in
      let memory = is_memory n.0 (refuse_where-none (λ n. not (has_bytes n.kind)) (WrongKind region) (node_of f.nodes region) n.0 n.1 each.1.0) in
      let ends = within n.0 (refuse_where-none (ends_past offset (length bytes)) BadSize (node_of f.nodes region) n.0 n.1 each.1.1.0) in
      let closed : IsClosedForest f = subst IsClosedForest made.made (IsClosedForest-made made.calls made.fitting) in
      let sized : IsRegion f.nodes n.0 = (every_node_of (IsRegion f.nodes) f.nodes region n.0 n.1 closed.regions).0 in
      let pages = (size_whole n.0.kind n.0.size sized.sized memory).1 in
      every_map (IsGood f) (λ w. events.Word hands.Writer (cell region (w.start / word_size)) (replaces offset bytes w))
      (touched word_size offset (length bytes))
      (weaker (λ w. w.start < offset + length bytes) _
      (λ w l. record {
        steps = inr (record { node = n.0; there = n.1; memory = memory; inside = inside w.start n.0.size (omega (arith, l, ends)) pages });
        keeps = λ h x m. refl;
      }) (touched word_size offset (length bytes)) (starts_below (is_in_unit word_size) offset (length bytes)))
    where
      is_memory : (n : Node) → not (has_bytes n.kind) ≡ false → has_bytes n.kind ≡ true
      is_memory n e = go (has_bytes n.kind) e
        where
          go : (b : Bool) → not b ≡ false → b ≡ true
          go true e = refl
          go false e = absurd (grind arith)

      within : (n : Node) → nat_lt n.size (offset + length bytes) ≡ false → offset + length bytes ≤ n.size
      within n e = grind (arith, nat_tests, e)

      inside : (start size : ℕ) → start < size → size % page_size ≡ 0 → start / 8 < size / 8
      inside start size l pages = omega (arith, l, pages)

  unless_good : (o : Option Refusal) → load_refusal f region offset (length bytes) ≡ o → AllGood f (unless o (loads region offset bytes))
  unless_good None e = loads_good e
  unless_good (Some why) e = tt

-- all events of an order

plainly : (f : Forest) {A : Type 0} (g : A → Event) (xs : List A) → ((x : A) → IsGood f (g x)) → AllGood f (map g xs)
plainly f g xs h = every_map (IsGood f) g xs (every_one (λ x. IsGood f (g x)) xs h)

sweeps_good : (f : Forest) (g : Generations) → AllGood f (sweeps g)
sweeps_good f g = plainly f (λ pass. events.Sweep pass) (pass_ids g) (λ pass. record { steps = tt; keeps = λ h x n. refl })

before_good : (h : Writer) (k : Order) → AllGood h.desk.forest (events_before h k)
before_good h (configure c) = go (would_publish h.desk c)
  where
    go : (b : Bool) → AllGood h.desk.forest (if b then sweeps h.generations else [])
    go true = sweeps_good h.desk.forest h.generations
    go false = tt
before_good h reap = sweeps_good h.desk.forest h.generations
before_good h (load region offset bytes) = tt
before_good h (harvest region client) = tt
before_good h (notified number) = tt
before_good h journal = tt
before_good h current = tt

after_good : (m : Writer) (k : Order) → IsMade m.desk.forest → AllGood m.desk.forest (events_after m k)
after_good m (configure c) made = go m.desk.due
  where
    go : (b : Bool) → AllGood m.desk.forest (if b then publishes m.generations else map (λ c. events.Fill c) m.desk.unfilled)
    go true = every_append (IsGood m.desk.forest) (map (λ pass. events.Place pass) (pass_ids m.generations)) (events.Publish ∷ [])
        (plainly m.desk.forest (λ pass. events.Place pass) (pass_ids m.generations) (λ pass. record { steps = tt; keeps = λ h x n. refl }))
        (record { steps = tt; keeps = λ h x n. refl }, tt)
    go false = plainly m.desk.forest (λ c. events.Fill c) m.desk.unfilled (λ c. record { steps = tt; keeps = λ h x n. refl })
after_good m reap made = tt
after_good m (load region offset bytes) made = unless_good m.desk.forest made region offset bytes (load_refusal m.desk.forest region offset (length bytes)) refl
after_good m (harvest region client) made = go (harvest_refusal m.desk.forest region)
  where
    go : (o : Option Refusal) → AllGood m.desk.forest (unless o (harvests m.desk region client))
    go None = plainly m.desk.forest (λ index. events.Harvest region client index) (range_with_len 0 (mark_words_at (place_in (places_of m.desk) region)))
        (λ index. record { steps = tt; keeps = λ h x n. refl })
    go (Some why) = tt
after_good m (notified number) made = (record { steps = inl refl; keeps = λ h x n. refl }, tt)
after_good m journal made = tt
after_good m current made = tt

-- ready on data, one after another

module _ (end : Writer) where
  on_data : (f : Forest) (es : List Event) (h : Writer) (ns : List ℕ) → h.desk.forest ≡ f → AllGood f es → AllReady OnData Due end h es ns
  on_data f [] h ns e k = tt
  on_data f (x ∷ es) h ns e k = (
    subst (λ (g : Forest). StepsOnData g x) (sym e) k.0.steps,
    on_data f es (writer_after h x (carried_by h.desk x) (first_or_zero ns)) (drop 1 ns) (k.0.keeps h (carried_by h.desk x) (first_or_zero ns) ∙ e) k.1,
  )

  both_ready : (es : List Event) (h : Writer) (ns : List ℕ) → AllReady Ready Due end h es ns → AllReady OnData Due end h es ns
      → AllReady ReadyOnData Due end h es ns
  both_ready [] h ns a b = tt
  both_ready (x ∷ es) h ns a b =
      ((a.0, b.0), both_ready es (writer_after h x (carried_by h.desk x) (first_or_zero ns)) (drop 1 ns) a.1 b.1)

  same_due : (es : List Event) (h : Writer) → AllDue Ready Due end h es → AllDue ReadyOnData Due end h es
  same_due [] h a = tt
  same_due (e ∷ es) h a = (a.0, same_due es (writer_after h e (carried_by h.desk e) 0) a.1)

  played_forest : (f : Forest) (es : List Event) (h : Writer) (ns : List ℕ) → AllGood f es → (played h es ns).writer.desk.forest ≡ h.desk.forest
  played_forest f [] h ns k = refl
  played_forest f (x ∷ es) h ns k =
      played_forest f es (writer_after h x (carried_by h.desk x) (first_or_zero ns)) (drop 1 ns) k.1 ∙ k.0.keeps h (carried_by h.desk x) (first_or_zero ns)

  private_made : (h : Writer) (k : Order) → FitsOrder k → IsMade h.desk.forest → IsMade (after_private h (private_of k)).desk.forest
  private_made h (configure c) fits made = configured_left h.generations h.desk made c fits
  private_made h reap fits made = made
  private_made h (load region offset bytes) fits made = made
  private_made h (harvest region client) fits made = made
  private_made h (notified number) fits made = made
  private_made h journal fits made = made
  private_made h current fits made = made

  module _ (h : Writer) (k : Order) (ns : List ℕ) (idle : Idle h) (fits : FitsOrder k) (made : IsMade h.desk.forest) where
    abbrev b : Writer
    b = (played h (events_before h k) ns).writer

    abbrev m : Writer
    m = after_private b (private_of k)

    middle_made : IsMade m.desk.forest
    middle_made = private_made b k fits (subst IsMade (sym (played_forest h.desk.forest (events_before h k) h ns (before_good h k))) made)

    ready_on_data : TurnReady ReadyOnData Due end h k ns
    ready_on_data = let t = (turn_facts end h k ns idle).ready in record {
      before = both_ready (events_before h k) h ns t.before (on_data h.desk.forest (events_before h k) h ns refl (before_good h k));
      private = same_due (private_of k) b t.private;
      after = both_ready (events_after m k) m (played h (events_before h k) ns).replies t.after
          (on_data m.desk.forest (events_after m k) m (played h (events_before h k) ns).replies refl (after_good m k middle_made));
    }

    turn_made : IsMade (turn h k ns).writer.desk.forest
    turn_made = subst IsMade (sym (played_forest m.desk.forest (events_after m k) m (played h (events_before h k) ns).replies (after_good m k middle_made)))
        middle_made

  pub turns_on_data : (os : List Answered) (h : Writer) → Idle h → Every HasFittingCall os → IsMade h.desk.forest → AllTurns ReadyOnData Due end h os
  turns_on_data [] h i fits made = tt
  turns_on_data (o ∷ os) h i fits made = (
    ready_on_data h o.0 o.1 i fits.0 made,
    turns_on_data os (turn h o.0 o.1).writer (turn_facts end h o.0 o.1 i).idle fits.1 (turn_made h o.0 o.1 i fits.0 made),
  )
