-- Rows of events of one sort: what they make of the writer's part, that they are ready, and which forests they carry.
use Rattle.std.proofs.Common.{◌≡◌, ℕ, zero, suc, ◌+◌, ◌<◌, ◌≤◌, eq-eqb, Bool, true, false, List, [], ◌∷◌, ◌++◌, length, map, drop, get_or}
use Rattle.std.proofs.Common.{set, length-set, get_or-set_same, get_or-set_other, append_assoc, sym, refl, ap, ◌∙◌, subst, arith, Option}
use Rattle.std.proofs.Common.{Some, None}
use Rattle.std.specs.Prelude.{filter, not}
use Rattle.std.specs.List.{list_all}
use mathlib.Core.Logic.{dite}
use native.Mathlib.Decide.{ℕ_discrete}
use Rattle.mem_base.specs.map.PassIds.{PassId}
use Rattle.mem_base.specs.declared.map.forests.Forest.{Forest}
use Rattle.mem_base.specs.declared.access.cells.Place.{Place}
use Rattle.mem_base.specs.declared.access.cells.Cell.{Cell}
use Rattle.mem_base.specs.declared.machine.events.Carried.{Carried}
use Rattle.mem_base.specs.declared.machine.events.HistoryEntry.{HistoryEntry}
use Rattle.mem_base.specs.declared.machine.events.Event.{Event}
use Rattle.mem_base.specs.declared.machine.events.Event.TheVariants as events
use Rattle.mem_base.specs.lists.Every.{Every}
use Rattle.mem_base.specs.access.Cells.{is_same_cell}
use Rattle.mem_base.specs.machine.Desk.{Desk, at_place, carried_by}
use Rattle.mem_base.specs.machine.Reaps.{Writer}
use Rattle.mem_base.specs.machine.Configs.{writer_after}
use Rattle.mem_base.specs.machine.Answers.{first_or_zero}
use Rattle.mem_base.specs.machine.Turns.{played}
use Rattle.mem_base.specs.machine.JoinedHistory.{forest_carried, published_forests}
use Rattle.history_laws.proofs.ReleasedLaws.{ids}
use Rattle.view_laws.proofs.RangeLaws.{keeps_all}
use Rattle.turn_laws.proofs.Backed.{waits}
use Rattle.turn_laws.proofs.Readies.{Ready, Readied, Due}
use Rattle.turn_laws.proofs.TurnGoes.{AllReady}
use Rattle.history_laws.proofs.Outcomes.{Distinct}
use Rattle.std.proofs.lemmas.Bool.{and_from}
use Rattle.mem_base.proofs.ListLaws.{length_map}

abbrev pub with_swept : List Bool → Desk → Desk
with_swept bs d = record d { swept = bs }

abbrev pub with_due : Bool → Desk → Desk
with_due b d = record d { due = b }

abbrev pub with_unfilled : List Cell → Desk → Desk
with_unfilled cs d = record d { unfilled = cs }

abbrev pub sweeps_of : List PassId → List Event
sweeps_of vs = map (λ v. events.Sweep v) vs

abbrev pub publishes_of : List PassId → List Event
publishes_of vs = map (λ v. events.Place v) vs ++ events.Publish ∷ []

abbrev pub fills_of : List Cell → List Event
fills_of cs = map (λ c. events.Fill c) cs

-- the writer's part after a row, and the forests that it carries
abbrev pub writer_played : Writer → List Event → List ℕ → Writer
writer_played h es ns = (played h es ns).writer

abbrev pub forests_in : Writer → List Event → List ℕ → List Forest
forests_in h es ns = published_forests (played h es ns).entries

pub forests_both : (xs ys : List HistoryEntry) → published_forests (xs ++ ys) ≡ published_forests xs ++ published_forests ys
forests_both [] ys = refl
forests_both (x ∷ xs) ys = ap (λ (fs : List Forest). forest_carried x.carried ++ fs) (forests_both xs ys)
    ∙ sym (append_assoc (forest_carried x.carried) (published_forests xs) (published_forests ys))

pub no_forest_at : (o : Option Place) → forest_carried (at_place o) ≡ []
no_forest_at None = refl
no_forest_at (Some p) = refl

-- sweeps

pub flags_after : List PassId → List Bool → List Bool
flags_after [] bs = bs
flags_after (v ∷ vs) bs = flags_after vs (set bs v.0 true)

pub swept_desk : (vs : List PassId) (h : Writer) (ns : List ℕ) → (writer_played h (sweeps_of vs) ns).desk ≡ with_swept (flags_after vs h.desk.swept) h.desk
unfolding flags_after
swept_desk [] h ns = refl
swept_desk (v ∷ vs) h ns = swept_desk vs (writer_after h (events.Sweep v) (carried_by h.desk (events.Sweep v)) (first_or_zero ns)) (drop 1 ns)

pub swept_passes : (vs : List PassId) (h : Writer) (ns : List ℕ) → length (writer_played h (sweeps_of vs) ns).generations.passes ≡ length h.generations.passes
swept_passes [] h ns = refl
swept_passes (v ∷ vs) h ns = swept_passes vs (writer_after h (events.Sweep v) (carried_by h.desk (events.Sweep v)) (first_or_zero ns)) (drop 1 ns)
    ∙ length-set h.generations.passes v.0 _

pub swept_length : (vs : List PassId) (bs : List Bool) → length (flags_after vs bs) ≡ length bs
unfolding flags_after
swept_length [] bs = refl
swept_length (v ∷ vs) bs = swept_length vs (set bs v.0 true) ∙ length-set bs v.0 true

pub sweeps_forests : (vs : List PassId) (h : Writer) (ns : List ℕ) → forests_in h (sweeps_of vs) ns ≡ []
sweeps_forests [] h ns = refl
sweeps_forests (v ∷ vs) h ns = sweeps_forests vs (writer_after h (events.Sweep v) (carried_by h.desk (events.Sweep v)) (first_or_zero ns)) (drop 1 ns)

-- a flag that is on stays on
stays_on : (vs : List PassId) (bs : List Bool) (v : ℕ) → v < length bs → get_or bs v false ≡ true → get_or (flags_after vs bs) v false ≡ true
unfolding flags_after
stays_on [] bs v l h = h
stays_on (u ∷ vs) bs v l h = stays_on vs (set bs u.0 true) v (subst (λ (n : ℕ). v < n) (sym (length-set bs u.0 true)) l)
    (dite (ℕ_discrete v u.0)
    (λ e. subst (λ (z : ℕ). get_or (set bs z true) v false ≡ true) e (get_or-set_same bs v true false l))
    (λ ne. get_or-set_other bs u.0 v true false ne ∙ h))

turned_on : (a n : ℕ) (bs : List Bool) (v : ℕ) → a ≤ v → v < a + n → v < length bs → get_or (flags_after (ids a n) bs) v false ≡ true
unfolding flags_after
turned_on a zero bs v l m k = absurd (omega arith)
turned_on a (suc n) bs v l m k = let k' : v < length (set bs a true) = subst (λ (z : ℕ). v < z) (sym (length-set bs a true)) k in dite (ℕ_discrete v a)
    (λ e. stays_on (ids (a + 1) n) (set bs a true) v k' (subst (λ (z : ℕ). get_or (set bs z true) v false ≡ true) e (get_or-set_same bs v true false k)))
    (λ ne. turned_on (a + 1) n (set bs a true) v (omega arith) (omega arith) k')

all_on : (bs : List Bool) → ((v : ℕ) → v < length bs → get_or bs v false ≡ true) → list_all (λ b. b) bs ≡ true
all_on [] h = refl
all_on (b ∷ bs) h = and_from b (list_all (λ b. b) bs) (h 0 (omega arith)) (all_on bs (λ v l. h (suc v) (omega arith)))

-- after a sweep of every pass all flags are on
pub all_swept : (n : ℕ) (bs : List Bool) → length bs ≡ n → list_all (λ b. b) (flags_after (ids 0 n) bs) ≡ true
all_swept n bs e = all_on (flags_after (ids 0 n) bs) (λ v l. let m : v < length bs = subst (λ (z : ℕ). v < z) (swept_length (ids 0 n) bs) l in
    turned_on 0 n bs v (omega arith) (omega arith) m)

-- copies and a publish

pub published_desk : (vs : List PassId) (h : Writer) (ns : List ℕ) → (writer_played h (publishes_of vs) ns).desk ≡ with_due false h.desk
published_desk [] h ns = refl
published_desk (v ∷ vs) h ns = published_desk vs (writer_after h (events.Place v) (carried_by h.desk (events.Place v)) (first_or_zero ns)) (drop 1 ns)

pub published_passes : (vs : List PassId) (h : Writer) (ns : List ℕ)
    → length (writer_played h (publishes_of vs) ns).generations.passes ≡ length h.generations.passes
published_passes [] h ns = length_map _ h.generations.passes
published_passes (v ∷ vs) h ns = published_passes vs (writer_after h (events.Place v) (carried_by h.desk (events.Place v)) (first_or_zero ns))
    (drop 1 ns) ∙ length-set h.generations.passes v.0 _

pub publish_forests : (vs : List PassId) (h : Writer) (ns : List ℕ) → forests_in h (publishes_of vs) ns ≡ h.desk.forest ∷ []
publish_forests [] h ns = refl
publish_forests (v ∷ vs) h ns = publish_forests vs (writer_after h (events.Place v) (carried_by h.desk (events.Place v)) (first_or_zero ns)) (drop 1 ns)

-- fills

pub same_cell : (c : Cell) → is_same_cell c c ≡ true
same_cell c = rw (eq-eqb c.region.0 c.region.0 refl, eq-eqb c.word c.word refl) refl

one_less : (c : Cell) (cs : List Cell) → Every (λ x. is_same_cell c x ≡ false) cs → filter (λ x. not (is_same_cell c x)) (c ∷ cs) ≡ cs
one_less c cs h = rw (same_cell c) (keeps_all (is_same_cell c) cs h)

abbrev filled_one : Writer → Cell → ℕ → Writer
filled_one h c n = writer_after h (events.Fill c) (carried_by h.desk (events.Fill c)) n

left_to_fill : (h : Writer) (c : Cell) (cs : List Cell) (n : ℕ) → h.desk.unfilled ≡ c ∷ cs → Distinct (c ∷ cs) → (filled_one h c n).desk.unfilled ≡ cs
left_to_fill h c cs n e d = ap (λ (xs : List Cell). filter (λ x. not (is_same_cell c x)) xs) e ∙ one_less c cs d.0

pub filled_desk : (cs : List Cell) (h : Writer) (ns : List ℕ) → h.desk.unfilled ≡ cs → Distinct cs
    → (writer_played h (fills_of cs) ns).desk ≡ with_unfilled [] h.desk
filled_desk [] h ns e d = λ i. with_unfilled (e i) h.desk
filled_desk (c ∷ cs) h ns e d = filled_desk cs (filled_one h c (first_or_zero ns)) (drop 1 ns) (left_to_fill h c cs (first_or_zero ns) e d) d.1

pub filled_generations : (cs : List Cell) (h : Writer) (ns : List ℕ) → (writer_played h (fills_of cs) ns).generations ≡ h.generations
filled_generations [] h ns = refl
filled_generations (c ∷ cs) h ns = filled_generations cs (filled_one h c (first_or_zero ns)) (drop 1 ns)

pub fill_forests : (cs : List Cell) (h : Writer) (ns : List ℕ) → forests_in h (fills_of cs) ns ≡ []
fill_forests [] h ns = refl
fill_forests (c ∷ cs) h ns = ap (λ (fs : List Forest). fs ++ forests_in (filled_one h c (first_or_zero ns)) (fills_of cs) (drop 1 ns))
    (no_forest_at _) ∙ fill_forests cs (filled_one h c (first_or_zero ns)) (drop 1 ns)

-- that they are ready

module _ (end : Writer) where
  abbrev pub AreReady : Writer → List Event → List ℕ → Type 0
  AreReady h es ns = AllReady Ready Due end h es ns

  pub sweeps_ready : (vs : List PassId) (h : Writer) (ns : List ℕ) → AreReady h (sweeps_of vs) ns
  sweeps_ready [] h ns = tt
  sweeps_ready (v ∷ vs) h ns = (
    record { carries = refl; event = tt },
    sweeps_ready vs (writer_after h (events.Sweep v) (carried_by h.desk (events.Sweep v)) (first_or_zero ns)) (drop 1 ns),
  )

  pub publish_ready : (vs : List PassId) (h : Writer) (ns : List ℕ) → h.desk.due ≡ true → AreReady h (publishes_of vs) ns
  publish_ready [] h ns due = (record { carries = refl; event = due }, tt)
  publish_ready (v ∷ vs) h ns due = (
    record { carries = refl; event = due },
    publish_ready vs (writer_after h (events.Place v) (carried_by h.desk (events.Place v)) (first_or_zero ns)) (drop 1 ns) due,
  )

  pub fills_ready : (cs : List Cell) (h : Writer) (ns : List ℕ) → h.desk.unfilled ≡ cs → Distinct cs → AreReady h (fills_of cs) ns
  fills_ready [] h ns e d = tt
  fills_ready (c ∷ cs) h ns e d = (
    record { carries = refl; event = subst (λ (xs : List Cell). waits xs c.region c.word ≡ true) (sym e) (rw (same_cell c) refl) },
    fills_ready cs (filled_one h c (first_or_zero ns)) (drop 1 ns) (left_to_fill h c cs (first_or_zero ns) e d) d.1,
  )

-- steps on cells that leave the writer's part as it is

-- an event that is ready where nothing is unfilled, and that changes nothing of the writer's part
pub record IsSteady (h : Writer) (e : Event) : Type 0 where
  pub ready : Readied h.desk e
  pub stays : (x : Carried) (n : ℕ) → writer_after h e x n ≡ h
  pub carries : forest_carried (carried_by h.desk e) ≡ []

pub steady_after : (es : List Event) (h : Writer) (ns : List ℕ) → Every (IsSteady h) es → writer_played h es ns ≡ h
steady_after [] h ns k = refl
steady_after (e ∷ es) h ns k = ap (λ (z : Writer). writer_played z es (drop 1 ns)) (k.0.stays (carried_by h.desk e) (first_or_zero ns))
    ∙ steady_after es h (drop 1 ns) k.1

pub steady_forests : (es : List Event) (h : Writer) (ns : List ℕ) → Every (IsSteady h) es → forests_in h es ns ≡ []
steady_forests [] h ns k = refl
steady_forests (e ∷ es) h ns k =
    ap (λ (fs : List Forest). fs ++ forests_in (writer_after h e (carried_by h.desk e) (first_or_zero ns)) es (drop 1 ns)) k.0.carries
    ∙ ap (λ (z : Writer). forests_in z es (drop 1 ns)) (k.0.stays (carried_by h.desk e) (first_or_zero ns)) ∙ steady_forests es h (drop 1 ns) k.1

pub steady_ready : (end : Writer) (es : List Event) (h : Writer) (ns : List ℕ) → Every (IsSteady h) es → AllReady Ready Due end h es ns
steady_ready end [] h ns k = tt
steady_ready end (e ∷ es) h ns k = (
  record { carries = refl; event = k.0.ready },
  subst (λ (z : Writer). AllReady Ready Due end z es (drop 1 ns)) (sym (k.0.stays (carried_by h.desk e) (first_or_zero ns)))
      (steady_ready end es h (drop 1 ns) k.1),
)
