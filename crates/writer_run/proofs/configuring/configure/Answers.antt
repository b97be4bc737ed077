use Rattle.std.proofs.Common.{rules, arith, ◌≡◌, ◌≢◌, ◌+◌, ◌<◌, ℕ, true, List, Err, None, Some, Option, refl, sym, ap, subst, ◌∙◌}
use Rattle.std.specs.Prelude.{Result, IfErr, OnErr, ◌^◌}
use Rattle.mem_base.specs.declared.map.ids.RegionId.{RegionId}
use Rattle.mem_base.specs.declared.map.calls.Applied.{Applied}
use Rattle.mem_base.specs.declared.map.refusals.Refusal.{Refusal}
use Rattle.mem_base.specs.declared.map.refusals.Refusal.TheVariants.{Memory}
use Rattle.mem_base.specs.declared.access.cells.Place.{Place}
use Rattle.mem_base.specs.declared.machine.events.HistoryEntry.{HistoryEntry}
use Rattle.mem_base.specs.views.Listening.{delivered}
use Rattle.mem_base.specs.machine.Answers.{answer_of_config}
use Rattle.mem_base.specs.machine.Generations.{Generations}
use Rattle.mem_base.specs.machine.Orders.{configure}
use Rattle.mem_base.specs.machine.Publishing.{held_up, would_publish}
use Rattle.generation.specs.Published.{Published}
use Rattle.writer_desk.proofs.HandedOn.{AreDeskPlaces, when_done, BackedState, backed_state, all_places}
use Rattle.writer_desk.specs.Listened.{ListenedState, IsDone, IsReadied, IsRefused, IsUnmoved}
use Rattle.writer_hand.specs.Hands.{swept, IsPublished, IsHeldUp, MayPublish}
use Rattle.writer_run.specs.Parts.{part_with, part_of}
use Rattle.writer_desk.specs.Writers.{dropped_with, is_held, made_place}
use Rattle.writer_run.specs.Turns.{IsTurn, answer_by, cleared_at}
use Rattle.writer_run.proofs.TurnLaws.{Leaves, held_is_told, refused, ends_within, done, held, published, may_publish}
use Rattle.writer_run.proofs.TurnLaws.{quiet_number, next_number, never_held, desk_stays, desk_stays_held, held_where_refused_is, held_where_due}
use Rattle.writer_run.proofs.configuring.configure.Goals as goal

pub returns-in_err-applied-clause-turn : goal.returns-in_err-applied-clause-turn
returns-in_err-applied-clause-turn g c =
    let gens : Generations = g.H.Writing.generations c.args.hand.now in
    let words : ℕ = g.H.Writing.words c.args.hand.now in
    let why : Refusal = c.in_err-applied.field-0.0 in
    let said : c.from_residual-in_err-applied.result ≡ Err why = search rules in
    let is : why ≢ Memory → IsRefused c.args.desk.now.listened c.args.config.now why = c.in_err-applied.ensures.refused in
    let same : IsUnmoved c.args.desk.now.listened c.planned.new.desk = c.in_err-applied.ensures.unchanged in
    λ other. subst (λ (r : Result (Applied × Option ℕ) Refusal). IsTurn (part_of c.args.desk.now gens) (configure c.args.config.now)
    (λ xs. g.H.Writing.makes c.args.hand.now xs c.args.hand.now) (answer_by c.args.config.now r)
    (part_with c.planned.new.desk c.reserve.new.self.items gens)) (sym said)
    (refused c.args.desk.now gens words c.requires.parts c.args.config.now why
    (is (λ e. other (said ∙ ap (λ (z : Refusal). Err z) e))) c.planned.new.desk same c.reserve.new.self.items c.reserve.ensures.items
    (λ xs. g.H.Writing.makes c.args.hand.now xs c.args.hand.now) (g.met.H.Writing.begins c.args.hand.now))

pub fill_made-requires : goal.fill_made-requires
fill_made-requires g c =
    let gens : Generations = g.H.Writing.generations c.args.hand.now in
    let words : ℕ = g.H.Writing.words c.args.hand.now in
    let d : IsDone c.args.desk.now.listened c.args.config.now c.planned.new.desk c.in-Done.applied = search rules in
    let told : List Place = all_places c.backed-in-Done.result.now.backing in
    let fit : AreDeskPlaces c.backed-in-Done.result.now.desk.state.forest told = c.knows_places.ensures in
    let places : told ≡ all_places c.planned.new.desk.backed.backing = ap (λ (b : BackedState). all_places b.backing) c.backed-in-Done.ensures in
    record {
      within = ends_within c.args.desk.now gens words c.requires.parts c.args.config.now c.planned.new.desk c.in-Done.applied d
          c.backed-in-Done.result.now.desk.state.forest told places fit;
    }

pub publish-requires-clause-may : goal.publish-requires-clause-may
publish-requires-clause-may g c =
    let gens : Generations = g.H.Writing.generations c.args.hand.now in
    let words : ℕ = g.H.Writing.words c.args.hand.now in
    let z : IsReadied c.args.desk.now.listened c.args.config.now c.planned.new.desk c.in-Ready.due = search rules in
    let same : g.H.WriterHand.offers c.in_ok-batch-in-Ready.batch ≡ c.in-Ready.due.generation = search rules in
    let next : c.in-Ready.due.generation.number ≡ c.args.desk.now.listened.backed.desk.current.number + 1 =
    z.ready.of_desk.of_desk.number ∙ ap (λ (b : BackedState). b.desk.current.number + 1) z.unmoved.0 in
    let fits : c.args.desk.now.listened.backed.desk.current.number + 2 < 2 ^ 64 = search rules in
    let small : c.in-Ready.due.generation.number + 1 < 2 ^ 64 = omega (arith, next, fits) in
    subst (λ (x : Published). MayPublish gens words x) (sym same)
    (may_publish c.args.desk.now gens words c.requires.parts c.args.config.now c.in-Ready.due c.planned.new.desk z small)

pub returns-in_err-number-in-Ready-clause-turn : goal.returns-in_err-number-in-Ready-clause-turn
returns-in_err-number-in-Ready-clause-turn g c =
    let gens : Generations = g.H.Writing.generations c.args.hand.now in
    let words : ℕ = g.H.Writing.words c.args.hand.now in
    let why : Refusal = c.in_err-number-in-Ready.field-0.0 in
    let said : c.from_residual-in_err-number-in-Ready.result ≡ Err why = search rules in
    let z : IsReadied c.args.desk.now.listened c.args.config.now c.planned.new.desk c.in-Ready.due = search rules in
    let up : IsHeldUp gens why (λ xs. g.H.Writing.makes c.args.hand.now xs c.publish.new.self) = c.in_err-number-in-Ready.ensures.published in
    let left = g.met.H.Writing.leaves c.args.hand.now c.publish.new.self (swept gens up.found) up.made in
    let all : Leaves (part_of c.args.desk.now gens) c.args.config.now
    (λ xs. g.H.Writing.makes c.args.hand.now xs c.publish.new.self) (answer_of_config c.args.config.now (Err why) None) c.planned.new.desk
    c.reserve.new.self.items (g.H.Writing.generations c.publish.new.self) (g.H.Writing.words c.publish.new.self) =
    held c.args.desk.now gens words c.requires.parts c.args.config.now c.in-Ready.due c.planned.new.desk z up.found up.each why up.held
    (g.H.Writing.generations c.publish.new.self) (g.H.Writing.words c.publish.new.self)
    (λ xs. g.H.Writing.makes c.args.hand.now xs c.publish.new.self) up.made left.0 left.1 c.reserve.new.self.items c.reserve.ensures.items in
    λ other. subst (λ (r : Result (Applied × Option ℕ) Refusal). IsTurn (part_of c.args.desk.now gens) (configure c.args.config.now)
    (λ xs. g.H.Writing.makes c.args.hand.now xs c.publish.new.self) (answer_by c.args.config.now r)
    (part_with c.planned.new.desk c.reserve.new.self.items (g.H.Writing.generations c.publish.new.self))) (sym said) all.turn_is

pub returns-in_err-number-in-Ready-clause-parts : goal.returns-in_err-number-in-Ready-clause-parts
returns-in_err-number-in-Ready-clause-parts g c =
    let gens : Generations = g.H.Writing.generations c.args.hand.now in
    let words : ℕ = g.H.Writing.words c.args.hand.now in
    let why : Refusal = c.in_err-number-in-Ready.field-0.0 in
    let z : IsReadied c.args.desk.now.listened c.args.config.now c.planned.new.desk c.in-Ready.due = search rules in
    let up : IsHeldUp gens why (λ xs. g.H.Writing.makes c.args.hand.now xs c.publish.new.self) = c.in_err-number-in-Ready.ensures.published in
    let left = g.met.H.Writing.leaves c.args.hand.now c.publish.new.self (swept gens up.found) up.made in
    (held c.args.desk.now gens words c.requires.parts c.args.config.now c.in-Ready.due c.planned.new.desk z up.found up.each why up.held
    (g.H.Writing.generations c.publish.new.self) (g.H.Writing.words c.publish.new.self)
    (λ xs. g.H.Writing.makes c.args.hand.now xs c.publish.new.self) up.made left.0 left.1 c.reserve.new.self.items c.reserve.ensures.items).parts

pub returns-in_err-number-in-Ready-clause-unchanged : goal.returns-in_err-number-in-Ready-clause-unchanged
returns-in_err-number-in-Ready-clause-unchanged g c =
    let gens : Generations = g.H.Writing.generations c.args.hand.now in
    let why : Refusal = c.in_err-number-in-Ready.field-0.0 in
    let said : c.from_residual-in_err-number-in-Ready.result ≡ Err why = search rules in
    let up : IsHeldUp gens why (λ xs. g.H.Writing.makes c.args.hand.now xs c.publish.new.self) = c.in_err-number-in-Ready.ensures.published in
    λ memory. absurd (let is : why ≡ Memory = cc in held_is_told gens (λ xs. g.H.Writing.makes c.args.hand.now xs c.publish.new.self) why up is)

pub returns-in-Done-clause-turn : goal.returns-in-Done-clause-turn
returns-in-Done-clause-turn g c =
    let gens : Generations = g.H.Writing.generations c.args.hand.now in
    let words : ℕ = g.H.Writing.words c.args.hand.now in
    let d : IsDone c.args.desk.now.listened c.args.config.now c.planned.new.desk c.in-Done.applied = search rules in
    let made : g.H.Writing.makes c.args.hand.now (cleared_at (made_place c.planned.new.desk.backed.backing.places c.in-Done.applied))
    c.fill_made.new.hand = c.fill_made.ensures in
    let left = g.met.H.Writing.leaves c.args.hand.now c.fill_made.new.hand _ made in
    let drops : c.note_drop.new.dropped.items ≡ dropped_with c.args.config.now c.args.desk.now.dropped.items =
    c.note_drop.ensures ∙ ap (λ (rs : List RegionId). dropped_with c.args.config.now rs) c.reserve.ensures.items in
    λ other. (done c.args.desk.now gens words c.requires.parts c.args.config.now c.planned.new.desk c.in-Done.applied d
    c.note_drop.new.dropped.items drops (g.H.Writing.generations c.fill_made.new.hand) (g.H.Writing.words c.fill_made.new.hand)
    (λ xs. g.H.Writing.makes c.args.hand.now xs c.fill_made.new.hand) made left.0 left.1).turn_is

pub returns-in-Done-clause-parts : goal.returns-in-Done-clause-parts
returns-in-Done-clause-parts g c =
    let gens : Generations = g.H.Writing.generations c.args.hand.now in
    let words : ℕ = g.H.Writing.words c.args.hand.now in
    let d : IsDone c.args.desk.now.listened c.args.config.now c.planned.new.desk c.in-Done.applied = search rules in
    let made : g.H.Writing.makes c.args.hand.now (cleared_at (made_place c.planned.new.desk.backed.backing.places c.in-Done.applied))
    c.fill_made.new.hand = c.fill_made.ensures in
    let left = g.met.H.Writing.leaves c.args.hand.now c.fill_made.new.hand _ made in
    let drops : c.note_drop.new.dropped.items ≡ dropped_with c.args.config.now c.args.desk.now.dropped.items =
    c.note_drop.ensures ∙ ap (λ (rs : List RegionId). dropped_with c.args.config.now rs) c.reserve.ensures.items in
    (done c.args.desk.now gens words c.requires.parts c.args.config.now c.planned.new.desk c.in-Done.applied d
    c.note_drop.new.dropped.items drops (g.H.Writing.generations c.fill_made.new.hand) (g.H.Writing.words c.fill_made.new.hand)
    (λ xs. g.H.Writing.makes c.args.hand.now xs c.fill_made.new.hand) made left.0 left.1).parts

pub returns-in_ok-number-in-Ready-clause-turn : goal.returns-in_ok-number-in-Ready-clause-turn
returns-in_ok-number-in-Ready-clause-turn g c =
    let gens : Generations = g.H.Writing.generations c.args.hand.now in
    let words : ℕ = g.H.Writing.words c.args.hand.now in
    let makes : List HistoryEntry → Type 0 = λ xs. g.H.Writing.makes c.args.hand.now xs c.publish.new.self in
    let z : IsReadied c.args.desk.now.listened c.args.config.now c.planned.new.desk c.in-Ready.due = search rules in
    let same : g.H.WriterHand.offers c.in_ok-batch-in-Ready.batch ≡ c.in-Ready.due.generation = search rules in
    let told = c.in_ok-number-in-Ready.ensures.published in
    let next : c.in_ok-number-in-Ready.number ≡ c.in-Ready.due.generation.number = told.0 ∙ ap (λ (x : Published). x.number) same in
    let up : IsPublished gens c.in-Ready.due.generation makes = subst (λ (x : Published). IsPublished gens x makes) same told.1 in
    let left = g.met.H.Writing.leaves c.args.hand.now c.publish.new.self _ up.made in
    let backed : c.done.new.self.backed ≡ backed_state (when_done c.in-Ready.due) c.planned.new.desk.backed.backing =
    ap (λ (x : ListenedState). x.backed) c.done.ensures.desk
    ∙ ap (λ (b : BackedState). backed_state (when_done c.in-Ready.due) b.backing) c.tell.ensures.backed in
    let heard : c.done.new.self.set.listening ≡ delivered c.planned.new.desk.set.listening c.in-Ready.due.changes =
    ap (λ (x : ListenedState). x.set.listening) c.done.ensures.desk ∙ c.tell.ensures.told in
    let drops : c.note_drop-in-Ready.new.dropped.items ≡ dropped_with c.args.config.now c.args.desk.now.dropped.items =
    c.note_drop-in-Ready.ensures ∙ ap (λ (rs : List RegionId). dropped_with c.args.config.now rs) c.reserve.ensures.items in
    λ other. (published c.args.desk.now gens words c.requires.parts c.args.config.now c.in-Ready.due c.planned.new.desk z up.found up.each
    up.free up.replies c.done.new.self backed heard c.note_drop-in-Ready.new.dropped.items drops (g.H.Writing.generations c.publish.new.self)
    (g.H.Writing.words c.publish.new.self) makes up.made left.0 left.1 c.in_ok-number-in-Ready.number next).turn_is

pub returns-in_ok-number-in-Ready-clause-parts : goal.returns-in_ok-number-in-Ready-clause-parts
returns-in_ok-number-in-Ready-clause-parts g c =
    let gens : Generations = g.H.Writing.generations c.args.hand.now in
    let words : ℕ = g.H.Writing.words c.args.hand.now in
    let makes : List HistoryEntry → Type 0 = λ xs. g.H.Writing.makes c.args.hand.now xs c.publish.new.self in
    let z : IsReadied c.args.desk.now.listened c.args.config.now c.planned.new.desk c.in-Ready.due = search rules in
    let same : g.H.WriterHand.offers c.in_ok-batch-in-Ready.batch ≡ c.in-Ready.due.generation = search rules in
    let told = c.in_ok-number-in-Ready.ensures.published in
    let next : c.in_ok-number-in-Ready.number ≡ c.in-Ready.due.generation.number = told.0 ∙ ap (λ (x : Published). x.number) same in
    let up : IsPublished gens c.in-Ready.due.generation makes = subst (λ (x : Published). IsPublished gens x makes) same told.1 in
    let left = g.met.H.Writing.leaves c.args.hand.now c.publish.new.self _ up.made in
    let backed : c.done.new.self.backed ≡ backed_state (when_done c.in-Ready.due) c.planned.new.desk.backed.backing =
    ap (λ (x : ListenedState). x.backed) c.done.ensures.desk
    ∙ ap (λ (b : BackedState). backed_state (when_done c.in-Ready.due) b.backing) c.tell.ensures.backed in
    let heard : c.done.new.self.set.listening ≡ delivered c.planned.new.desk.set.listening c.in-Ready.due.changes =
    ap (λ (x : ListenedState). x.set.listening) c.done.ensures.desk ∙ c.tell.ensures.told in
    let drops : c.note_drop-in-Ready.new.dropped.items ≡ dropped_with c.args.config.now c.args.desk.now.dropped.items =
    c.note_drop-in-Ready.ensures ∙ ap (λ (rs : List RegionId). dropped_with c.args.config.now rs) c.reserve.ensures.items in
    (published c.args.desk.now gens words c.requires.parts c.args.config.now c.in-Ready.due c.planned.new.desk z up.found up.each
    up.free up.replies c.done.new.self backed heard c.note_drop-in-Ready.new.dropped.items drops (g.H.Writing.generations c.publish.new.self)
    (g.H.Writing.words c.publish.new.self) makes up.made left.0 left.1 c.in_ok-number-in-Ready.number next).parts

pub returns-in_err-applied-clause-held : goal.returns-in_err-applied-clause-held
returns-in_err-applied-clause-held g c =
    let gens : Generations = g.H.Writing.generations c.args.hand.now in
    let words : ℕ = g.H.Writing.words c.args.hand.now in
    let why : Refusal = c.in_err-applied.field-0.0 in
    let said : c.from_residual-in_err-applied.result ≡ Err why = search rules in
    let is : why ≢ Memory → IsRefused c.args.desk.now.listened c.args.config.now why = c.in_err-applied.ensures.refused in
    subst (λ (r : Result (Applied × Option ℕ) Refusal). IfErr r (λ why. would_publish (part_of c.args.desk.now gens).desk c.args.config.now ≡ true
    → why ≢ Memory
    → held_up gens ≡ Some why)) (sym said) (λ due other. absurd (never_held c.args.desk.now gens words c.requires.parts c.args.config.now why
    (is other) due))

pub returns-in_err-applied-clause-left : goal.returns-in_err-applied-clause-left
returns-in_err-applied-clause-left g c =
    let gens : Generations = g.H.Writing.generations c.args.hand.now in
    let words : ℕ = g.H.Writing.words c.args.hand.now in
    let why : Refusal = c.in_err-applied.field-0.0 in
    let said : c.from_residual-in_err-applied.result ≡ Err why = search rules in
    let same : IsUnmoved c.args.desk.now.listened c.planned.new.desk = c.in_err-applied.ensures.unchanged in
    subst (λ (r : Result (Applied × Option ℕ) Refusal). OnErr r ((part_with c.planned.new.desk c.reserve.new.self.items gens).desk ≡
    (part_of c.args.desk.now gens).desk)) (sym said)
    (desk_stays c.args.desk.now gens words c.requires.parts c.args.config.now c.planned.new.desk same c.reserve.new.self.items
    c.reserve.ensures.items gens refl)

pub returns-in_err-number-in-Ready-clause-held : goal.returns-in_err-number-in-Ready-clause-held
returns-in_err-number-in-Ready-clause-held g c =
    let gens : Generations = g.H.Writing.generations c.args.hand.now in
    let words : ℕ = g.H.Writing.words c.args.hand.now in
    let why : Refusal = c.in_err-number-in-Ready.field-0.0 in
    let said : c.from_residual-in_err-number-in-Ready.result ≡ Err why = search rules in
    let up : IsHeldUp gens why (λ xs. g.H.Writing.makes c.args.hand.now xs c.publish.new.self) = c.in_err-number-in-Ready.ensures.published in
    let left = g.met.H.Writing.leaves c.args.hand.now c.publish.new.self (swept gens up.found) up.made in
    subst (λ (r : Result (Applied × Option ℕ) Refusal). IfErr r (λ why. would_publish (part_of c.args.desk.now gens).desk c.args.config.now ≡ true
    → why ≢ Memory
    → held_up (g.H.Writing.generations c.publish.new.self) ≡ Some why)) (sym said) (λ due other. ap (λ (h : Generations). held_up h) left.0 ∙ up.held)

pub returns-in_err-number-in-Ready-clause-left : goal.returns-in_err-number-in-Ready-clause-left
returns-in_err-number-in-Ready-clause-left g c =
    let gens : Generations = g.H.Writing.generations c.args.hand.now in
    let words : ℕ = g.H.Writing.words c.args.hand.now in
    let why : Refusal = c.in_err-number-in-Ready.field-0.0 in
    let said : c.from_residual-in_err-number-in-Ready.result ≡ Err why = search rules in
    let z : IsReadied c.args.desk.now.listened c.args.config.now c.planned.new.desk c.in-Ready.due = search rules in
    let up : IsHeldUp gens why (λ xs. g.H.Writing.makes c.args.hand.now xs c.publish.new.self) = c.in_err-number-in-Ready.ensures.published in
    let left = g.met.H.Writing.leaves c.args.hand.now c.publish.new.self (swept gens up.found) up.made in
    subst (λ (r : Result (Applied × Option ℕ) Refusal). OnErr r
    ((part_with c.planned.new.desk c.reserve.new.self.items (g.H.Writing.generations c.publish.new.self)).desk ≡
    (part_of c.args.desk.now gens).desk)) (sym said)
    (desk_stays_held c.args.desk.now gens words c.requires.parts c.args.config.now c.in-Ready.due c.planned.new.desk z up.found up.each
    c.reserve.new.self.items c.reserve.ensures.items
    (g.H.Writing.generations c.publish.new.self) left.0)

pub returns-in-Done-clause-number : goal.returns-in-Done-clause-number
returns-in-Done-clause-number g c =
    let gens : Generations = g.H.Writing.generations c.args.hand.now in
    let words : ℕ = g.H.Writing.words c.args.hand.now in
    let d : IsDone c.args.desk.now.listened c.args.config.now c.planned.new.desk c.in-Done.applied = search rules in
    quiet_number c.args.desk.now gens words c.requires.parts c.args.config.now c.planned.new.desk c.in-Done.applied d

pub returns-in_ok-number-in-Ready-clause-number : goal.returns-in_ok-number-in-Ready-clause-number
returns-in_ok-number-in-Ready-clause-number g c =
    let gens : Generations = g.H.Writing.generations c.args.hand.now in
    let words : ℕ = g.H.Writing.words c.args.hand.now in
    let z : IsReadied c.args.desk.now.listened c.args.config.now c.planned.new.desk c.in-Ready.due = search rules in
    let same : g.H.WriterHand.offers c.in_ok-batch-in-Ready.batch ≡ c.in-Ready.due.generation = search rules in
    let told = c.in_ok-number-in-Ready.ensures.published in
    next_number c.args.desk.now gens words c.requires.parts c.args.config.now c.in-Ready.due c.planned.new.desk z c.in_ok-number-in-Ready.number
    (told.0 ∙ ap (λ (x : Published). x.number) same)

pub returns-in_err-applied-clause-cause : goal.returns-in_err-applied-clause-cause
returns-in_err-applied-clause-cause g c =
    let gens : Generations = g.H.Writing.generations c.args.hand.now in
    let words : ℕ = g.H.Writing.words c.args.hand.now in
    let why : Refusal = c.in_err-applied.field-0.0 in
    let said : c.from_residual-in_err-applied.result ≡ Err why = search rules in
    let is : why ≢ Memory → IsRefused c.args.desk.now.listened c.args.config.now why = c.in_err-applied.ensures.refused in
    subst (λ (r : Result (Applied × Option ℕ) Refusal). IfErr r (λ why. why ≢ Memory
    → is_held why ≡ would_publish (part_of c.args.desk.now gens).desk c.args.config.now)) (sym said)
    (λ other. held_where_refused_is c.args.desk.now gens words c.requires.parts c.args.config.now why (is other))

pub returns-in_err-number-in-Ready-clause-cause : goal.returns-in_err-number-in-Ready-clause-cause
returns-in_err-number-in-Ready-clause-cause g c =
    let gens : Generations = g.H.Writing.generations c.args.hand.now in
    let words : ℕ = g.H.Writing.words c.args.hand.now in
    let why : Refusal = c.in_err-number-in-Ready.field-0.0 in
    let said : c.from_residual-in_err-number-in-Ready.result ≡ Err why = search rules in
    let z : IsReadied c.args.desk.now.listened c.args.config.now c.planned.new.desk c.in-Ready.due = search rules in
    let up : IsHeldUp gens why (λ xs. g.H.Writing.makes c.args.hand.now xs c.publish.new.self) = c.in_err-number-in-Ready.ensures.published in
    subst (λ (r : Result (Applied × Option ℕ) Refusal). IfErr r (λ why. why ≢ Memory
    → is_held why ≡ would_publish (part_of c.args.desk.now gens).desk c.args.config.now)) (sym said)
    (λ other. held_where_due c.args.desk.now gens words c.requires.parts c.args.config.now c.in-Ready.due c.planned.new.desk z up.found up.each why up.held)
