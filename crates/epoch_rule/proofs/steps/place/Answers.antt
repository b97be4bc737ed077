use Rattle.epoch_rule.proofs.Common.{arith, ◌≡◌, ℕ, ◌+◌, [], ◌∷◌, Some, sym, refl, ap, ◌∙◌, subst, rest, Nothing, known_of, View, pass_id, ComesNext}
use Rattle.epoch_rule.proofs.Common.{generations_seen, IsCopy}
use Rattle.mem_base.specs.declared.machine.events.Event.TheVariants.{Place}
use Rattle.epoch_rule.proofs.ActorSteps.{reach, place_as}
use Rattle.epoch_rule.proofs.steps.place.Given.{Over}
use Rattle.epoch_rule.proofs.steps.place.Goals.{After-exchange, After-load}
use Rattle.epoch_rule.proofs.steps.place.Goals as goal
use Rattle.epoch_rule.specs.Layout.{slot_of}

pub load-requires : goal.load-requires
load-requires g c =
    let t = c.requires.table in
    let a = t.1.0 in
    let b = t.2 in
    let writer = c.requires.writer in (
      t.0,
      omega arith,
      reach (IsCopy g.E.Edition.counted g.E.Edition.forest g.E.Edition.places) _ _ _ _ c.args.pass t.2 writer.0 writer.1 writer.2 c.requires.near
          c.requires.free,
    )

-- the slot for the next generation, which the writer has taken
hand : (g : Over) (c : After-load g) → c.load.new.seat.me.1 ≡ (slot_of c.args.pass c.args.next, (c.load.ensures.2 c.args.pass refl).1.0) ∷ []
hand g c =
    let went = c.load.ensures.2 c.args.pass refl in
    went.1.1 ∙ ap (λ (y : ℕ). (slot_of c.args.pass y, went.1.0) ∷ []) (sym c.requires.next)

pub exchange-requires : goal.exchange-requires
exchange-requires g c =
    let i : ℕ = slot_of c.args.pass c.args.next in
    let took = (c.load.ensures.2 c.args.pass refl).1.0 in
    let is = hand g (goal.at.exchange-requires g c).After-load in
    (c.load.ensures.0 ∙ c.requires.table.0, (took, is ∙ ap (λ l. (i, took) ∷ rest l) (sym is)))

-- with the copy in the slot
view : (g : Over) (c : After-exchange g) → c.exchange.new.seat.me.0 ≡ record c.args.seat.now.me.0 { held = c.args.pass + 1 }
view g c = ap (λ m. m.0) c.exchange.ensures.3 ∙ (c.load.ensures.2 c.args.pass refl).0

holds : (g : Over) (c : After-exchange g) → c.load.new.seat.me.1 ≡ (slot_of c.args.pass c.args.next, (c.load.ensures.2 c.args.pass refl).1.0) ∷ []
    → c.exchange.new.seat.me.1 ≡ (slot_of c.args.pass c.args.next, Some c.args.copy) ∷ []
holds g c is = ap (λ m. m.1) c.exchange.ensures.3 ∙ ap (λ l. (slot_of c.args.pass c.args.next, Some c.args.copy) ∷ l) (ap rest is)

pub load-requires-2 : goal.load-requires-2
load-requires-2 g c =
    let at = goal.at.load-requires-2 g c in
    let t = c.requires.table in
    let a = t.1.0 in
    let b = t.2 in
    let same = view g at.After-exchange in
    let next : c.args.next ≡ (generations_seen c.exchange.new.seat.me.0).current + 1 = c.requires.next
    ∙ ap (λ (w : View). (generations_seen w).current + 1) (sym same) in (
      c.exchange.ensures.0 ∙ (c.load.ensures.0 ∙ t.0),
      omega arith,
      place_as g.E.Edition.counted g.E.Edition.forest g.E.Edition.places _ _ _ _ c.args.pass c.args.copy t.2 t.1.1
          (ap (λ w. w.role) same ∙ c.requires.writer.0) (ap (λ w. w.held) same)
          (holds g at.After-exchange (hand g at.After-load) ∙ ap (λ (y : ℕ). (slot_of c.args.pass y, Some c.args.copy) ∷ []) next)
          (c.requires.copy.0 ∙ next)
          (λ u placed. ap (λ w. w.next) same ∙ c.requires.copy.1 u (ap (λ (w : View). (known_of (generations_seen w) (pass_id u)).placed) (sym same) ∙ placed)),
    )

pub returns-clause-seat : goal.returns-clause-seat
returns-clause-seat g c =
    let at = goal.at.returns-clause-seat g c in
    let did = c.load-2.ensures.2 _ _ (holds g at.After-exchange (hand g at.After-load)) in
    (c.load-2.ensures.0 ∙ (c.exchange.ensures.0 ∙ c.load.ensures.0), did.0, did.1, did.2)

pub returns-clause-adds : goal.returns-clause-adds
returns-clause-adds g c =
    let at = goal.at.returns-clause-adds g c in
    let did = (c.load-2.ensures.2 _ _ (holds g at.After-exchange (hand g at.After-load))).3 c.args.pass refl in
    let h : ComesNext 0 (record c.args.seat.now.me.0 { held = c.args.pass + 1 }) (Place (pass_id c.args.pass)) Nothing 0 c.load-2.new.seat.me.0 =
    subst (λ w. ComesNext 0 w (Place (pass_id c.args.pass)) Nothing 0 c.load-2.new.seat.me.0) (view g at.After-exchange) did in
    record { role = h.role; out = h.out; sizes = h.sizes; lawful = h.lawful; between = h.between; others = h.others; seen = h.seen; home = h.home }
