use Rattle.epoch_rule.proofs.Common.{arith, ◌≡◌, ◌+◌, ◌<◌, sym, refl, ap, ◌∙◌, subst, Sizes, View, IsLegal, met_view, IsSettled, IsCopy, pass_seen}
use Rattle.epoch_rule.proofs.Common.{pass_after_all, idle, Pass, pass_id}
use Rattle.epoch_rule.proofs.SeatSteps.{learns, settle}
use Rattle.epoch_rule.proofs.PassLaws.{stands_still, suits_on}
use Rattle.epoch_rule.proofs.cabinet.Cabinet.meet.Given.{Over}
use Rattle.epoch_rule.proofs.cabinet.Cabinet.meet.Goals as goal
use Rattle.epoch_rule.proofs.TouchLaws.{wrote_none}

pub join_seat-requires : goal.join_seat-requires
join_seat-requires g c =
    let a = c.self.invariant.suits.0 in (
      ap (λ v. v.cabinet) c.pass.view_is ∙ (c.requires.own.0 ∙ sym (ap (λ w. w.id) c.self.view_is)),
      ap (λ v. v.cabinet) c.note.view_is ∙ (c.requires.own.1 ∙ sym (ap (λ w. w.id) c.self.view_is)),
      c.note.invariant,
      omega arith,
      learns (IsCopy g.E.Edition.counted g.E.Edition.forest g.E.Edition.places) _ _ _ _ _,
    )

pub load-requires : goal.load-requires
load-requires g c =
    let a = c.self.invariant.suits.0 in (
      c.join_seat.ensures.0 ∙ (ap (λ v. v.cabinet) c.pass.view_is ∙ (c.requires.own.0 ∙ sym (ap (λ w. w.id) c.self.view_is))),
      omega arith,
      settle (IsCopy g.E.Edition.counted g.E.Edition.forest g.E.Edition.places) _ _ _ _ 0,
    )

-- the view that was met, after the look
settled : (g : Over) (c : goal.After-load g) → IsSettled (c.pass.inside.id.0 + 1) (met_view c.pass.inside.seat.me.0 c.note.inside.seat.me.0)
    c.load.new.seat.me.0
settled g c = subst (λ m. IsSettled (c.pass.inside.id.0 + 1) m.0 c.load.new.seat.me.0) c.join_seat.ensures.2
    (c.load.ensures.2.1 (c.pass.inside.id.0 + 1) (ap (λ m. m.0.role) c.join_seat.ensures.2 ∙ c.pass.invariant.0))

seen : (g : Over) (c : goal.After-load g) → c.load.new.seat.me.0.seen ≡ (met_view c.pass.inside.seat.me.0 c.note.inside.seat.me.0).seen
seen g c = ap (λ w. w.seen) (settled g c).same

sizes : (g : Over) (c : goal.After-load g) → c.load.new.seat.me.0.sizes ≡ c.pass.inside.seat.me.0.sizes
sizes g c = ap (λ w. w.sizes) (settled g c).same

pub invariant_of-pass : goal.invariant_of-pass
invariant_of-pass g c =
    let inv = c.pass.invariant in
    let h = settled g c in (
      ap (λ w. w.role) h.same ∙ inv.0,
      subst (λ (y : Sizes). c.pass.inside.id.0 < y.passes) (sym (sizes g c)) inv.1,
      suits_on _ _ _ _ (sym (c.load.ensures.0 ∙ c.join_seat.ensures.0)) (sym (sizes g c)) inv.2,
      stands_still g.E.Edition.counted g.E.Edition.forest g.E.Edition.places c.pass.inside.id.0 c.pass.inside.seat.me c.load.new.seat.me
          c.pass.inside.edition (c.load.ensures.2.0 ∙ ap (λ m. m.1) c.join_seat.ensures.2) (sizes g c) (h.was.0, h.was.1 ∙ sym (seen g c))
          (ap (pass_seen c.pass.inside.id.0) h.same ∙ ap (pass_after_all idle) (sym h.quiet)) inv.3,
      subst (λ (w : View). IsLegal w.sizes w.seen) (sym h.same) h.lawful,
    )

pub returns-clause-longer : goal.returns-clause-longer
returns-clause-longer g c = rw (sym c.pass.view_is, sym c.note.view_is) (seen g c)

pub returns-clause-seen : goal.returns-clause-seen
returns-clause-seen g c = rw (sym c.note.view_is) ((settled g c).told.0, (settled g c).told.1 ∙ sym (seen g c))

pub returns-clause-events : goal.returns-clause-events
returns-clause-events g c = rw (sym c.pass.view_is) record {
  cabinet = c.load.ensures.0 ∙ c.join_seat.ensures.0;
  number = refl;
  sizes = sizes g c;
  wrote = wrote_none (Pass (pass_id c.pass.inside.id.0)) c.pass.inside.seat.me.0 _ _ refl refl (settled g c);
}
