use Rattle.epoch_rule.proofs.Common.{arith, ◌≡◌, ◌+◌, get_or, false, sym, refl, ap, ◌∙◌, subst, first_generations, own_entries, generations_after_all, IsLegal}
use Rattle.epoch_rule.proofs.Common.{met_view, IsSettled, IsCopy, generations_seen, Writer}
use Rattle.epoch_rule.proofs.SeatSteps.{learns, settle}
use Rattle.epoch_rule.proofs.TouchLaws.{wrote_none}
use Rattle.epoch_rule.proofs.SweepLaws.{writing_seat}
use Rattle.epoch_rule.proofs.cabinet.Cabinet.hear.Given.{Over}
use Rattle.epoch_rule.proofs.cabinet.Cabinet.hear.Goals as goal

pub join_seat-requires : goal.join_seat-requires
join_seat-requires g c =
    let a = c.self.invariant.suits.0 in (
      ap (λ v. v.cabinet) c.writer.view_is ∙ (c.requires.own.0 ∙ sym (ap (λ w. w.id) c.self.view_is)),
      ap (λ v. v.cabinet) c.note.view_is ∙ (c.requires.own.1 ∙ sym (ap (λ w. w.id) c.self.view_is)),
      c.note.invariant,
      omega arith,
      learns (IsCopy g.E.Edition.counted g.E.Edition.forest g.E.Edition.places) _ _ _ _ _,
    )

pub load-requires : goal.load-requires
load-requires g c =
    let a = c.self.invariant.suits.0 in (
      c.join_seat.ensures.0 ∙ (ap (λ v. v.cabinet) c.writer.view_is ∙ (c.requires.own.0 ∙ sym (ap (λ w. w.id) c.self.view_is))),
      omega arith,
      settle (IsCopy g.E.Edition.counted g.E.Edition.forest g.E.Edition.places) _ _ _ _ 0,
    )

-- the view that was met, after the look
settled : (g : Over) (c : goal.After-load g) → IsSettled 0 (met_view c.writer.inside.seat.me.0 c.note.inside.seat.me.0) c.load.new.seat.me.0
settled g c = subst (λ m. IsSettled 0 m.0 c.load.new.seat.me.0) c.join_seat.ensures.2
    (c.load.ensures.2.1 0 (ap (λ m. m.0.role) c.join_seat.ensures.2 ∙ c.writer.invariant.role))

seen : (g : Over) (c : goal.After-load g) → c.load.new.seat.me.0.seen ≡ (met_view c.writer.inside.seat.me.0 c.note.inside.seat.me.0).seen
seen g c = ap (λ w. w.seen) (settled g c).same

pub invariant_of-writer : goal.invariant_of-writer
invariant_of-writer g c =
    let h = settled g c in
    writing_seat _ _ c.writer.inside.seat.me c.load.new.seat.me _ _ _ _ (c.load.ensures.0 ∙ c.join_seat.ensures.0)
    (c.load.ensures.2.0 ∙ ap (λ m. m.1) c.join_seat.ensures.2) (ap (λ w. w.role) h.same) (ap (λ w. w.held) h.same, ap (λ w. w.next) h.same)
    (ap (λ w. w.sizes) h.same)
    (ap generations_seen h.same ∙ ap (generations_after_all (first_generations c.writer.inside.seat.me.0.sizes.passes)) (sym h.quiet))
    (subst (λ w. IsLegal w.sizes w.seen) (sym h.same) h.lawful) (c.writer.invariant.is_out ∙ sym (ap (λ w. w.out) h.same)) refl c.writer.invariant

pub returns-clause-longer : goal.returns-clause-longer
returns-clause-longer g c = rw (sym c.writer.view_is, sym c.note.view_is) (seen g c)

pub returns-clause-seen : goal.returns-clause-seen
returns-clause-seen g c = rw (sym c.note.view_is) ((settled g c).told.0, (settled g c).told.1 ∙ sym (seen g c))

pub returns-clause-wrote : goal.returns-clause-wrote
returns-clause-wrote g c = rw (sym c.writer.view_is) (wrote_none Writer c.writer.inside.seat.me.0 _ _ refl refl (settled g c))

pub returns-clause-same : goal.returns-clause-same
returns-clause-same g c = rw (sym c.writer.view_is) (c.load.ensures.0 ∙ c.join_seat.ensures.0, ap (λ w. w.sizes) (settled g c).same, refl)

pub returns-clause-home : goal.returns-clause-home
returns-clause-home g c q out =
    let h = settled g c in
    let inv = c.writer.invariant in
    let free : get_or c.writer.inside.seat.me.0.out q false ≡ false =
    ap (λ l. get_or l q false) (sym inv.is_out) ∙ (ap (λ w. get_or w.out q false) c.writer.view_is ∙ out) in
    ap (λ w. own_entries (q + 1) w.seen) h.same
    ∙ (sym (h.stay inv.role q free (λ e. omega arith)) ∙ ap (λ w. own_entries (q + 1) w.seen) c.writer.view_is)
