use Rattle.epoch_rule.proofs.Common.{arith, ◌≡◌, ℕ, ◌+◌, ◌-◌, get_or, set, length-set, sym, ap, ◌∙◌, subst, false, Option, unwrap_or, first_generations, View}
use Rattle.epoch_rule.proofs.Common.{own_entries, generations_after_all, IsLegal, taken_in, IsSettled, IsCopy, generations_seen, Writer, slice_set}
use Rattle.epoch_rule.proofs.Common.{get_or-set_other, refl}
use Rattle.epoch_rule.proofs.SeatSteps.{set_false, takes_in, settle}
use Rattle.epoch_rule.proofs.PassLaws.{stands_out}
use Rattle.epoch_rule.proofs.SweepLaws.{writing_seat}
use Rattle.epoch_rule.proofs.cabinet.Cabinet.take_in.Given.{Over}
use Rattle.epoch_rule.proofs.cabinet.Cabinet.take_in.Goals.{After-load}
use Rattle.epoch_rule.proofs.cabinet.Cabinet.take_in.Goals as goal
use Rattle.epoch_rule.proofs.TouchLaws.{wrote_none}

pub join_seat-requires : goal.join_seat-requires
join_seat-requires g c =
    let a = c.self.invariant.suits.0 in
    let still = stands_out g.E.Edition.counted g.E.Edition.forest g.E.Edition.places c.pass.inside.id.0 c.pass.inside.seat.me c.pass.inside.edition
    (ap (λ v. v.edition) c.pass.view_is ∙ c.requires.out) c.pass.invariant.3 in (
      ap (λ v. v.cabinet) c.writer.view_is ∙ (c.requires.own.0 ∙ sym (ap (λ w. w.id) c.self.view_is)),
      ap (λ v. v.cabinet) c.pass.view_is ∙ (c.requires.own.1 ∙ sym (ap (λ w. w.id) c.self.view_is)),
      still.1,
      omega arith,
      takes_in (IsCopy g.E.Edition.counted g.E.Edition.forest g.E.Edition.places) _ _ _ _ _ c.pass.inside.id.0 c.writer.invariant.role
          c.pass.invariant.0 still.0,
    )

pub load-requires : goal.load-requires
load-requires g c =
    let a = c.self.invariant.suits.0 in (
      c.join_seat.ensures.0 ∙ (ap (λ v. v.cabinet) c.writer.view_is ∙ (c.requires.own.0 ∙ sym (ap (λ w. w.id) c.self.view_is))),
      omega arith,
      settle (IsCopy g.E.Edition.counted g.E.Edition.forest g.E.Edition.places) _ _ _ _ 0,
    )

-- the view that took the other in, after the look
settled : (g : Over) (c : After-load g) → IsSettled 0 (taken_in c.writer.inside.seat.me.0 c.pass.inside.seat.me.0) c.load.new.seat.me.0
settled g c = subst (λ m. IsSettled 0 m.0 c.load.new.seat.me.0) c.join_seat.ensures.2
    (c.load.ensures.2.1 0 (ap (λ m. m.0.role) c.join_seat.ensures.2 ∙ c.writer.invariant.role))

seen : (g : Over) (c : After-load g) → c.load.new.seat.me.0.seen ≡ (taken_in c.writer.inside.seat.me.0 c.pass.inside.seat.me.0).seen
seen g c = ap (λ w. w.seen) (settled g c).same

-- the number of the pass, by its role
number : (g : Over) (c : After-load g) → unwrap_or c.pass.inside.seat.me.0.role 0 - 1 ≡ c.pass.inside.id.0
number g c = ap (λ r. unwrap_or r 0 - 1) c.pass.invariant.0 ∙ (let n : ℕ = c.pass.inside.id.0 in let same : n + 1 - 1 ≡ n = omega arith in same)

pub invariant_of-writer : goal.invariant_of-writer
invariant_of-writer g c =
    let at = (goal.at.invariant_of-writer g c).After-load in
    let inv = c.writer.invariant in
    let h = settled g at in
    writing_seat _ _ c.writer.inside.seat.me c.load.new.seat.me _ _ c.writer.inside.out.items _ (c.load.ensures.0 ∙ c.join_seat.ensures.0)
    (c.load.ensures.2.0 ∙ ap (λ m. m.1) c.join_seat.ensures.2) (ap (λ w. w.role) h.same) (ap (λ w. w.held) h.same, ap (λ w. w.next) h.same)
    (ap (λ w. w.sizes) h.same)
    (ap generations_seen h.same ∙ ap (generations_after_all (first_generations c.writer.inside.seat.me.0.sizes.passes)) (sym h.quiet))
    (subst (λ w. IsLegal w.sizes w.seen) (sym h.same) h.lawful)
    ((λ i. slice_set (inv.is_out i) ((c.number.ensures.value ∙ sym (number g at)) i) false) ∙ sym (ap (λ w. w.out) h.same))
    (length-set c.writer.inside.out.items c.number.result false) inv

pub returns-clause-longer : goal.returns-clause-longer
returns-clause-longer g c = rw (sym c.writer.view_is, sym c.pass.view_is) (seen g (goal.at.returns-clause-longer g c).After-load)

pub returns-clause-seen : goal.returns-clause-seen
returns-clause-seen g c =
    let at = (goal.at.returns-clause-seen g c).After-load in
    rw (sym c.pass.view_is) ((settled g at).told.0, (settled g at).told.1 ∙ sym (seen g at))

pub returns-clause-wrote : goal.returns-clause-wrote
returns-clause-wrote g c =
    rw (sym c.writer.view_is) (wrote_none Writer c.writer.inside.seat.me.0 _ _ refl refl (settled g (goal.at.returns-clause-wrote g c).After-load))

pub returns-clause-same : goal.returns-clause-same
returns-clause-same g c =
    rw (sym c.writer.view_is) (c.load.ensures.0 ∙ c.join_seat.ensures.0, ap (λ w. w.sizes) (settled g (goal.at.returns-clause-same g c).After-load).same)

pub returns-clause-brought : goal.returns-clause-brought
returns-clause-brought g c =
    let at = (goal.at.returns-clause-brought g c).After-load in
    let h = settled g at in
    let p : ℕ = c.pass.inside.id.0 in
    let v : View = c.writer.inside.seat.me.0 in
    let free : get_or (taken_in v c.pass.inside.seat.me.0).out p false ≡ false =
    subst (λ (i : ℕ). get_or (set v.out i false) p false ≡ false) (sym (number g at)) (set_false v.out p) in
    rw (sym c.pass.view_is) (ap (λ w. own_entries (p + 1) w.seen) h.same
    ∙ sym (h.brought c.writer.invariant.role p free (ap (λ (r : Option ℕ). unwrap_or r 0) c.pass.invariant.0)))

pub returns-clause-others : goal.returns-clause-others
returns-clause-others g c q ne out =
    let at = (goal.at.returns-clause-others g c).After-load in
    let h = settled g at in
    let v : View = c.writer.inside.seat.me.0 in
    let came : (taken_in v c.pass.inside.seat.me.0).came ≡ c.pass.inside.id.0 + 1 = ap (λ (r : Option ℕ). unwrap_or r 0) c.pass.invariant.0 in
    let number : c.pass.inside.id.0 ≡ c.args.pass.number = ap (λ w. w.number) c.pass.view_is in
    let before : get_or v.out q false ≡ false =
    ap (λ l. get_or l q false) (sym c.writer.invariant.is_out) ∙ (ap (λ w. get_or w.out q false) c.writer.view_is ∙ out) in
    let free : get_or (taken_in v c.pass.inside.seat.me.0).out q false ≡ false =
    get_or-set_other v.out (unwrap_or c.pass.inside.seat.me.0.role 0 - 1) q false false (λ e. ne (omega arith)) ∙ before in
    ap (λ w. own_entries (q + 1) w.seen) h.same
    ∙ (sym (h.stay c.writer.invariant.role q free (λ e. ne (omega arith))) ∙ ap (λ w. own_entries (q + 1) w.seen) c.writer.view_is)
