use Rattle.epoch_rule.proofs.Common.{arith, ◌≡◌, ℕ, ◌<◌, [], ◌∷◌, ◌++◌, length, Some, sym, refl, ap, ◌∙◌, subst, arc_value, rest, Nothing}
use Rattle.epoch_rule.proofs.Common.{Sizes, pass_id, history_entry, generations_published, generation_published, IsLegal, pass_seen, IsCopy, HasItsEdition}
use Rattle.epoch_rule.proofs.Common.{generation_stays, View, Pass, Wrote, Leave}
use Rattle.epoch_rule.proofs.ActorSteps.{leave}
use Rattle.epoch_rule.proofs.PassLaws.{pass_added, suits_on, near_in}
use Rattle.epoch_rule.proofs.cabinet.Cabinet.leave.Goals as goal
use Rattle.epoch_rule.proofs.TouchLaws.{wrote}
use Rattle.epoch_rule.specs.Layout.{slot_of}

pub store-requires : goal.store-requires
store-requires g c =
    let inv = c.pass.invariant in
    let p : ℕ = c.pass.inside.id.0 in
    let a = c.in-Some.edition in
    let r : ℕ = c.number.result in
    let st = subst (HasItsEdition g.E.Edition.counted g.E.Edition.forest g.E.Edition.places p c.pass.inside.seat.me)
    (sym c.take.ensures.value ∙ c.in-Some.is) inv.3 in
    let is : r ≡ g.E.Edition.counted (arc_value a) = c.number.ensures.value ∙ ap g.E.Edition.counted c.deref.ensures in
    let x = c.exchange.ensures in
    let seen : c.exchange.new.seat.me.0.seen ≡ c.pass.inside.seat.me.0.seen = ap (λ m. m.0.seen) x.3 in
    let own = ap (λ v. v.cabinet) c.pass.view_is ∙ (c.requires.own ∙ sym (ap (λ w. w.id) c.self.view_is)) in
    let u = c.self.invariant.suits.0 in
    let near = near_in _ _ _ _ p own inv.2 c.self.invariant.suits inv.1 in
    rw c.number-who.ensures.value (
      x.0 ∙ own,
      omega arith,
      leave (IsCopy g.E.Edition.counted g.E.Edition.forest g.E.Edition.places) _ _ _ c.exchange.new.seat.me p r (Some a) near c.self.invariant.suits.1
          (ap (λ m. m.0.role) x.3 ∙ inv.0)
          (ap (λ m. (pass_seen p m.0).entered) x.3 ∙ (st.0.entered ∙ ap (λ (y : ℕ). Some y) (sym is)))
          (ap (λ m. m.1) x.3 ∙ (λ i. (slot_of (c.number-who.ensures.value i) r, Some a) ∷ rest (st.1 i)))
          (λ log same lawful begins. (
            a,
            refl,
            sym is,
            st.0.shows ∙ (ap (generation_published c.pass.inside.seat.me.0.seen) (sym is)
                ∙ sym (generation_stays c.pass.inside.seat.me.0.seen log (begins.0, ap (λ l. l ++ begins.0) (sym seen) ∙ begins.1) r
                (subst (λ (y : ℕ). y < length (generations_published c.pass.inside.seat.me.0.seen)) (sym is) st.0.published))),
          )),
    )

pub invariant_of-pass : goal.invariant_of-pass
invariant_of-pass g c =
    let inv = c.pass.invariant in
    let p : ℕ = c.pass.inside.id.0 in
    let x = c.exchange.ensures in
    let role = ap (λ m. m.0.role) x.3 ∙ inv.0 in
    let did = c.store.ensures.2.1 p role in
    let sizes = did.sizes ∙ ap (λ m. m.0.sizes) x.3 in (
      did.role ∙ role,
      subst (λ (y : Sizes). p < y.passes) (sym sizes) inv.1,
      suits_on _ _ _ _ (sym (c.store.ensures.0 ∙ x.0)) (sym sizes) inv.2,
      subst (HasItsEdition g.E.Edition.counted g.E.Edition.forest g.E.Edition.places p c.store.new.seat.me) (sym c.take.ensures.after)
          (pass_added p _ _ _ _ _ refl did, c.store.ensures.2.0),
      subst (λ (y : Sizes). IsLegal y c.store.new.seat.me.0.seen) (sym did.sizes) did.lawful,
    )

pub returns-in-Some-clause-events : goal.returns-in-Some-clause-events
returns-in-Some-clause-events g c =
    let x = c.exchange.ensures in
    let did = c.store.ensures.2.1 _ (ap (λ m. m.0.role) x.3 ∙ c.pass.invariant.0) in
    rw (sym c.pass.view_is) record {
      cabinet = c.store.ensures.0 ∙ x.0;
      number = refl;
      sizes = did.sizes ∙ ap (λ m. m.0.sizes) x.3;
      wrote = subst (λ (v : View). Wrote (Pass (pass_id c.pass.inside.id.0)) v.sizes v.seen
          (history_entry (Leave (pass_id c.pass.inside.id.0)) Nothing 0 ∷ []) c.store.new.seat.me.0.seen) (ap (λ m. m.0) x.3)
          (wrote (Pass (pass_id c.pass.inside.id.0)) _ _ _ _ _ refl did);
    }
