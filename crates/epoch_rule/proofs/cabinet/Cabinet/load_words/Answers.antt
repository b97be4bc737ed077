use Rattle.epoch_rule.proofs.Common.{arith, ℕ, ◌≤◌, ◌<◌, sym, ap, ◌∙◌, subst, IsEdition, past, same_Some, Sizes, value_in, IsLegal}
use Rattle.epoch_rule.proofs.PassLaws.{same_sizes, entered_at, stands_still, suits_on}
use Rattle.epoch_rule.proofs.TouchLaws.{fits_extent}
use Rattle.epoch_rule.proofs.cabinet.Cabinet.load_words.Goals as goal
use Rattle.mem_base.proofs.PlaceLaws.{one_of}

pub load_each-requires-clause-room : goal.load_each-requires-clause-room
load_each-requires-clause-room g c =
    let inv = c.pass.invariant in
    let place = c.args.place.now in
    let t = ap (λ v. v.cabinet) c.pass.view_is ∙ (c.requires.own ∙ sym (ap (λ w. w.id) c.self.view_is)) in
    let wide = (same_sizes _ _ _ _ t inv.2 c.self.invariant.suits).1 in
    let may = c.requires.carried in
    let there = ap (λ v. v.edition) c.pass.view_is ∙ may.1 in
    let s = entered_at g.E.Edition.counted g.E.Edition.forest g.E.Edition.places c.pass.inside.id.0 c.pass.inside.seat.me c.pass.inside.edition may.0
    there inv.3 in
    let fits : past place ≤ c.pass.inside.seat.me.0.sizes.words =
    one_of (λ q. past q ≤ c.pass.inside.seat.me.0.sizes.words) place (g.E.Edition.places may.0) s.roomy may.2 in
    let same = same_Some _ _ (sym (ap value_in c.in-Some.is) ∙ there) in
    let law = subst (λ e. IsEdition (g.E.Edition.forest e) (g.E.Edition.places e)) (c.deref.ensures ∙ same) c.number.ensures.shown in
    let held = fits_extent (g.E.Edition.forest may.0) (g.E.Edition.places may.0) place law may.2 in
    let inside = c.requires.inside in omega arith

pub invariant_of-pass : goal.invariant_of-pass
invariant_of-pass g c =
    let inv = c.pass.invariant in
    let p : ℕ = c.pass.inside.id.0 in
    let stays = c.load_each.ensures.stays in
    let adds = c.load_each.ensures.loaded.adds in
    let after = c.load_each.new.seat.me in (
      stays.0 ∙ inv.0,
      subst (λ (y : Sizes). p < y.passes) (sym stays.1) inv.1,
      suits_on _ _ _ _ (sym c.load_each.ensures.table) (sym stays.1) inv.2,
      stands_still g.E.Edition.counted g.E.Edition.forest g.E.Edition.places p c.pass.inside.seat.me after c.pass.inside.edition c.load_each.ensures.slots
          stays.1 adds.begins stays.2 inv.3,
      subst (λ (z : Sizes). IsLegal z after.0.seen) (sym stays.1) (adds.lawful inv.4),
    )
