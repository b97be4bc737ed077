use Rattle.epoch_rule.proofs.Common.{arith, ◌≡◌, ℕ, ◌+◌, ◌<◌, ◌≤◌, sym, refl, ap, ◌∙◌, subst, TableId, past, Sizes, pass_id, IsTouch, IsEnteredIn, Suits}
use Rattle.epoch_rule.proofs.Common.{value_in, IsEdition, same_Some, Pass}
use Rattle.epoch_rule.proofs.PassLaws.{entered_at, stands_still, suits_on, near_in, same_sizes}
use Rattle.epoch_rule.proofs.TouchLaws.{reach_inside, fits_extent, ready_pass, kept, pass_kept, shown}
use Rattle.epoch_rule.proofs.hands.PassHand.touch_in.Given.{Over}
use Rattle.epoch_rule.proofs.hands.PassHand.touch_in.Goals.{After-number}
use Rattle.epoch_rule.proofs.hands.PassHand.touch_in.Goals as goal
use Rattle.mem_base.proofs.PlaceLaws.{one_of}

-- the pass is entered in an edition, whose places are those of its forest
entered : (g : Over) (c : After-number g) → IsEnteredIn g.E.Edition.counted g.E.Edition.forest g.E.Edition.places c.self.inside.id.0 c.self.inside.seat.me.0
    c.requires.may.0
entered g c = entered_at g.E.Edition.counted g.E.Edition.forest g.E.Edition.places c.self.inside.id.0 c.self.inside.seat.me c.self.inside.edition
    c.requires.may.0 (ap (λ v. v.edition) c.self.view_is ∙ c.requires.may.1) c.self.invariant.3

law : (g : Over) (c : After-number g) → IsEdition (g.E.Edition.forest c.requires.may.0) (g.E.Edition.places c.requires.may.0)
law g c =
    let same = same_Some _ _ (sym (ap value_in c.in-Some.is) ∙ (ap (λ v. v.edition) c.self.view_is ∙ c.requires.may.1)) in
    subst (λ e. IsEdition (g.E.Edition.forest e) (g.E.Edition.places e)) (c.deref.ensures ∙ same) c.number.ensures.shown

-- the touch is one of the place, by the pass's own number
kind : (g : Over) (c : After-number g) → IsTouch (Pass (pass_id c.self.inside.id.0)) c.args.place.now c.args.word c.args.touch
kind g c = subst (λ (n : ℕ). IsTouch (Pass (pass_id n)) c.args.place.now c.args.word c.args.touch) (ap (λ v. v.number) (sym c.self.view_is)) c.requires.kind

room : (g : Over) (c : After-number g) (t : TableId) (z : Sizes) → c.self.inside.seat.table_id ≡ t → Suits t z
    → c.args.place.now.start + c.args.word < z.words
room g c t z same suits =
    let wide : c.self.inside.seat.me.0.sizes.words ≡ z.words =
    (same_sizes c.self.inside.seat.table_id t c.self.inside.seat.me.0.sizes z same c.self.invariant.2 suits).1 in
    let may = c.requires.may in
    let fits : past c.args.place.now ≤ c.self.inside.seat.me.0.sizes.words =
    one_of (λ q. past q ≤ c.self.inside.seat.me.0.sizes.words) c.args.place.now (g.E.Edition.places may.0) (entered g c).roomy may.2.0 in
    let near = reach_inside c.args.place.now c.self.inside.id.0 c.args.word c.args.touch
    (fits_extent (g.E.Edition.forest may.0) (g.E.Edition.places may.0) c.args.place.now (law g c) may.2.0) (kind g c) may.2.1 in
    omega arith

pub touch_word-requires-clause-ready : goal.touch_word-requires-clause-ready
touch_word-requires-clause-ready g c =
    let at = (goal.at.touch_word-requires-clause-ready g c).After-number in
    let t = ap (λ v. v.cabinet) c.self.view_is ∙ (c.requires.own ∙ sym (ap (λ w. w.id) c.cabinet.view_is)) in
    let inv = c.self.invariant in
    ready_pass g.E.Edition.counted g.E.Edition.forest g.E.Edition.places c.cabinet.inside.table.shared.key c.self.inside.id.0 c.self.inside.seat.me.0
    c.requires.may.0 c.args.place.now c.args.word c.args.touch (law g at) inv.0 (near_in _ _ _ _ _ t inv.2 c.cabinet.invariant.suits inv.1) (entered g at)
    (room g at _ _ t c.cabinet.invariant.suits) (kind g at) c.requires.may.2

pub touch_word-requires-clause-room : goal.touch_word-requires-clause-room
touch_word-requires-clause-room g c =
    let t = ap (λ v. v.cabinet) c.self.view_is ∙ (c.requires.own ∙ sym (ap (λ w. w.id) c.cabinet.view_is)) in
    room g (goal.at.touch_word-requires-clause-room g c).After-number _ _ t c.cabinet.invariant.suits

pub invariant_of-self : goal.invariant_of-self
invariant_of-self g c =
    let inv = c.self.invariant in
    let p : ℕ = c.self.inside.id.0 in
    let kind = kind g (goal.at.invariant_of-self g c).After-number in
    let told = c.touch_word.ensures.told in
    let k = kept (Pass (pass_id p)) c.args.place.now c.args.word c.args.touch c.self.inside.seat.me.0 c.touch_word.result c.touch_word.new.seat.me.0 kind told
    in
    let same = pass_kept p c.args.place.now c.args.word c.args.touch c.self.inside.seat.me.0 c.touch_word.result c.touch_word.new.seat.me.0 kind told in (
      k.role ∙ inv.0,
      subst (λ (y : Sizes). p < y.passes) (sym k.sizes) inv.1,
      suits_on _ _ _ _ (sym c.touch_word.ensures.table) (sym k.sizes) inv.2,
      stands_still g.E.Edition.counted g.E.Edition.forest g.E.Edition.places p c.self.inside.seat.me c.touch_word.new.seat.me c.self.inside.edition
          c.touch_word.ensures.seat.0 k.sizes k.begins same inv.3,
      k.lawful inv.4,
    )

pub returns-clause-shown : goal.returns-clause-shown
returns-clause-shown g c =
    rw (sym c.self.view_is) (shown (Pass (pass_id c.self.inside.id.0)) c.args.place.now c.args.word c.args.touch c.self.inside.seat.me.0
    c.touch_word.result c.touch_word.new.seat.me.0 (kind g (goal.at.returns-clause-shown g c).After-number) c.touch_word.ensures.told)

pub returns-clause-stays : goal.returns-clause-stays
returns-clause-stays g c =
    let k = kept (Pass (pass_id c.self.inside.id.0)) c.args.place.now c.args.word c.args.touch c.self.inside.seat.me.0 c.touch_word.result
    c.touch_word.new.seat.me.0 (kind g (goal.at.returns-clause-stays g c).After-number) c.touch_word.ensures.told in
    rw (sym c.self.view_is) (c.touch_word.ensures.table, refl, k.sizes, refl)
