use Rattle.epoch_rule.proofs.Common.{arith, sym, refl, ap, ◌∙◌, subst, false, get_or, Writer, Sizes, WriterMay}
use Rattle.epoch_rule.proofs.PassLaws.{same_sizes}
use Rattle.epoch_rule.proofs.TouchLaws.{ready_writer, kept, generations_kept, shown, home_kept}
use Rattle.epoch_rule.proofs.hands.WriterSeatHand.touch_in.Goals as goal
use Rattle.epoch_rule.proofs.SweepLaws.{writing_seat}

pub touch_word-requires-clause-ready : goal.touch_word-requires-clause-ready
touch_word-requires-clause-ready g c =
    let t = ap (λ v. v.cabinet) c.self.view_is ∙ (c.requires.own ∙ sym (ap (λ w. w.id) c.cabinet.view_is)) in
    let wide = (same_sizes _ _ _ _ t c.self.invariant.suits c.cabinet.invariant.suits).1 in
    let may = subst (λ (z : Sizes). WriterMay z c.args.place.now c.args.word) (ap (λ v. v.sizes) (sym c.self.view_is)) c.requires.may in
    let fits = may.1 in
    ready_writer c.cabinet.inside.table.shared.key c.self.inside.seat.me.0 c.args.place.now c.args.word c.args.touch c.self.invariant.role c.requires.kind
    (may.0, omega arith)

pub touch_word-requires-clause-room : goal.touch_word-requires-clause-room
touch_word-requires-clause-room g c =
    let t = ap (λ v. v.cabinet) c.self.view_is ∙ (c.requires.own ∙ sym (ap (λ w. w.id) c.cabinet.view_is)) in
    let wide = (same_sizes _ _ _ _ t c.self.invariant.suits c.cabinet.invariant.suits).1 in
    let may = subst (λ (z : Sizes). WriterMay z c.args.place.now c.args.word) (ap (λ v. v.sizes) (sym c.self.view_is)) c.requires.may in
    let near = may.0 in
    let fits = may.1 in omega arith

pub invariant_of-self : goal.invariant_of-self
invariant_of-self g c =
    let told = c.touch_word.ensures.told in
    let k = kept Writer c.args.place.now c.args.word c.args.touch c.self.inside.seat.me.0 c.touch_word.result c.touch_word.new.seat.me.0 c.requires.kind told in
    let same = generations_kept c.args.place.now c.args.word c.args.touch c.self.inside.seat.me.0 c.touch_word.result c.touch_word.new.seat.me.0
    c.requires.kind told in
    writing_seat _ _ c.self.inside.seat.me c.touch_word.new.seat.me _ _ _ _ c.touch_word.ensures.table c.touch_word.ensures.seat.0 k.role
    c.touch_word.ensures.seat.1 k.sizes same (k.lawful c.self.invariant.lawful) (c.self.invariant.is_out ∙ sym k.out) refl c.self.invariant

pub returns-clause-shown : goal.returns-clause-shown
returns-clause-shown g c =
    rw (sym c.self.view_is) (shown Writer c.args.place.now c.args.word c.args.touch c.self.inside.seat.me.0 c.touch_word.result c.touch_word.new.seat.me.0
    c.requires.kind c.touch_word.ensures.told)

pub returns-clause-stays : goal.returns-clause-stays
returns-clause-stays g c =
    let k = kept Writer c.args.place.now c.args.word c.args.touch c.self.inside.seat.me.0 c.touch_word.result c.touch_word.new.seat.me.0 c.requires.kind
    c.touch_word.ensures.told in
    let home = home_kept c.args.place.now c.args.word c.args.touch c.self.inside.seat.me.0 c.touch_word.result c.touch_word.new.seat.me.0 c.requires.kind
    c.touch_word.ensures.told in
    rw (sym c.self.view_is) (c.touch_word.ensures.table, k.sizes, refl, λ q l. home q (ap (λ o. get_or o q false) (sym c.self.invariant.is_out) ∙ l))
