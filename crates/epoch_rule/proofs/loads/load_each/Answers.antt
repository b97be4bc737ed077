use Rattle.epoch_rule.proofs.Common.{◌≡◌, ℕ, ◌+◌, ◌*◌, ◌-◌, ◌≤◌, false, List, ◌++◌, length, take, sym, ap, ◌∙◌, subst, arith, bytes_of, HasLoaded}
use Rattle.epoch_rule.proofs.Common.{length-take-le, Load, refl, lt-ltb}
use Rattle.std.proofs.lemmas.Slice.{take-put_mid}
use Rattle.epoch_rule.proofs.LoadLaws.{loaded_more}
use Rattle.epoch_rule.proofs.PassLaws.{begins_added, entered_still, pass_added}
use Rattle.epoch_rule.proofs.TouchLaws.{ready_pass}
use Rattle.epoch_rule.specs.declared.touches.Touch.TheVariants.{Step}
use Rattle.epoch_rule.proofs.loads.load_each.Goals as goal

pub step_word-word-requires-clause-ready : goal.step_word-word-requires-clause-ready
step_word-word-requires-clause-ready g c =
    let inv = c.loop-i.invariant in
    let room = c.requires.room in
    let inside = c.requires.inside in
    let here = c.loop-i-test.true in
    let at = inv.3 in
    ready_pass g.E.Edition.counted g.E.Edition.forest g.E.Edition.places c.args.shared.now.key c.args.pass.0 c.loop-i.seat.me.0 at.edition c.args.place.now
    (c.args.first + c.loop-i.i) (Step Load) at.law (inv.2.0 ∙ c.requires.role) c.requires.near at.entered (omega (arith, room, here)) tt
    (at.carried, lt-ltb _ _ (omega (arith, inside, here)))

pub loop-i-preserved : goal.loop-i-preserved
loop-i-preserved g c =
    let inv = c.loop-i.invariant in
    let p : ℕ = c.args.pass.0 in
    let place = c.args.place.now in
    let i : ℕ = c.loop-i.i in
    let out : List ℕ = c.loop-i.out in
    let v = c.loop-i.seat.me.0 in
    let w = c.step_word-word.new.seat.me.0 in
    let r : ℕ = c.step_word-word.result in
    let told = c.step_word-word.ensures.told in
    let before = c.args.seat.now.me.0 in
    let at = inv.3 in
    let same = pass_added p v _ _ r w refl told in
    let got : List ℕ = c.put_word.new.out in
    let bytes : got ≡ bytes_of r 8 false = c.put_word.ensures.bytes in
    let long : length got ≡ 8 = ap (λ l. length l) bytes in
    let most : 8 * i + 8 ≤ length out = omega (arith, c.loop-i-test.true, c.loop-i.auto.out) in
    let size : length (take (8 * i) out) ≡ 8 * i = length-take-le (8 * i) out (omega (arith, most)) in
    let more = loaded_more before.sizes p place c.args.first i r (take (8 * i) out) before.seen v w size inv.2.1 inv.4 told in
    let end : 8 * (i + 1) ≡ 8 * i + length got = omega (arith, long) in
    let inside : 8 * i ≤ length out = omega (arith, most) in (
      c.step_word-word.ensures.table ∙ inv.0,
      c.step_word-word.ensures.seat.0 ∙ inv.1,
      (told.role ∙ inv.2.0, told.sizes ∙ inv.2.1, same ∙ inv.2.2),
      record {
        edition = at.edition;
        entered = entered_still g.E.Edition.counted g.E.Edition.forest g.E.Edition.places p v w at.edition told.sizes
            (begins_added (p + 1) v _ _ r w told) same at.entered;
        law = at.law;
        carried = at.carried;
      },
      subst (λ bs. HasLoaded before.sizes p place c.args.first before.seen bs w.seen)
          (sym (take-put_mid (8 * i) (8 * i + 8 - 8 * i) out got (8 * (i + 1)) end inside ∙ ap (λ bs. take (8 * i) out ++ bs) bytes)) more,
    )
