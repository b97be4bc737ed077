use Rattle.std.proofs.Common.{◌≡◌, ◌∙◌, rules, ap, subst, sym}
use Rattle.epoch_rule.specs.Values.{PassValue}
use Rattle.generation.specs.Published.{Published}
use Rattle.bounded_write.specs.declared.devices.Came.{Came}
use Rattle.bounded_write.specs.Writes.{HasCome}
use Rattle.bounded_write.proofs.RunLaws.{come_of}
use Rattle.bounded_write.proofs.devices.write_until.Goals as goal

pub returns-clause-come : goal.returns-clause-come
returns-clause-come c =
    let h = c.write-result.ensures.done in
    let hand = c.write-result.new.hand in
    let came : Came = record { result = c.write-result.result; stopped = hand.stopped; begun = hand.begun } in
    let same : c.pass-1.given.0 ≡ hand.pass.now = search rules in
    subst (λ (w : PassValue Published). HasCome c.args.pass.now c.args.space c.args.addr c.args.bytes.now c.args.tries came w) (sym same)
    (come_of c.args.pass.now hand.pass.now c.args.space c.args.addr c.args.bytes.now c.args.tries came h.replies h.each h.read h.made.2)

pub returns-clause-stays : goal.returns-clause-stays
returns-clause-stays c =
    let same : c.pass-1.given.0 ≡ c.write-result.new.hand.pass.now = search rules in
    let m = c.write-result.ensures.done.made.2.made in
    (ap (λ (w : PassValue Published). w.cabinet) same ∙ m.cabinet, ap (λ (w : PassValue Published). w.edition) same ∙ m.edition)
