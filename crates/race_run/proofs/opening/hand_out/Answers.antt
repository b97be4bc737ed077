use Rattle.std.proofs.Common.{◌∙◌, ap, rules, set, true}
use Rattle.race_run.proofs.OpeningLaws.{new_cpu, new_more, out_more, some_free}
use Rattle.race_run.proofs.opening.hand_out.Goals as goal

pub hand_one-requires-clause-some : goal.hand_one-requires-clause-some
hand_one-requires-clause-some c = (some_free c.loop-count.desk.seat.out c.loop-count._count c.loop-count.invariant.0 c.loop-count-test.true).1

pub loop-count-preserved : goal.loop-count-preserved
loop-count-preserved c =
    let h = c.loop-count.invariant in
    let e = c.hand_one.ensures in
    let count = c.loop-count._count in
    let free = (some_free c.loop-count.desk.seat.out count h.0 c.loop-count-test.true).0 in (
      e.out ∙ ap (λ n. set c.loop-count.desk.seat.out n true) (e.new.number ∙ free) ∙ out_more c.loop-count.desk.seat.out count h.0 c.loop-count-test.true,
      search rules,
      search rules,
      new_more c.args.desk.now.seat.cabinet count c.loop-count.cpus.items c.push_reserved.new.self.items c.hand_one.result h.1 c.push_reserved.ensures.items h.3
          (new_cpu c.loop-count.desk.seat c.hand_one.result c.args.desk.now.seat.cabinet count e.new h.4 free h.6),
      e.same.0 ∙ h.4,
      e.same.1 ∙ h.5,
      e.seen ∙ h.6,
      e.part ∙ h.7,
    )
