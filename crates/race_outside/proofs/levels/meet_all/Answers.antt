use Rattle.std.proofs.Common.{◌<◌, get_or, length, subst, sym, arith}
use Rattle.generation.specs.Published.{Published}
use Rattle.epoch_rule.specs.Values.{PassValue}
use Rattle.desk_orders.specs.Records.{RecordState}
use Rattle.race_levels.specs.Levels.{IsHeard}
use Rattle.race_outside.proofs.levels.meet_all.Goals as goal

pub meet_one-requires-clause-heard : goal.meet_one-requires-clause-heard
meet_one-requires-clause-heard c =
    let h = c.loop-i.invariant in
    let d = c.index-cpus-i.result in
    let near : c.loop-i.i < length c.args.cpus.now = (let t = c.loop-i-test.true in let e = h.1 in omega arith) in
    let old : PassValue Published = get_or c.args.cpus.now c.loop-i.i d in
    subst (λ (x : PassValue Published). IsHeard c.loop-i.desk.seat.seen x) (sym (h.3 c.loop-i.i d (omega arith)))
    (subst (λ (r : RecordState). IsHeard r.seat.seen old) (sym h.0) (c.requires.heard c.loop-i.i d near))
