use Rattle.std.proofs.Common.{◌∙◌, ◌<◌, length, arith}
use Rattle.desk_orders.proofs.RecordLaws.{later_joins}
use Rattle.race_block.proofs.JoinLaws.{same_after, set_length, told_more}
use Rattle.race_join.proofs.joining.hear_all.Goals as goal

pub loop-at-preserved : goal.loop-at-preserved
loop-at-preserved c =
    let h = c.loop-at.invariant in
    let xs = c.args.actors.now in
    let ys = c.loop-at.actors in
    let i = c.loop-at.at in
    let y = c.hear_one.new.actor in
    let later = c.hear_one.ensures.later in
    let room : i < length xs = let t = c.loop-at-test.true in let e = h.2 in omega (arith, t, e) in (
      later_joins c.args.desk.now c.loop-at.desk c.hear_one.new.desk h.0 later,
      c.hear_one.ensures.entries ∙ h.1,
      h.2,
      set_length ys i y ∙ h.3,
      same_after xs ys i y h.4,
      told_more c.loop-at.desk.seat.seen c.hear_one.new.desk.seat.seen xs ys i _ y later.grew.seen h.3 room h.4 h.5 c.hear_one.ensures.told,
    )
