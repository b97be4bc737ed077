use Rattle.std.proofs.Common.{◌-◌, ◌++◌, ap, ◌∙◌, take, arith}
use Rattle.listener_set.specs.Sets.{told_down}
use Rattle.listener_set.proofs.DeliveringLaws.{turn_down, count_down}
use Rattle.listener_set.proofs.delivering.tell_down.Goals as goal

pub loop-i-preserved : goal.loop-i-preserved
loop-i-preserved c =
    let ls = c.args.order.now in
    let i = c.loop-i.i in
    let inv = c.loop-i.invariant in
    record {
      items = ap (λ x. x ++ told_down c.args.space c.args.event (take (i - 1) ls)) c.tell_one.ensures.items
          ∙ turn_down c.args.space c.args.event ls i _ _ _ c.loop-i-test.true c.loop-i.auto.i inv.items;
      len = count_down c.args.space c.args.event ls i _ _ _ _ c.loop-i-test.true c.loop-i.auto.i c.tell_one.ensures.len inv.len;
      room = let r = c.tell_one.ensures.room in let s = inv.room in omega arith;
    }
