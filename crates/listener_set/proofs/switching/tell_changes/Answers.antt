use Rattle.std.proofs.Common.{arith}
use Rattle.listener_set.proofs.SwitchingLaws.{changes_cut, step_items, step_len, step_room}
use Rattle.listener_set.proofs.switching.tell_changes.Goals as goal

pub tell_change-requires : goal.tell_change-requires
tell_change-requires c =
    let w = c.loop-change.invariant in
    let cut = changes_cut c.args.order.now c.args.changes.now c.loop-change.change-index c.change-item.result c.loop-change-test.true c.change-item.is in
    step_room _ _ _ _ _ _ _ cut w.len c.requires w.room

pub loop-change-preserved : goal.loop-change-preserved
loop-change-preserved c =
    let w = c.loop-change.invariant in
    let cut = changes_cut c.args.order.now c.args.changes.now c.loop-change.change-index c.change-item.result c.loop-change-test.true c.change-item.is in
    record {
      items = rw c.tell_change.ensures.items (step_items _ _ _ _ _ cut w.items);
      len = step_len _ _ _ _ _ _ cut c.tell_change.ensures.len w.len;
      room = let r = c.tell_change.ensures.room in let s = w.room in omega arith;
    }
