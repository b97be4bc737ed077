use Rattle.std.proofs.Common.{◌≡◌, Some, drop, arith}
use Rattle.listener_set.specs.Switches.{first_live, next_of}
use Rattle.listener_set.specs.declared.switching.NextSwitch.TheVariants.{Lost, Gained}
use Rattle.listener_set.proofs.SwitchingLaws.{turn_lost, turn_gained, step_items, step_len, step_room}
use Rattle.listener_set.proofs.switching.tell_switches.Goals as goal

pub tell_each-requires : goal.tell_each-requires
tell_each-requires c =
    let w = c.loop-next.invariant in
    let at : next_of (first_live (drop c.loop-next.i c.args.lost.now)) (first_live (drop c.loop-next.j c.args.gained.now)) ≡ Some (Lost c.in-Lost.live) =
    let p = c.live_at.ensures in let q = c.live_at-in-loop-next.ensures in let s = c.next_switch.ensures in let t = c.in-Some.is in let u = c.in-Lost.is in
    cc in
    let turn = turn_lost c.args.space c.args.order.now c.args.lost.now c.args.gained.now c.loop-next.i c.loop-next.j c.in-Lost.live w.rising_lost
    w.rising_gained at in
    step_room _ _ _ _ _ _ _ turn.are w.len c.requires.room w.room

pub loop-next-preserved-in-Lost : goal.loop-next-preserved-in-Lost
loop-next-preserved-in-Lost c =
    let w = c.loop-next.invariant in
    let at : next_of (first_live (drop c.loop-next.i c.args.lost.now)) (first_live (drop c.loop-next.j c.args.gained.now)) ≡ Some (Lost c.in-Lost.live) =
    let p = c.live_at.ensures in let q = c.live_at-in-loop-next.ensures in let s = c.next_switch.ensures in let t = c.in-Some.is in let u = c.in-Lost.is in
    cc in
    let turn = turn_lost c.args.space c.args.order.now c.args.lost.now c.args.gained.now c.loop-next.i c.loop-next.j c.in-Lost.live w.rising_lost
    w.rising_gained at in
    record {
      items = rw c.tell_each.ensures.items (step_items _ _ _ _ _ turn.are w.items);
      len = step_len _ _ _ _ _ _ turn.are c.tell_each.ensures.len w.len;
      room = let r = c.tell_each.ensures.room in let s = w.room in omega arith;
      rising_lost = turn.rising;
      rising_gained = w.rising_gained;
      within_lost = turn.within;
      within_gained = w.within_gained;
    }

pub tell_each-requires-in-Gained : goal.tell_each-requires-in-Gained
tell_each-requires-in-Gained c =
    let w = c.loop-next.invariant in
    let at : next_of (first_live (drop c.loop-next.i c.args.lost.now)) (first_live (drop c.loop-next.j c.args.gained.now)) ≡ Some (Gained c.in-Gained.live) =
    let p = c.live_at.ensures in let q = c.live_at-in-loop-next.ensures in let s = c.next_switch.ensures in let t = c.in-Some.is in let u = c.in-Gained.is in
    cc in
    let turn = turn_gained c.args.space c.args.order.now c.args.lost.now c.args.gained.now c.loop-next.i c.loop-next.j c.in-Gained.live w.rising_lost
    w.rising_gained at in
    step_room _ _ _ _ _ _ _ turn.are w.len c.requires.room w.room

pub loop-next-preserved : goal.loop-next-preserved
loop-next-preserved c =
    let w = c.loop-next.invariant in
    let at : next_of (first_live (drop c.loop-next.i c.args.lost.now)) (first_live (drop c.loop-next.j c.args.gained.now)) ≡ Some (Gained c.in-Gained.live) =
    let p = c.live_at.ensures in let q = c.live_at-in-loop-next.ensures in let s = c.next_switch.ensures in let t = c.in-Some.is in let u = c.in-Gained.is in
    cc in
    let turn = turn_gained c.args.space c.args.order.now c.args.lost.now c.args.gained.now c.loop-next.i c.loop-next.j c.in-Gained.live w.rising_lost
    w.rising_gained at in
    record {
      items = rw c.tell_each-in-Gained.ensures.items (step_items _ _ _ _ _ turn.are w.items);
      len = step_len _ _ _ _ _ _ turn.are c.tell_each-in-Gained.ensures.len w.len;
      room = let r = c.tell_each-in-Gained.ensures.room in let s = w.room in omega arith;
      rising_lost = w.rising_lost;
      rising_gained = turn.rising;
      within_lost = w.within_lost;
      within_gained = turn.within;
    }
