use Rattle.std.proofs.Common.{◌≡◌, drop, Some, arith}
use Rattle.view_walk.specs.Sides.{side_of, first_of}
use Rattle.view_walk.specs.declared.sides.Side.TheVariants.{OldOnly, Both, NewOnly}
use Rattle.view_walk.proofs.SideLaws.{walking_first, turn_old, turn_new, turn_both}
use Rattle.view_walk.proofs.walk.Goals as goal

pub loop-next-init : goal.loop-next-init
loop-next-init c = record {
  walking = rw (c.new-steps.ensures.items, c.in_ok-shown.ensures.items)
      (walking_first c.args.old.now c.args.new.now c.as_slice-olds.ensures.ranges c.as_slice-news.ensures.ranges);
  within_old = omega arith;
  within_new = omega arith;
}

pub loop-next-preserved-in-OldOnly : goal.loop-next-preserved-in-OldOnly
loop-next-preserved-in-OldOnly c =
    let at : side_of (first_of (drop c.loop-next.i c.args.old.now)) (first_of (drop c.loop-next.j c.args.new.now)) ≡ Some (OldOnly c.in-OldOnly.old) =
    let v = c.as_slice-olds.ensures.value in let w = c.as_slice-news.ensures.value in let p = c.range_at.ensures in
    let q = c.range_at-in-loop-next.ensures in let s = c.next_side.ensures in let t = c.in-Some.is in let u = c.in-OldOnly.is in cc in
    let turn = turn_old c.args.old.now c.args.new.now c.loop-next.steps.items c.loop-next.shown.items c.loop-next.i c.loop-next.j
    c.loop-next.invariant.walking c.in-OldOnly.old at in
    record { walking = rw c.in_ok-push-in-OldOnly.ensures.items turn.0; within_old = turn.1; within_new = c.loop-next.invariant.within_new }

pub loop-next-preserved-in-Both : goal.loop-next-preserved-in-Both
loop-next-preserved-in-Both c =
    let at : side_of (first_of (drop c.loop-next.i c.args.old.now)) (first_of (drop c.loop-next.j c.args.new.now)) ≡ Some (Both c.in-Both.old c.in-Both.new) =
    let v = c.as_slice-olds.ensures.value in let w = c.as_slice-news.ensures.value in let p = c.range_at.ensures in
    let q = c.range_at-in-loop-next.ensures in let s = c.next_side.ensures in let t = c.in-Some.is in let u = c.in-Both.is in cc in
    let turn = turn_both c.args.old.now c.args.new.now c.loop-next.steps.items c.loop-next.shown.items c.loop-next.i c.loop-next.j
    c.loop-next.invariant.walking c.in-Both.old c.in-Both.new at in
    record { walking = rw c.in_ok-keep-in-Both.ensures turn.0; within_old = turn.1; within_new = turn.2 }

pub loop-next-preserved : goal.loop-next-preserved
loop-next-preserved c =
    let at : side_of (first_of (drop c.loop-next.i c.args.old.now)) (first_of (drop c.loop-next.j c.args.new.now)) ≡ Some (NewOnly c.in-NewOnly.new) =
    let v = c.as_slice-olds.ensures.value in let w = c.as_slice-news.ensures.value in let p = c.range_at.ensures in
    let q = c.range_at-in-loop-next.ensures in let s = c.next_side.ensures in let t = c.in-Some.is in let u = c.in-NewOnly.is in cc in
    let turn = turn_new c.args.old.now c.args.new.now c.loop-next.steps.items c.loop-next.shown.items c.loop-next.i c.loop-next.j
    c.loop-next.invariant.walking c.in-NewOnly.new at in
    record { walking = rw c.in_ok-push-in-NewOnly.ensures.items turn.0; within_old = c.loop-next.invariant.within_old; within_new = turn.1 }
