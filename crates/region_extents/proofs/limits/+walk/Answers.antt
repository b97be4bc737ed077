use Rattle.std.proofs.Common.{◌∙◌, ap, sym, map, inl, inr}
use Rattle.mem_base.specs.declared.map.ids.RegionId.{RegionId}
use Rattle.mem_base.specs.map.Steps.{depth_by, greatest, total, weight_by}
use Rattle.std.proofs.Common.{List}
use Rattle.region_extents.specs.Extents.{steps_with}
use Rattle.region_extents.specs.Room.{room_left}
use Rattle.region_extents.proofs.ReachLaws.{steps_below}
use Rattle.region_extents.proofs.RoomLaws.{nothing_yet, no_room, some_joined, none_joined, room_apart}
use Rattle.region_extents.proofs.limits.+walk.Goals as goal
use Rattle.region_extents.proofs.limits.+walk.Goals.{room_after-then-deepest-eq0-via-then-deepest-eq0}
use Rattle.region_extents.proofs.limits.+walk.Goals.{room_after-then-deepest-eq0-via-else-deepest-eq0+then-room-eq0}

pub room_after-returns-then-most-eq0 : goal.room_after-returns-then-most-eq0
room_after-returns-then-most-eq0 t c =
    nothing_yet (steps_with c.args.slots.now c.args.join) c.args.deepest c.args.room c.args.most c.args.region c.if-most-eq0.true

pub room_after-returns-then-deepest-eq0 : goal.room_after-returns-then-deepest-eq0
room_after-returns-then-deepest-eq0 t c =
    no_room (steps_with c.args.slots.now c.args.join) c.args.deepest c.args.room c.args.most c.args.region c.if-most-eq0.false
    (elim c.then-deepest-eq0.branch [
      | room_after-then-deepest-eq0-via-then-deepest-eq0 w ↦ inl w.if-deepest-eq0.true
      | room_after-then-deepest-eq0-via-else-deepest-eq0+then-room-eq0 w ↦ inr w.if-room-eq0.true
    ])

pub room_after-returns-in_err-left : goal.room_after-returns-in_err-left
room_after-returns-in_err-left t c =
    c.from_residual.ensures
    ∙ none_joined c.args.slots.now c.args.join c.args.deepest c.args.room c.args.most c.args.region c.if-most-eq0.false c.if-deepest-eq0.false
    c.if-room-eq0.false c.if-region-join.true c.in_err-left.ensures

pub room_after-returns-then-region-join : goal.room_after-returns-then-region-join
room_after-returns-then-region-join t c =
    c.room_below.ensures
    ∙ some_joined c.args.slots.now c.args.join c.args.deepest c.args.room c.args.most c.args.region c.if-most-eq0.false c.if-deepest-eq0.false
    c.if-room-eq0.false c.if-region-join.true c.in_ok-left.left c.in_ok-left.ensures

pub room_after-returns : goal.room_after-returns
room_after-returns t c =
    c.room_below-2.ensures
    ∙ room_apart c.args.slots.now c.args.join c.args.deepest c.args.room c.args.most c.args.region c.if-most-eq0.false c.if-deepest-eq0.false
    c.if-room-eq0.false c.if-region-join.false

pub room_below-returns-in-None : goal.room_below-returns-in-None
room_below-returns-in-None t c =
    let steps = steps_with c.args.slots.now c.args.join in
    let below = sym (c.child_ids.ensures
    ∙ sym (steps_below c.args.slots.now c.args.region c.in-Some.node.now c.in-Some.ensures (sym c.in-None.ensures))) in
    c.room_over-in-None.ensures
    ∙ sym (ap (λ (on : List RegionId). room_left c.args.deepest c.args.room (greatest (map (depth_by steps c.args.most) on))
    (total (map (weight_by steps c.args.most) on))) below)
