use Rattle.std.proofs.Common.{◌≡◌, ◌+◌, ◌*◌, map, drop}
use Rattle.mem_base.specs.map.Steps.{depth_by, greatest, total, weight_by}
use Rattle.region_extents.specs.Extents.{steps_with}
use Rattle.region_extents.specs.Room.{room_left}
use Rattle.region_extents.proofs.limits.+walk.Given as goal

abbrev pub decreases-room_after : goal.decreases-room_after
decreases-room_after l = 3 * l.most

abbrev pub decreases-room_below : goal.decreases-room_below
decreases-room_below l = 3 * l.most + 2

abbrev pub decreases-room_over : goal.decreases-room_over
decreases-room_over l = 3 * l.most + 1

-- the room that is left so far, and the regions that are left
abbrev pub invariant-room_over-loop-id : goal.invariant-room_over-loop-id
invariant-room_over-loop-id l =
    room_left l.deepest l.left (greatest (map (depth_by (steps_with l.slots l.join) l.most) (drop l.id-index l.regions)))
    (total (map (weight_by (steps_with l.slots l.join) l.most) (drop l.id-index l.regions))) ≡ room_left l.deepest l.room
    (greatest (map (depth_by (steps_with l.slots l.join) l.most) l.regions)) (total (map (weight_by (steps_with l.slots l.join) l.most) l.regions))
