use Rattle.std.proofs.Common.{◌≡◌, ◌≤◌, ◌+◌, ◌-◌, length}
use Rattle.std.specs.Prelude.{flat_map}
use Rattle.mem_base.specs.views.LiveEvents.{events_of}
use Rattle.mem_base.specs.access.Pieces.{pieces}
use Rattle.mem_base.specs.access.AccessSteps.{part}
use Rattle.mem_base.specs.access.Plans.{in_device}
use Rattle.access_plan.specs.Lists.{IsUnderway, moved}
use Rattle.access_plan.proofs.DeviceLists.{piece_in}
use Rattle.access_plan.proofs.devices.device.Given as goal

abbrev pub invariant-loop-next : goal.invariant-loop-next
invariant-loop-next l =
    let t = part l.at l.len (moved l.write l.bytes) in
    let events = events_of l.g.forest l.region in
    (l.done ≤ l.len) × (l.pieces ≡ pieces l.ops (l.offset + l.done) (l.len - l.done))
    × IsUnderway (moved l.write l.bytes) l.initial.list.items l.list.items (in_device l.region l.offset l.ops events t)
    (flat_map (piece_in l.region l.ops events l.offset t) l.pieces) l.at (l.at + l.done)

abbrev pub decreases-loop-next : goal.decreases-loop-next
decreases-loop-next l = length l.pieces
