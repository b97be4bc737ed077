use Rattle.std.proofs.Common.{ℕ, ◌+◌, length, map}
use Rattle.mem_base.specs.access.Pieces.{callbacks}
use Rattle.mem_base.specs.access.AccessSteps.{part}
use Rattle.mem_base.specs.access.Plans.{in_callback}
use Rattle.access_base.specs.Sizes.{Tiles, callback_of}
use Rattle.access_plan.specs.Lists.{IsUnderway, moved}
use Rattle.access_plan.proofs.devices.callbacks.Given as goal

abbrev pub invariant-loop-offset : goal.invariant-loop-offset
invariant-loop-offset l =
    let t = moved l.write l.bytes in
    let step = in_callback l.region l.ops (part l.at l.piece.size t) in
    (done : ℕ) × Tiles l.piece done l.places
    × IsUnderway t l.initial.list.items l.list.items (map step (callbacks l.ops l.piece)) (map step (map (callback_of l.piece) l.places)) l.at (l.at + done)

abbrev pub decreases-loop-offset : goal.decreases-loop-offset
decreases-loop-offset l = length l.places
