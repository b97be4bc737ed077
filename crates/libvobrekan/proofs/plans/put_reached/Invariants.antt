use Rattle.std.proofs.Common.{◌≡◌, take}
use Rattle.libvobrekan.specs.Buffers.{put_each}
use Rattle.libvobrekan.specs.Plans.{reach_told}
use Rattle.libvobrekan.proofs.plans.put_reached.Given as goal

abbrev pub invariant-loop-i : goal.invariant-loop-i
invariant-loop-i l = l.out ≡ put_each reach_told (take l.i l.list) l.initial.out
