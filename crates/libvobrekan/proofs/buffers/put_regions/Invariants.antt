use Rattle.std.proofs.Common.{◌≡◌, take}
use Rattle.libvobrekan.specs.Buffers.{put_regions}
use Rattle.libvobrekan.proofs.buffers.put_regions.Given as goal

abbrev pub invariant-loop-i : goal.invariant-loop-i
invariant-loop-i l = l.out ≡ put_regions (take l.i l.regions) l.initial.out
