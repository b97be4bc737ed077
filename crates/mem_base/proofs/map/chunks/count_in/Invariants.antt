use Rattle.std.proofs.Common.{◌≡◌, length, take}
use Rattle.std.specs.Prelude.{flat_map}
use Rattle.std.specs.Arc.{arc_value}
use Rattle.mem_base.proofs.map.chunks.count_in.Given as goal

-- the regions of the chunks so far are counted
abbrev pub invariant-loop-chunk : goal.invariant-loop-chunk
invariant-loop-chunk l = l.count ≡ length (flat_map arc_value (take l.chunk-index l.chunks))
