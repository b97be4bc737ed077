use Rattle.std.proofs.Common.{◌≡◌, take, map}
use Rattle.std.specs.List.{range_with_len}
use Rattle.mem_base.specs.access.Words.{byte_of}
use Rattle.access_base.proofs.numbers.put_count.Given as goal

abbrev pub invariant-loop-i : goal.invariant-loop-i
invariant-loop-i l = take l.i l.out ≡ map (byte_of l.number l.size l.big) (range_with_len 0 l.i)
