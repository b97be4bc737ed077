use Rattle.std.proofs.Common.{◌≡◌, ◌≤◌, ◌<◌, ◌^◌, ◌-◌, drop}
use Rattle.mem_base.specs.access.Words.{little_endian}
use Rattle.access_cut.proofs.numbers.lowest_first.Given as goal

-- the bytes from `left` on are read
abbrev pub invariant-loop-left : goal.invariant-loop-left
invariant-loop-left l = record {
  inside : l.left ≤ l.count;
  read : l.number ≡ little_endian (drop l.left l.bytes);
  small : l.number < 256 ^ (l.count - l.left);
}

abbrev pub decreases-loop-left : goal.decreases-loop-left
decreases-loop-left l = l.left
