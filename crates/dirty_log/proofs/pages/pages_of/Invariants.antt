use Rattle.std.proofs.Common.{◌≡◌, ◌+◌, ◌-◌, ◌≤◌, ◌++◌, length, vec_len, vec_capacity}
use Rattle.mem_base.specs.access.Marks.{pages_of}
use Rattle.dirty_log.proofs.PageLaws.{told}
use Rattle.dirty_log.proofs.pages.pages_of.Given as goal
use Rattle.mem_base.specs.map.Limits.{pages_per_word}

-- what was appended, and what the bits that are left tell, is all
abbrev pub invariant-loop-bit : goal.invariant-loop-bit
invariant-loop-bit l = record {
  pages : l.out.items ++ told (pages_per_word - l.bit) (l.base + l.bit) l.rest ≡ l.fn.out.items ++ pages_of l.base l.bits;
  len : vec_len l.out + length (told (pages_per_word - l.bit) (l.base + l.bit) l.rest) ≡ vec_len l.fn.out + length (pages_of l.base l.bits);
  room : vec_len l.out + (pages_per_word - l.bit) ≤ vec_capacity l.out;
  capacity : vec_capacity l.fn.out ≤ vec_capacity l.out;
}
