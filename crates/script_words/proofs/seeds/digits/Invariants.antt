use Rattle.std.proofs.Common.{◌≡◌, ◌≤◌, ◌^◌, ◌-◌, drop}
use Rattle.mem_base.specs.script.Spelling.{digits_after}
use Rattle.script_words.proofs.seeds.digits.Given as goal

abbrev pub invariant-loop-byte : goal.invariant-loop-byte
invariant-loop-byte l = (l.number ≤ 2 ^ 64 - 1) × (digits_after 10 (2 ^ 64 - 1) l.number (drop l.byte-index l.text) ≡ digits_after 10 (2 ^ 64 - 1) 0 l.text)
