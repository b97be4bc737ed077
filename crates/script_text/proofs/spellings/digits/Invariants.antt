use Rattle.std.proofs.Common.{◌≡◌, ◌≤◌, drop}
use Rattle.mem_base.specs.script.Spelling.{digits_after}
use Rattle.script_text.proofs.spellings.digits.Given as goal

abbrev pub invariant-loop-byte : goal.invariant-loop-byte
invariant-loop-byte l = (l.number ≤ l.limit) × (digits_after l.radix l.limit l.number (drop l.byte-index l.text) ≡ digits_after l.radix l.limit 0 l.text)
