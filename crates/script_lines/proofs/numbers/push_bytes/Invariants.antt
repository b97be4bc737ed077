use Rattle.std.proofs.Common.{◌≡◌, ◌++◌, drop}
use Rattle.mem_base.specs.script.Printing.{bytes_text}
use Rattle.script_lines.proofs.numbers.push_bytes.Given as goal

abbrev pub invariant-loop-byte : goal.invariant-loop-byte
invariant-loop-byte l = l.text.items ++ bytes_text (drop l.byte-index l.bytes) ≡ l.fn.text.items ++ bytes_text l.bytes
