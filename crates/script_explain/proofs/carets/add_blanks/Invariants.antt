use Rattle.std.proofs.Common.{◌≡◌, ◌++◌, drop}
use Rattle.std.specs.Prelude.{flat_map}
use Rattle.script_explain.specs.Faults.{blank}
use Rattle.script_explain.proofs.carets.add_blanks.Given as goal

abbrev pub invariant-loop-byte : goal.invariant-loop-byte
invariant-loop-byte l = l.out ++ flat_map blank (drop l.byte-index l.bytes) ≡ l.fn.out ++ flat_map blank l.fn.bytes
