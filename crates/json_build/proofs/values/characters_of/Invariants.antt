use Rattle.std.proofs.Common.{◌≡◌, ◌++◌, drop, string_bytes}
use Rattle.json_build.specs.Parts.{characters}
use Rattle.json_build.proofs.values.characters_of.Given as goal

abbrev pub invariant-loop-byte : goal.invariant-loop-byte
invariant-loop-byte l = string_bytes l.text ++ characters (drop l.byte-index l.bytes) ≡ characters l.fn.bytes
