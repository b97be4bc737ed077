-- What is left of a source in memory.
use Rattle.std.specs.Prelude.{ℕ, List, drop}
use Rattle.outside.specs.declared.remainder.Remainder.{Remainder}

-- the bytes that are not yet read
abbrev pub bytes_left : Remainder → List ℕ
bytes_left s = drop s.at s.bytes.items
