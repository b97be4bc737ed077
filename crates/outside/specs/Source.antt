-- What came from a source.
use Rattle.std.specs.Prelude.{ℕ, List}
use Rattle.std.specs.declared.option.Option.{Option}
use Rattle.std.specs.Io.KnownBytes.{Consumes, IsAtEnd}

-- these bytes came, and nothing is left
pub record AllCame (old new : Option (List ℕ)) (bytes : List ℕ) : Type 0 where
  pub came : Consumes old new bytes
  pub at_end : IsAtEnd new

-- some bytes came, of which the fact holds
abbrev pub SomeCame : Option (List ℕ) → Option (List ℕ) → (List ℕ → Type 0) → Type 0
SomeCame old new fact = (bytes : List ℕ) × Consumes old new bytes × fact bytes

-- some bytes came: what is left is what was left, without a prefix
abbrev pub CameInOrder : Option (List ℕ) → Option (List ℕ) → Type 0
CameInOrder old new = (bytes : List ℕ) × Consumes old new bytes
