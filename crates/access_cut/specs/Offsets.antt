-- Where callbacks are made: at ascending offsets, one after another.
use Rattle.std.specs.Prelude.{ℕ, zero, suc, ◌+◌, ◌<◌, ◌^◌, ⊤, List, [], ◌∷◌, map}
use Rattle.mem_base.specs.declared.map.kinds.Ops.{Ops}
use Rattle.mem_base.specs.declared.access.accesses.Piece.{Piece}
use Rattle.mem_base.specs.access.Pieces.{Callback, callbacks}

-- an offset, and the number of bytes there
abbrev pub At : Type 0
At = ℕ × ℕ

-- `n` places of `size` bytes each, one after another from this offset on
abbrev pub row : ℕ → ℕ → ℕ → List At
row offset size zero = []
row offset size (suc n) = (offset, size) ∷ row (offset + size) size n

-- each place of the row begins below 2^64
abbrev pub Begins : ℕ → ℕ → ℕ → Type 0
Begins offset size zero = ⊤
Begins offset size (suc n) = (offset < 2 ^ 64) × Begins (offset + size) size n

abbrev pub place_of : Callback → At
place_of c = (c.offset, c.size)

-- where the callbacks of a piece are made
abbrev pub places : Ops → Piece → List At
places ops piece = map place_of (callbacks ops piece)
