-- The sizes of pieces and callbacks, and the callbacks of a piece by their places.
use Rattle.std.specs.Prelude.{◌≡◌, ℕ, ◌+◌, ◌-◌, ◌<◌, ◌≤◌, ◌⊎◌, min, List, [], ◌∷◌}
use Rattle.mem_base.specs.declared.access.accesses.Piece.{Piece}
use Rattle.mem_base.specs.access.Pieces.{Callback}
use Rattle.access_cut.specs.Offsets.{At}

-- pieces and callbacks have these sizes alone
abbrev pub IsSize : ℕ → Type 0
IsSize n = (n ≡ 1) ⊎ ((n ≡ 2) ⊎ ((n ≡ 4) ⊎ (n ≡ 8)))

-- these callbacks do the piece's bytes after the first `done` ones, one after another
abbrev pub Tiles : Piece → ℕ → List At → Type 0
Tiles p done [] = done ≡ p.size
Tiles p done (at ∷ rest) =
    (at.0 ≡ p.offset + done) × (0 < min at.1 p.size) × (done + min at.1 p.size ≤ p.size) × (at.1 ≤ 8) × Tiles p (done + min at.1 p.size) rest

-- the callback at a place
abbrev pub callback_of : Piece → At → Callback
callback_of p at = record { offset = at.0; size = at.1; skipped = at.0 - p.offset; bytes = min at.1 p.size }
