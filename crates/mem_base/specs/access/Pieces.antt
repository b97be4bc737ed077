-- How an access to a device is cut into pieces, and a piece into callbacks.
-- QEMU's manual, "The memory API", "MMIO Operations": `valid` says which accesses a guest may make, `impl` which the
-- callbacks take. The exact sizes are this project's own rule. `valid_max` is at most 8, so no size is above 8.
use Rattle.std.specs.Prelude.{ℕ, zero, suc, ◌+◌, ◌-◌, ◌*◌, ◌/◌, ◌%◌, min, max, Bool, ◌==◌, ◌&&◌, ◌||◌, nat_le, if◌then◌else◌, List, [], ◌∷◌, map}
use Rattle.std.specs.List.{range_with_len}
use Rattle.mem_base.specs.declared.map.kinds.Ops.{Ops}
use Rattle.mem_base.specs.declared.access.accesses.Piece.{Piece}

-- a piece, by its offset, its size and whether the device takes it
abbrev pub piece : ℕ → ℕ → Bool → Piece
piece offset size valid = record { offset = offset; size = size; valid = valid }

-- the largest of 1, 2, 4 and 8 that is at most this size
abbrev pub power_within : ℕ → ℕ
power_within size = if nat_le 8 size then 8 else if nat_le 4 size then 4 else if nat_le 2 size then 2 else 1

-- the largest of 1, 2, 4 and 8 that divides this offset
abbrev pub power_dividing : ℕ → ℕ
power_dividing offset = if offset % 8 == 0 then 8 else if offset % 4 == 0 then 4 else if offset % 2 == 0 then 2 else 1

-- a size that the alignment of the offset allows, where the callbacks take aligned accesses alone
abbrev pub aligned_size : Ops → ℕ → ℕ → ℕ
aligned_size ops offset size = if ops.impl_unaligned || (offset == 0) then size else min size (power_dividing offset)

-- the size of the next piece where `left` bytes are left: at most valid_max, then as aligned as it must be, then a
-- power of two
abbrev pub size_at : Ops → ℕ → ℕ → ℕ
size_at ops offset left = power_within (aligned_size ops offset (min left ops.valid_max))

-- the device takes an access of this size at this offset
abbrev pub is_valid : Ops → ℕ → ℕ → Bool
is_valid ops offset size =
    nat_le ops.valid_min size && nat_le size ops.valid_max && (ops.valid_unaligned || (offset % size == 0))

-- the next piece, where `left` bytes are left
abbrev pub piece_at : Ops → ℕ → ℕ → Piece
piece_at ops offset left = piece offset (size_at ops offset left) (is_valid ops offset (size_at ops offset left))

-- the pieces of the bytes from an offset on, `left` of them, of which the first `inside` belong to a piece that began
-- before and so begin none
abbrev pub pieces_from : Ops → ℕ → ℕ → ℕ → List Piece
pieces_from ops offset zero inside = []
pieces_from ops offset (suc left) zero =
    piece_at ops offset (suc left) ∷ pieces_from ops (offset + 1) left (size_at ops offset (suc left) - 1)
pieces_from ops offset (suc left) (suc inside) = pieces_from ops (offset + 1) left inside

-- the pieces of the bytes from an offset on
abbrev pub pieces : Ops → ℕ → ℕ → List Piece
pieces ops offset bytes = pieces_from ops offset bytes 0

-- the bytes of one callback for a piece of `size` bytes: as many as the piece has, but no more than impl_max and no
-- fewer than impl_min
abbrev pub callback_size : Ops → ℕ → ℕ
callback_size ops size = max (min size ops.impl_max) ops.impl_min

-- how many callbacks do a piece: one where the callback is wider than the piece
abbrev pub callback_count : Ops → ℕ → ℕ
callback_count ops size = max 1 (size / callback_size ops size)

-- a callback of a piece: its offset in the region and its size, and the bytes of the piece that it does, of which
-- `skipped` come before it
pub record Callback : Type 0 where
  pub offset : ℕ
  pub size : ℕ
  pub skipped : ℕ
  pub bytes : ℕ

-- the callback with a number, counted from 0. One that is wider than its piece does all bytes of the piece
abbrev pub callback_at : Ops → Piece → ℕ → Callback
callback_at ops p index = let size = callback_size ops p.size in
    record { offset = p.offset + index * size; size = size; skipped = index * size; bytes = min size p.size }

-- the callbacks of a piece, at ascending offsets
abbrev pub callbacks : Ops → Piece → List Callback
callbacks ops p = map (callback_at ops p) (range_with_len 0 (callback_count ops p.size))
