-- Words of 8 bytes: their bytes, the numbers that bytes are, and the atomic steps on a word.
-- QEMU's manual, "Load and Store APIs": a number of several bytes is read and written in either byte order.
use Rattle.std.specs.Prelude.{ℕ, ◌+◌, ◌-◌, ◌*◌, ◌/◌, ◌%◌, ◌^◌, min, Bool, if◌then◌else◌, bit_or, List, [], ◌∷◌, map, reverse}
use Rattle.std.specs.List.{range_with_len}
use Rattle.mem_base.specs.declared.access.cells.WordStep.{WordStep}
use Rattle.mem_base.specs.declared.access.cells.WordStep.TheVariants.{Load, Replace, AddOne, Or, Take}
use Rattle.mem_base.specs.map.Limits.{word_size}

-- a byte of a number; byte 0 is the lowest
abbrev pub byte_at : ℕ → ℕ → ℕ
byte_at number index = number / (256 ^ index) % 256

-- the number whose bytes these are, the lowest first
abbrev pub little_endian : List ℕ → ℕ
little_endian [] = 0
little_endian (b ∷ bs) = b + 256 * little_endian bs

-- the number that bytes in the order of addresses are: the first is the lowest, or in a big-endian device the highest
abbrev pub number_of_bytes : List ℕ → Bool → ℕ
number_of_bytes bytes big = little_endian (if big then reverse bytes else bytes)

-- the byte at an index, in the order of addresses, of a number of `size` bytes
abbrev pub byte_of : ℕ → ℕ → Bool → ℕ → ℕ
byte_of number size big index = byte_at number (if big then size - 1 - index else index)

-- all bytes of a number of `size` bytes, in the order of addresses
abbrev pub bytes_of : ℕ → ℕ → Bool → List ℕ
bytes_of number size big = map (byte_of number size big) (range_with_len 0 size)

-- the `size` bytes of a word from byte `first` on, as a number; bits past the word are 0
abbrev pub bytes_from : ℕ → ℕ → ℕ → ℕ
bytes_from word first size = word / (256 ^ first) % (256 ^ size)

-- how many of the `bytes` bytes from byte `first` on lie in the word
abbrev pub in_word : ℕ → ℕ → ℕ
in_word first bytes = min bytes (word_size - first)

-- the old word with its bytes from `first` on replaced by the lowest bytes of the value, as far as they lie in the
-- word
abbrev pub replaced : ℕ → ℕ → ℕ → ℕ → ℕ
replaced old first bytes value =
    let below = 256 ^ first in
    let above = 256 ^ (first + in_word first bytes) in
    old % below + below * (value % (256 ^ (in_word first bytes))) + above * (old / above)

-- the word after a step; every step answers the word before it
abbrev pub word_after : WordStep → ℕ → ℕ
word_after Load old = old
word_after (Replace first bytes value) old = replaced old first bytes value
word_after AddOne old = (old + 1) % (2 ^ 64)
word_after (Or bits) old = bit_or old bits
word_after Take old = 0
