-- Addresses as people type them who read the monitor's texts.
use Rattle.std.specs.Prelude.{ℕ, ◌-◌, ◌*◌, ◌^◌, ◌==◌, ◌||◌, Bool, if◌then◌else◌, length, take, drop, Option, Some, None, option_and_then, codes}
use Rattle.std.specs.Str.{bytes_eq}
use Rattle.mem_base.specs.script.Spelling.{Text, at_most, digits, last_of, most_address}

-- what a last byte `K`, `M` or `G` multiplies by, in either case
abbrev pub scale_of : Option ℕ → ℕ
scale_of None = 1
scale_of (Some b) =
    if (b == 75) || (b == 107) then 2 ^ 10 else if (b == 77) || (b == 109) then 2 ^ 20 else if (b == 71) || (b == 103) then 2 ^ 30 else 1

-- `0x` or `0X` stands at the front
abbrev pub is_marked : Text → Bool
is_marked text = bytes_eq (take 2 text) (codes "0x") || bytes_eq (take 2 text) (codes "0X")

-- hexadecimal digits, with `0x` before them or not
abbrev pub hex_address : Text → Option ℕ
hex_address text = if is_marked text then digits 16 most_address (drop 2 text) else digits 16 most_address text

-- decimal digits, or hexadecimal ones after `0x`
abbrev pub plain_amount : Text → Option ℕ
plain_amount text = if is_marked text then digits 16 most_address (drop 2 text) else digits 10 most_address text

-- an amount that is scaled
abbrev pub scaled_address : ℕ → Text → Option ℕ
scaled_address scale text = option_and_then (λ n. at_most most_address (n * scale)) (plain_amount text)

-- the address that a word is: hexadecimal digits, as QEMU prints an address; or an amount with `K`, `M` or `G` after it
abbrev pub address_in : Text → Option ℕ
address_in word =
    if scale_of (last_of word) == 1 then hex_address word else scaled_address (scale_of (last_of word)) (take (length word - 1) word)
