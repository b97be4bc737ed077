-- How names, numbers and bytes are spelled in a script: the value of a token, or none where it has no such value.
use Rattle.std.specs.Prelude.{ℕ, ◌+◌, ◌-◌, ◌*◌, ◌%◌, ◌^◌, ◌==◌, ◌&&◌, ◌||◌, Bool, false, not, nat_le, if◌then◌else◌, List, [], ◌∷◌, length}
use Rattle.std.specs.Prelude.{take, drop, position, slice_get, Option, Some, None, option_and_then, option_map, codes, ℤ, pos, neg_ℤ}
use Rattle.std.specs.List.{list_all}
use Rattle.std.specs.Str.{bytes_eq}
use Rattle.mem_base.specs.map.Limits.{most_bytes, most_passes, page_size}

-- the bytes of a text
abbrev pub Text : Type 0
Text = List ℕ

-- a number from a low one to a high one, both inclusive
abbrev pub between : ℕ → ℕ → ℕ → Bool
between low high b = nat_le low b && nat_le b high

-- a letter of ASCII
abbrev pub is_letter : ℕ → Bool
is_letter b = between 97 122 b || between 65 90 b

-- a letter, a digit, `_`, `-` or `.`
abbrev pub may_follow : ℕ → Bool
may_follow b = is_letter b || between 48 57 b || (b == 95) || (b == 45) || (b == 46)

-- the first byte is a letter
abbrev pub begins_with_letter : Text → Bool
begins_with_letter [] = false
begins_with_letter (b ∷ bs) = is_letter b

-- a name: 1 to 32 letters, digits, `_`, `-` and `.`, the first a letter
abbrev pub is_name : Text → Bool
is_name text = begins_with_letter text && nat_le (length text) 32 && list_all may_follow text

-- the name that a token is, if it is one
abbrev pub name_of : Text → Option Text
name_of text = if is_name text then Some text else None

-- Numbers

-- the value of a digit; letters of either case in base 16 alone
abbrev pub digit_of : ℕ → ℕ → Option ℕ
digit_of radix b =
    if between 48 57 b then Some (b - 48)
    else if (radix == 16) && between 97 102 b then Some (b - 87)
    else if (radix == 16) && between 65 70 b then Some (b - 55) else None

-- a number that is at most the limit
abbrev pub at_most : ℕ → ℕ → Option ℕ
at_most limit n = if nat_le n limit then Some n else None

-- the number `n` with these digits after it, while it is at most `limit`
abbrev pub digits_after : ℕ → ℕ → ℕ → Text → Option ℕ
digits_after radix limit n [] = Some n
digits_after radix limit n (b ∷ bs) =
    option_and_then (λ d. option_and_then (λ m. digits_after radix limit m bs) (at_most limit (n * radix + d))) (digit_of radix b)

-- one digit or more, with a value of at most `limit`
abbrev pub digits : ℕ → ℕ → Text → Option ℕ
digits radix limit text = if length text == 0 then None else digits_after radix limit 0 text

-- decimal digits, or `0x` and hexadecimal digits
abbrev pub plain_number : ℕ → Text → Option ℕ
plain_number limit text = if bytes_eq (take 2 text) (codes "0x") then digits 16 limit (drop 2 text) else digits 10 limit text

-- the last byte
abbrev pub last_of : Text → Option ℕ
last_of text = slice_get text (length text - 1)

-- what a last byte `K`, `M` or `G` multiplies by
abbrev pub scale_of : Option ℕ → ℕ
scale_of None = 1
scale_of (Some b) = if b == 75 then 2 ^ 10 else if b == 77 then 2 ^ 20 else if b == 71 then 2 ^ 30 else 1

-- a number with a scale, of at most `limit` once it is scaled
abbrev pub scaled : ℕ → ℕ → Text → Option ℕ
scaled limit scale text =
    if scale == 1 then plain_number limit text
    else option_and_then (λ n. at_most limit (n * scale)) (plain_number limit (take (length text - 1) text))

-- a number of at most `limit`: digits, and after them at most one of `K`, `M` and `G`
abbrev pub number_of : ℕ → Text → Option ℕ
number_of limit text = scaled limit (scale_of (last_of text)) text

-- the greatest offset or address
abbrev pub most_address : ℕ
most_address = 2 ^ 64 - 1

-- the greatest size
abbrev pub most_size : ℕ
most_size = 2 ^ 64

-- a number that is not 0
abbrev pub nonzero : ℕ → Option ℕ
nonzero n = if n == 0 then None else Some n

-- a length of 1 to 64
abbrev pub length_of : Text → Option ℕ
length_of text = option_and_then nonzero (number_of 64 text)

-- one page or more, and no part of a page
abbrev pub whole_pages : ℕ → Option ℕ
whole_pages n = if (n % page_size == 0) && nat_le page_size n then Some n else None

-- the size of a machine's memory: whole pages of 4,096 bytes, from one page to 512 MiB
abbrev pub machine_size : Text → Option ℕ
machine_size text = option_and_then whole_pages (number_of most_bytes text)

-- a priority: decimal digits, `-` before them or not, with a value of 32 bits with a sign
abbrev pub priority_of : Text → Option ℤ
priority_of text =
    if bytes_eq (take 1 text) (codes "-") then option_map (λ n. neg_ℤ (pos n)) (digits 10 (2 ^ 31) (drop 1 text))
    else option_map (λ n. pos n) (digits 10 (2 ^ 31 - 1) text)

-- both numbers, where both are there
abbrev pub pair_of : Option ℕ → Option ℕ → Option (ℕ × ℕ)
pair_of (Some low) (Some high) = Some (low, high)
pair_of _ _ = None

-- the two numbers on either side of the dash
abbrev pub range_at : Option ℕ → Text → Option (ℕ × ℕ)
range_at None text = None
range_at (Some dash) text = pair_of (digits 10 255 (take dash text)) (digits 10 255 (drop (dash + 1) text))

-- two numbers below 256 in decimal, as `A-B`
abbrev pub range_of : Text → Option (ℕ × ℕ)
range_of text = range_at (position (λ b. b == 45) text) text

-- no digit 0 stands before another
abbrev pub leads_with_no_zero : Text → Bool
leads_with_no_zero text = (length text == 1) || not (bytes_eq (take 1 text) (codes "0"))

-- the number of a pass: `v` and a number from 0 to 15, in decimal, without leading zeros
abbrev pub pass_of : Text → Option ℕ
pass_of text =
    if bytes_eq (take 1 text) (codes "v") && leads_with_no_zero (drop 1 text) then digits 10 (most_passes - 1) (drop 1 text) else None

-- Bytes

-- the byte that two digits are
abbrev pub byte_of : ℕ → ℕ → Option ℕ
byte_of high low = option_and_then (λ h. option_map (λ l. h * 16 + l) (digit_of 16 low)) (digit_of 16 high)

-- the bytes that pairs of digits are
abbrev pub byte_pairs : Text → Option (List ℕ)
byte_pairs [] = Some []
byte_pairs (high ∷ []) = None
byte_pairs (high ∷ low ∷ rest) = option_and_then (λ b. option_map (λ bs. b ∷ bs) (byte_pairs rest)) (byte_of high low)

-- 1 to 64 bytes, two hexadecimal digits each
abbrev pub bytes_of : Text → Option (List ℕ)
bytes_of text = if nat_le 1 (length text) && nat_le (length text) 128 then byte_pairs text else None
