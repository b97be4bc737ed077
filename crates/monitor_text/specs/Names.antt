-- The name that a script gives to what the monitor calls by a name of any bytes.
use Rattle.std.specs.Prelude.{ℕ, ◌-◌, ◌==◌, ◌&&◌, ◌||◌, Bool, true, false, not, if◌then◌else◌, nat_le, nat_lt, List, [], ◌∷◌, ◌++◌, length, map, take, drop}
use Rattle.std.specs.Prelude.{codes, decimal}
use Rattle.std.specs.List.{list_all, list_any}
use Rattle.std.specs.Str.{bytes_eq}
use Rattle.mem_base.specs.script.Spelling.{Text, between, is_letter, may_follow}

-- a byte that may not stand in a name is `_`
abbrev pub fit_byte : ℕ → ℕ
fit_byte b = if may_follow b then b else 95

-- a name begins with a letter
abbrev pub needs_letter : Text → Bool
needs_letter [] = true
needs_letter (b ∷ bs) = not (is_letter b)

-- one that does not has an `r` before it
abbrev pub lettered : Text → Text
lettered text = if needs_letter text then 114 ∷ text else text

-- the name, of at most 32 bytes
abbrev pub cleaned : Text → Text
cleaned told = take 32 (lettered (map fit_byte told))

-- at most this number of bytes
abbrev pub up_to : ℕ → Text → Text
up_to count text = if nat_lt count (length text) then take count text else text

-- a name followed by a point and a number, of at most 32 bytes
abbrev pub numbered : Text → ℕ → Text
numbered name number = let end = codes "." ++ decimal number in up_to (32 - length end) name ++ end

abbrev pub is_digit : ℕ → Bool
is_digit b = between 48 57 b

-- a point and digits
abbrev pub is_ending : Text → Bool
is_ending [] = false
is_ending (b ∷ bs) = (b == 46) && list_all is_digit bs

-- this number of bytes at the end of a name are such, and the others what they leave of a plain name
abbrev pub ended_so : Text → Text → ℕ → Bool
ended_so name plain count =
    let cut = length name - count in
    nat_le count (length name) && (is_ending (drop cut name) && bytes_eq (take cut name) (up_to (32 - count) plain))

-- how many bytes a point and a number of at most ten digits have
abbrev pub counts : List ℕ
counts = 2 ∷ 3 ∷ 4 ∷ 5 ∷ 6 ∷ 7 ∷ 8 ∷ 9 ∷ 10 ∷ 11 ∷ []

-- a name is one that a script gives to what the monitor calls so, alone or followed by a number of at most ten digits
abbrev pub is_named_after : Text → Text → Bool
is_named_after name told = bytes_eq name (cleaned told) || list_any (ended_so name (cleaned told)) counts
