-- Parts of a line, each taken from the front: what it says, and the text after it, or none where the text does not begin with one.
use Rattle.std.specs.Prelude.{ℕ, ◌+◌, ◌-◌, ◌^◌, ◌==◌, ◌&&◌, if◌then◌else◌, nat_le, length, take, drop, position, zip, Option, Some, None}
use Rattle.std.specs.Prelude.{option_and_then, option_map, codes, ℤ, pos, neg_ℤ, Bool, true, false}
use Rattle.std.specs.Str.{bytes_eq}
use Rattle.mem_base.specs.script.Spelling.{Text, digits, most_address}
use Rattle.monitor_text.specs.declared.parts.RowHead.{RowHead}
use Rattle.monitor_text.specs.declared.rows.RowKind.{RowKind}
use Rattle.monitor_text.specs.declared.rows.RowKind.TheVariants as kinds

abbrev pub Part : Type 0 → Type 0
Part X = Text → Option (X × Text)

-- one part, and then the rest of the line
abbrev pub then_part : {X Y : Type 0} → Option (X × Text) → (X → Text → Option Y) → Option Y
then_part None rest = None
then_part (Some p) rest = rest p.0 p.1

-- one of two, by whether something is there
abbrev pub option_match : {X Y : Type 0} → Option X → Y → (X → Y) → Y
option_match None other make = other
option_match (Some x) other make = make x

-- an address of sixteen hexadecimal digits
abbrev pub address : Part ℕ
address text = if nat_le 16 (length text) then option_map (λ n. (n, drop 16 text)) (digits 16 most_address (take 16 text)) else None

-- what stands behind these bytes
abbrev pub after_word : Text → Text → Option Text
after_word word text = if bytes_eq (take (length word) text) word then Some (drop (length word) text) else None

-- what stands before the first byte of this value, which is passed over too
abbrev pub until : ℕ → Part Text
until byte text = option_map (λ k. (take k text, drop (k + 1) text)) (position (λ b. b == byte) text)

-- two neighbours are a space and `@`
abbrev pub is_at_sign : ℕ × ℕ → Bool
is_at_sign p = (p.0 == 32) && (p.1 == 64)

-- where the first ` @` stands
abbrev pub target_at : Text → Option ℕ
target_at text = position is_at_sign (zip text (drop 1 text))

-- what stands before the first ` @`, which is passed over too
abbrev pub until_target : Part Text
until_target text = option_map (λ k. (take k text, drop (k + 2) text)) (target_at text)

-- FIRST-LAST
abbrev pub span : Part (ℕ × ℕ)
span text =
    then_part (address text) (λ first t.
    option_and_then (λ u. then_part (address u) (λ last v. Some ((first, last), v))) (after_word (codes "-") t))

-- the word of a kind
abbrev pub kind_word : Text → Option RowKind
kind_word text =
    if bytes_eq text (codes "i/o") then Some kinds.Io
    else if bytes_eq text (codes "ram") then Some kinds.Ram
    else if bytes_eq text (codes "rom") then Some kinds.Rom
    else if bytes_eq text (codes "romd") then Some kinds.RomDevice
    else if bytes_eq text (codes "ramd") then Some kinds.RamDevice else None

-- the same with `nv-` before it, where the region is not volatile
abbrev pub kind_of : Text → Option (Bool × RowKind)
kind_of text =
    if bytes_eq (take 3 text) (codes "nv-") then option_map (λ k. (true, k)) (kind_word (drop 3 text))
    else option_map (λ k. (false, k)) (kind_word text)

-- a priority: decimal digits, `-` before them or not, with a value of 32 bits with a sign
abbrev pub priority_of : Text → Option ℤ
priority_of text =
    if bytes_eq (take 1 text) (codes "-") then option_map (λ n. neg_ℤ (pos n)) (digits 10 (2 ^ 31) (drop 1 text))
    else option_map (λ n. pos n) (digits 10 (2 ^ 31 - 1) text)

-- what stands there
abbrev pub headed : ℕ × ℕ → ℤ → Bool × RowKind → RowHead
headed ends priority k = record { start = ends.0; last = ends.1; priority = priority; nonvolatile = k.0; kind = k.1 }

-- START-LAST (prio N, KIND): with the space after it
abbrev pub head : Part RowHead
head text =
    then_part (span text) (λ ends t.
    option_and_then (λ u. then_part (until 44 u) (λ number v.
    option_and_then (λ priority. option_and_then (λ w. then_part (until 41 w) (λ word x.
    option_and_then (λ k. option_map (λ y. (headed ends priority k, y)) (after_word (codes ": ") x))
    (kind_of word))) (after_word (codes " ") v))
    (priority_of number))) (after_word (codes " (prio ") t))

-- Ends of a line

-- without this word at its end, and whether it stood there
abbrev pub without_end : Text → Text → Text × Bool
without_end word text =
    let cut = length text - length word in
    if nat_le (length word) (length text) && bytes_eq (drop cut text) word then (take cut text, true) else (text, false)
