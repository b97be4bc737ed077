-- Printed numbers read as what was printed.
use Rattle.std.proofs.Common.{◌≡◌, ◌==◌, ◌<◌, ◌≤◌, ◌+◌, ◌-◌, ◌*◌, ◌^◌, ℕ, List, [], ◌∷◌, Bool, true, false, not, cond, nat_lt, nat_le, None}
use Rattle.std.proofs.Common.{Some, Option, refl, ap, ◌∙◌, arith, length, take, drop, codes, bytes_eq}
use Rattle.std.specs.Char.{digit_value}
use Rattle.std.specs.List.{list_all}
use Rattle.std.specs.Str.Parse.{AllDigits, IsNumeral, digits_value, digits_value_after}
use Rattle.std.specs.Fmt.{digits as glyphs}
use Rattle.std.proofs.lemmas.Fmt.{digits_is_IsNumeral}
use Rattle.std.proofs.lemmas.Bool.Decides.{nat_tests}
use Rattle.std.proofs.lemmas.Option.{cond_some, option_and_then_some, none-some, same_Some}
use Rattle.mem_base.specs.script.Spelling.{Text, at_most, digit_of, digits, digits_after, last_of, number_of, plain_number, scale_of}
use Rattle.mem_base.specs.script.Printing.{number_text}
use Rattle.script_laws.proofs.Tokens.{is_graphic, is_token}
use Rattle.std.proofs.lemmas.Bool.{and_from}

pub at_most_yes : (limit n : ℕ) → n ≤ limit → at_most limit n ≡ Some n
at_most_yes limit n h = grind (arith, nat_tests)

pub at_most_some : (limit n m : ℕ) → at_most limit n ≡ Some m → m ≤ limit
at_most_some limit n m e = let k = cond_some (nat_le n limit) n m e in grind (arith, nat_tests)

-- a number that was read is within its limit
after_fits : (radix limit n : ℕ) (text : Text) (m : ℕ) → n ≤ limit → digits_after radix limit n text ≡ Some m → m ≤ limit
after_fits radix limit n [] m h e = omega (arith, h, same_Some n m e)
after_fits radix limit n (b ∷ bs) m h e =
    option_and_then_some _ (digit_of radix b) m e λ d is e.
    option_and_then_some _ (at_most limit (n * radix + d)) m e λ k is e.
    after_fits radix limit k bs m (at_most_some limit (n * radix + d) k is) e

none_or : (b : Bool) (o : Option ℕ) (m : ℕ) → cond b None o ≡ Some m → o ≡ Some m
none_or true o m e = absurd (none-some m e)
none_or false o m e = e

pub digits_fit : (radix limit : ℕ) (text : Text) (m : ℕ) → digits radix limit text ≡ Some m → m ≤ limit
digits_fit radix limit text m e = after_fits radix limit 0 text m (omega arith) (none_or (length text == 0) (digits_after radix limit 0 text) m e)

pub either : {X P : Type 0} (b : Bool) (o p : Option X) (m : X) → ((o ≡ Some m) → P) → ((p ≡ Some m) → P) → cond b o p ≡ Some m → P
either true o p m f g e = f e
either false o p m f g e = g e

plain_fits : (limit : ℕ) (text : Text) (m : ℕ) → plain_number limit text ≡ Some m → m ≤ limit
plain_fits limit text m e =
    either (bytes_eq (take 2 text) (codes "0x")) (digits 16 limit (drop 2 text)) (digits 10 limit text) m
    (digits_fit 16 limit (drop 2 text) m) (digits_fit 10 limit text m) e

pub number_fits : (limit : ℕ) (text : Text) (m : ℕ) → number_of limit text ≡ Some m → m ≤ limit
number_fits limit text m e =
    either (scale_of (last_of text) == 1) (plain_number limit text) _ m (plain_fits limit text m)
    (λ e. option_and_then_some _ (plain_number limit (take (length text - 1) text)) m e λ n is e. at_most_some limit (n * scale_of (last_of text)) m e) e

-- Digits

digit_reads_ten : (b : ℕ) → digit_value b < 10 → digit_of 10 b ≡ Some (digit_value b)
digit_reads_ten b h = grind arith

grows_ten : (n : ℕ) (ds : List ℕ) → n ≤ digits_value_after 10 n ds
grows_ten n [] = omega arith
grows_ten n (c ∷ cs) =
    let more = grows_ten (n * 10 + digit_value c) cs in
    omega (arith, more)

digits_read_ten : (limit n : ℕ) (ds : List ℕ) → AllDigits 10 ds → digits_value_after 10 n ds ≤ limit
    → digits_after 10 limit n ds ≡ Some (digits_value_after 10 n ds)
digits_read_ten limit n [] all fits = refl
digits_read_ten limit n (c ∷ cs) all fits =
    let more = grows_ten (n * 10 + digit_value c) cs in
    rw (digit_reads_ten c all.0, at_most_yes limit (n * 10 + digit_value c) (omega (arith, more, fits)))
    (digits_read_ten limit (n * 10 + digit_value c) cs all.1 fits)

digit_reads_hex : (b : ℕ) → digit_value b < 16 → digit_of 16 b ≡ Some (digit_value b)
digit_reads_hex b h = grind arith

grows_hex : (n : ℕ) (ds : List ℕ) → n ≤ digits_value_after 16 n ds
grows_hex n [] = omega arith
grows_hex n (c ∷ cs) =
    let more = grows_hex (n * 16 + digit_value c) cs in
    omega (arith, more)

digits_read_hex : (limit n : ℕ) (ds : List ℕ) → AllDigits 16 ds → digits_value_after 16 n ds ≤ limit
    → digits_after 16 limit n ds ≡ Some (digits_value_after 16 n ds)
digits_read_hex limit n [] all fits = refl
digits_read_hex limit n (c ∷ cs) all fits =
    let more = grows_hex (n * 16 + digit_value c) cs in
    rw (digit_reads_hex c all.0, at_most_yes limit (n * 16 + digit_value c) (omega (arith, more, fits)))
    (digits_read_hex limit (n * 16 + digit_value c) cs all.1 fits)

nonempty : (xs : List ℕ) → 0 < length xs → (length xs == 0) ≡ false
nonempty [] h = absurd (omega (arith, h))
nonempty (x ∷ xs) h = grind arith

abbrev pub Numeral : ℕ → ℕ → Type 0
Numeral base n = IsNumeral base (glyphs base false n) × (digits_value base (glyphs base false n) ≡ n)

pub ten : (n : ℕ) → n ≤ 2 ^ 64 → Numeral 10 n
ten n small = digits_is_IsNumeral 10 false (omega arith) (omega arith) n (omega (arith, small))

pub sixteen : (n : ℕ) → n ≤ 2 ^ 64 → Numeral 16 n
sixteen n small = digits_is_IsNumeral 16 false (omega arith) (omega arith) n (omega (arith, small))

-- what is printed in decimal reads as the number
pub decimal_reads : (limit n : ℕ) → n ≤ 2 ^ 64 → n ≤ limit → digits 10 limit (glyphs 10 false n) ≡ Some n
decimal_reads limit n small fits =
    let is = ten n small in
    rw (nonempty (glyphs 10 false n) is.0.0) (digits_read_ten limit 0 (glyphs 10 false n) is.0.1 (rw is.1 fits) ∙ ap Some is.1)

hex_reads : (limit n : ℕ) → n ≤ 2 ^ 64 → n ≤ limit → digits 16 limit (glyphs 16 false n) ≡ Some n
hex_reads limit n small fits =
    let is = sixteen n small in
    rw (nonempty (glyphs 16 false n) is.0.0) (digits_read_hex limit 0 (glyphs 16 false n) is.0.1 (rw is.1 fits) ∙ ap Some is.1)

pub last_step : (b c : ℕ) (cs : List ℕ) → last_of (b ∷ c ∷ cs) ≡ last_of (c ∷ cs)
last_step b c cs = grind arith

last_scale : (b : ℕ) (ds : List ℕ) → digit_value b < 16 → AllDigits 16 ds → scale_of (last_of (b ∷ ds)) ≡ 1
last_scale b [] low all = grind arith
last_scale b (c ∷ cs) low all = rw (last_step b c cs) (last_scale c cs all.0 all.1)

scale_one : (ds : List ℕ) → IsNumeral 16 ds → scale_of (last_of (48 ∷ 120 ∷ ds)) ≡ 1
scale_one [] is = absurd (omega (arith, is.0))
scale_one (d ∷ ds) is = rw (last_step 48 120 (d ∷ ds), last_step 120 d ds) (last_scale d ds is.1.0 is.1.1)

-- what is printed in hexadecimal reads as the number
pub number_reads : (limit n : ℕ) → n ≤ 2 ^ 64 → n ≤ limit → number_of limit (number_text n) ≡ Some n
number_reads limit n small fits =
    let is = sixteen n small in
    rw (scale_one (glyphs 16 false n) is.0) (hex_reads limit n small fits)

-- digits are tokens

digit_graphic : (radix b : ℕ) → radix ≤ 16 → digit_value b < radix → is_graphic b ≡ true
digit_graphic radix b small h = grind (arith, nat_tests)

pub digits_graphic : (radix : ℕ) (ds : List ℕ) → radix ≤ 16 → AllDigits radix ds → list_all is_graphic ds ≡ true
digits_graphic radix [] small all = refl
digits_graphic radix (d ∷ ds) small all =
    and_from (is_graphic d) (list_all is_graphic ds) (digit_graphic radix d small all.0) (digits_graphic radix ds small all.1)

some_there : (xs : List ℕ) → 0 < length xs → nat_lt 0 (length xs) ≡ true
some_there xs h = grind (arith, nat_tests)

pub numeral_token : (radix : ℕ) (ds : List ℕ) → radix ≤ 16 → IsNumeral radix ds → is_token ds ≡ true
numeral_token radix ds small is = and_from (nat_lt 0 (length ds)) (list_all is_graphic ds) (some_there ds is.0) (digits_graphic radix ds small is.1)

pub decimal_token : (n : ℕ) → n ≤ 2 ^ 64 → is_token (glyphs 10 false n) ≡ true
decimal_token n small = numeral_token 10 (glyphs 10 false n) (omega arith) (ten n small).0

pub number_token : (n : ℕ) → n ≤ 2 ^ 64 → is_token (number_text n) ≡ true
number_token n small =
    and_from (nat_lt 0 (length (number_text n))) (list_all is_graphic (number_text n)) (some_there (number_text n) (omega arith))
    (digits_graphic 16 (glyphs 16 false n) (omega arith) (sixteen n small).0.1)

-- numbers of the general form that are printed in decimal

ten_scale : (b : ℕ) (ds : List ℕ) → digit_value b < 10 → AllDigits 10 ds → scale_of (last_of (b ∷ ds)) ≡ 1
ten_scale b [] low all = grind arith
ten_scale b (c ∷ cs) low all = rw (last_step b c cs) (ten_scale c cs all.0 all.1)

ten_scale_one : (ds : List ℕ) → IsNumeral 10 ds → scale_of (last_of ds) ≡ 1
ten_scale_one [] is = absurd (omega (arith, is.0))
ten_scale_one (d ∷ ds) is = ten_scale d ds is.1.0 is.1.1

no_prefix : (ds : List ℕ) → AllDigits 10 ds → bytes_eq (take 2 ds) (codes "0x") ≡ false
no_prefix [] all = refl
no_prefix (d ∷ []) all = grind (arith, nat_tests)
no_prefix (d ∷ e ∷ ds) all = grind (arith, nat_tests)

pub short_number_reads : (limit n : ℕ) → n ≤ 2 ^ 64 → n ≤ limit → number_of limit (glyphs 10 false n) ≡ Some n
short_number_reads limit n small fits =
    let is = ten n small in
    rw (ten_scale_one (glyphs 10 false n) is.0, no_prefix (glyphs 10 false n) is.0.1) (decimal_reads limit n small fits)

-- no digit is this byte, which is no digit
pub no_digit : (ds : List ℕ) (c : ℕ) → AllDigits 10 ds → 10 ≤ digit_value c → list_all (λ b. not (b == c)) ds ≡ true
no_digit [] c all h = refl
no_digit (d ∷ ds) c all h = and_from (not (d == c)) (list_all (λ b. not (b == c)) ds) (grind (arith, nat_tests)) (no_digit ds c all.1 h)
