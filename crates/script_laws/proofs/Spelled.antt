-- Each kind of operand: what was read, printed, reads as the same.
use Rattle.std.proofs.Common.{◌≡◌, ◌==◌, ◌<◌, ◌≤◌, ◌+◌, ◌-◌, ◌*◌, ◌/◌, ◌%◌, ◌^◌, ◌++◌, ◌&&◌, ℕ, zero, suc, List, [], ◌∷◌, Bool, true, false}
use Rattle.std.proofs.Common.{not, cond, nat_lt, nat_le, None, Some, Option, refl, sym, ap, ap₂, subst, ◌∙◌, arith, length, take, drop}
use Rattle.std.proofs.Common.{codes, decimal, bytes_eq, ℤ, pos, negsuc, neg_ℤ, option_map, option_and_then, position, true≢false, eqb-true}
use Rattle.mem_base.specs.map.Limits.{most_bytes, most_passes, page_size}
use Rattle.std.proofs.lemmas.Bool.{eqb-false, lt-ltb, and_parts, and_from}
use Rattle.std.proofs.lemmas.List.{drop-drop, length-append}
use Rattle.std.proofs.lemmas.List.Folds.{list_all-append}
use Rattle.std.specs.Fmt.{digits as glyphs, signed_decimal, digit_glyph}
use Rattle.std.specs.List.{list_all, position_or_len}
use Rattle.std.specs.Str.Parse.{AllDigits}
use Rattle.std.proofs.lemmas.Bool.Decides.{nat_tests}
use Rattle.std.proofs.lemmas.Option.{cond_some, option_and_then_some, none-some, same_Some}
use Rattle.mem_base.specs.declared.map.kinds.Client.TheVariants.{Vga, Code, Migration}
use Rattle.mem_base.specs.declared.map.translations.Perm.TheVariants.{Nothing}
use Rattle.mem_base.specs.declared.map.kinds.DeviceKind.TheVariants.{Latch}
use Rattle.mem_base.specs.script.Spelling.{Text, between, byte_of, byte_pairs, bytes_of, digit_of, digits, is_name, leads_with_no_zero}
use Rattle.mem_base.specs.script.Spelling.{length_of, machine_size, name_of, nonzero, number_of, pair_of, pass_of, priority_of, range_at}
use Rattle.mem_base.specs.script.Spelling.{range_of, whole_pages}
use Rattle.mem_base.specs.script.Operands.{clients, perms, switches, value_in}
use Rattle.mem_base.specs.script.RegionForms.{device_kinds}
use Rattle.mem_base.specs.script.Printing.{bytes_text, client_text, device_kind_text, number_text, pass_text, perm_text, range_text, switch_text}
use Rattle.script_laws.proofs.Tokens.{Law, Spelled, is_graphic, is_token, name-token, token_more}
use Rattle.script_laws.proofs.Numerals.{decimal_reads, decimal_token, digits_fit, digits_graphic, number_fits, number_reads, number_token, either}
use Rattle.script_laws.proofs.Numerals.{no_digit, short_number_reads, ten}

pub name_law : Law name_of (λ n. n)
name_law token x e =
    let k = cond_some (is_name token) token x e in
    subst (λ t. Spelled name_of t t) k.1 (record { token = name-token token k.0; reads = ap (λ b. cond b (Some token) None) k.0 })

pub number_law : (limit : ℕ) → limit ≤ 2 ^ 64 → Law (number_of limit) number_text
number_law limit small token n e =
    let fits = number_fits limit token n e in
    record { token = number_token n (omega (arith, small, fits)); reads = number_reads limit n (omega (arith, small, fits)) fits }

-- a number of the general form that is printed in decimal
pub short_law : (limit : ℕ) → limit ≤ 2 ^ 64 → Law (number_of limit) decimal
short_law limit small token n e =
    let fits = number_fits limit token n e in
    record { token = decimal_token n (omega (arith, small, fits)); reads = short_number_reads limit n (omega (arith, small, fits)) fits }

pub decimal_law : (limit : ℕ) → limit ≤ 2 ^ 64 → Law (digits 10 limit) decimal
decimal_law limit small token n e =
    let fits = digits_fit 10 limit token n e in
    record { token = decimal_token n (omega (arith, small, fits)); reads = decimal_reads limit n (omega (arith, small, fits)) fits }

pub machine_law : Law machine_size number_text
machine_law token n e =
    option_and_then_some whole_pages (number_of most_bytes token) n e λ k is e.
    let pages = cond_some ((k % page_size == 0) && nat_le page_size k) k n e in
    let fits : k ≤ most_bytes = number_fits most_bytes token k is in
    subst (λ m. Spelled machine_size (number_text m) m) pages.1
    (record {
      token = number_token k (omega (arith, fits));
      reads = ap (option_and_then whole_pages) (number_reads most_bytes k (omega (arith, fits)) fits) ∙ ap (λ b. cond b (Some k) None) pages.0;
    })

none_or : {X : Type 0} (b : Bool) (o : Option X) (x : X) → cond b None o ≡ Some x → (b ≡ false) × (o ≡ Some x)
none_or true o x e = absurd (none-some x e)
none_or false o x e = (refl, e)

pub length_law : Law length_of decimal
length_law token n e =
    option_and_then_some nonzero (number_of 64 token) n e λ k is e.
    let some = none_or (k == 0) (Some k) n e in
    let fits : k ≤ 64 = number_fits 64 token k is in
    subst (λ m. Spelled length_of (decimal m) m) (same_Some k n some.1)
    (record {
      token = decimal_token k (omega (arith, fits));
      reads = ap (option_and_then nonzero) (short_number_reads 64 k (omega (arith, fits)) fits) ∙ ap (λ b. cond b None (Some k)) some.0;
    })

-- Priorities

abbrev FitsPriority : ℤ → Type 0
FitsPriority (pos n) = n ≤ 2 ^ 31 - 1
FitsPriority (negsuc n) = n + 1 ≤ 2 ^ 31

negative_fits : (n : ℕ) → n ≤ 2 ^ 31 → FitsPriority (neg_ℤ (pos n))
negative_fits zero h = omega arith
negative_fits (suc n) h = omega (arith, h)

pub mapped_some : {X Y P : Type 0} (f : X → Y) (o : Option X) (y : Y) → option_map f o ≡ Some y → ((x : X) → o ≡ Some x → f x ≡ y → P) → P
mapped_some f None y e k = absurd (none-some y e)
mapped_some f (Some x) y e k = k x refl (same_Some (f x) y e)

priority_fits : (token : Text) (z : ℤ) → priority_of token ≡ Some z → FitsPriority z
priority_fits token z e =
    either (bytes_eq (take 1 token) (codes "-")) (option_map (λ n. neg_ℤ (pos n)) (digits 10 (2 ^ 31) (drop 1 token)))
    (option_map (λ n. pos n) (digits 10 (2 ^ 31 - 1) token)) z
    (λ e. mapped_some (λ n. neg_ℤ (pos n)) (digits 10 (2 ^ 31) (drop 1 token)) z e λ n is same. subst FitsPriority same
    (negative_fits n (digits_fit 10 (2 ^ 31) (drop 1 token) n is)))
    (λ e. mapped_some (λ n. pos n) (digits 10 (2 ^ 31 - 1) token) z e λ n is same. subst FitsPriority same (digits_fit 10 (2 ^ 31 - 1) token n is))
    e

no_minus : (ds : List ℕ) → AllDigits 10 ds → bytes_eq (take 1 ds) (codes "-") ≡ false
no_minus [] all = refl
no_minus (d ∷ ds) all = grind (arith, nat_tests)

priority_spelled : (z : ℤ) → FitsPriority z → Spelled priority_of (signed_decimal z) z
priority_spelled (pos n) fits =
    record {
      token = decimal_token n (omega (arith, fits));
      reads = rw (no_minus (decimal n) (ten n (omega (arith, fits))).0.1)
          (ap (option_map (λ n. pos n)) (decimal_reads (2 ^ 31 - 1) n (omega (arith, fits)) fits));
    }
priority_spelled (negsuc n) fits =
    record {
      token = token_more 45 (decimal (suc n)) refl (digits_graphic 10 (decimal (suc n)) (omega arith) (ten (suc n) (omega (arith, fits))).0.1);
      reads = ap (option_map (λ n. neg_ℤ (pos n))) (decimal_reads (2 ^ 31) (suc n) (omega (arith, fits)) (omega (arith, fits)));
    }

pub priority_law : Law priority_of signed_decimal
priority_law token z e = priority_spelled z (priority_fits token z e)

-- Words

pub switch_law : Law (value_in switches) switch_text
switch_law token true e = record { token = refl; reads = refl }
switch_law token false e = record { token = refl; reads = refl }

pub client_law : Law (value_in clients) client_text
client_law token Vga e = record { token = refl; reads = refl }
client_law token Code e = record { token = refl; reads = refl }
client_law token Migration e = record { token = refl; reads = refl }

pub perm_law : Law (value_in perms) perm_text
perm_law token Nothing e = record { token = refl; reads = refl }
perm_law token _ e = record { token = refl; reads = refl }

pub device_kind_law : Law (value_in device_kinds) device_kind_text
device_kind_law token Latch e = record { token = refl; reads = refl }
device_kind_law token _ e = record { token = refl; reads = refl }

-- Passes

abbrev pub all_below : ℕ → (ℕ → Bool) → Bool
all_below zero test = true
all_below (suc n) test = test n && all_below n test

pub below : (n k : ℕ) (test : ℕ → Bool) → all_below n test ≡ true → k < n → test k ≡ true
below zero k test e h = absurd (omega (arith, h))
below (suc n) k test e h =
    let both = and_parts (test n) (all_below n test) e in
    by (k == n) refl both.0 (below n k test both.1)
  where
    by : (b : Bool) → (k == n) ≡ b → test n ≡ true → (k < n → test k ≡ true) → test k ≡ true
    by true same here rest = ap test (eqb-true k n same) ∙ here
    by false other here rest = rest (let apart = eqb-false k n other in grind (arith, nat_tests))

abbrev pass_number_text : ℕ → Text
pass_number_text n = pass_text (record { 0 = n })

abbrev pub is_value : ℕ → Option ℕ → Bool
is_value n None = false
is_value n (Some m) = m == n

abbrev pass_test : ℕ → Bool
pass_test n = is_token (pass_number_text n) && is_value n (pass_of (pass_number_text n))

passes : all_below 16 pass_test ≡ true
unfolding glyphs
passes = refl

pub value_is : (n : ℕ) (o : Option ℕ) → is_value n o ≡ true → o ≡ Some n
value_is n None e = absurd (true≢false (sym e))
value_is n (Some m) e = ap Some (eqb-true m n e)

pub pass_law : Law pass_of pass_number_text
pass_law token n e =
    let some = cond_then (bytes_eq (take 1 token) (codes "v") && leads_with_no_zero (drop 1 token)) (digits 10 (most_passes - 1) (drop 1 token)) n e in
    let test = and_parts (is_token (pass_number_text n)) (is_value n (pass_of (pass_number_text n)))
    (below most_passes n pass_test passes (let fits = digits_fit 10 (most_passes - 1) (drop 1 token) n some in omega (arith, fits))) in
    record { token = test.0; reads = value_is n (pass_of (pass_number_text n)) test.1 }
  where
    cond_then : (b : Bool) (o : Option ℕ) (n : ℕ) → cond b o None ≡ Some n → o ≡ Some n
    cond_then true o n e = e
    cond_then false o n e = absurd (none-some n e)

-- Ranges

first_at : (ds ys : List ℕ) → list_all (λ b. not (b == 45)) ds ≡ true → position_or_len (λ b. b == 45) (ds ++ 45 ∷ ys) ≡ length ds
first_at [] ys h = refl
first_at (d ∷ ds) ys h =
    let both = and_parts (not (d == 45)) (list_all (λ b. not (b == 45)) ds) h in
    let rest = first_at ds ys both.1 in
    rw both.0 (omega (arith, rest))

dash_at : (ds ys : List ℕ) → list_all (λ b. not (b == 45)) ds ≡ true → position (λ b. b == 45) (ds ++ 45 ∷ ys) ≡ Some (length ds)
dash_at ds ys h =
    let at = first_at ds ys h in
    let long = length-append ds (45 ∷ ys) in
    ap₂ (λ b n. cond b (Some n) None) (lt-ltb (position_or_len (λ b. b == 45) (ds ++ 45 ∷ ys)) (length (ds ++ 45 ∷ ys)) (omega (arith, at, long))) at

take_front : (xs ys : List ℕ) → take (length xs) (xs ++ ys) ≡ xs
take_front [] ys = refl
take_front (x ∷ xs) ys = ap (λ zs. x ∷ zs) (take_front xs ys)

drop_front : (xs ys : List ℕ) → drop (length xs) (xs ++ ys) ≡ ys
drop_front [] ys = refl
drop_front (x ∷ xs) ys = drop_front xs ys

drop_past : (xs : List ℕ) (y : ℕ) (ys : List ℕ) → drop (length xs + 1) (xs ++ y ∷ ys) ≡ ys
drop_past xs y ys = sym (drop-drop 1 (length xs) (xs ++ y ∷ ys)) ∙ ap (drop 1) (drop_front xs (y ∷ ys))

pair_some : (a b : Option ℕ) (r : ℕ × ℕ) → pair_of a b ≡ Some r → (a ≡ Some r.0) × (b ≡ Some r.1)
pair_some (Some low) (Some high) r e = let same = same_Some (low, high) r e in (ap (λ p. Some p.0) same, ap (λ p. Some p.1) same)
pair_some (Some low) None r e = absurd (none-some r e)
pair_some None b r e = absurd (none-some r e)

range_fits : (o : Option ℕ) (text : Text) (r : ℕ × ℕ) → range_at o text ≡ Some r → (r.0 ≤ 255) × (r.1 ≤ 255)
range_fits None text r e = absurd (none-some r e)
range_fits (Some dash) text r e =
    let both = pair_some (digits 10 255 (take dash text)) (digits 10 255 (drop (dash + 1) text)) r e in
    (digits_fit 10 255 (take dash text) r.0 both.0, digits_fit 10 255 (drop (dash + 1) text) r.1 both.1)

pub range_law : Law range_of range_text
range_law token r e =
    let fits = range_fits (position (λ b. b == 45) token) token r e in
    let low = ten r.0 (omega (arith, fits.0)) in
    let dash = dash_at (decimal r.0) (decimal r.1) (no_digit (decimal r.0) 45 low.0.1 (omega arith)) in
    let front : digits 10 255 (take (length (decimal r.0)) (range_text r)) ≡ Some r.0 =
    ap (digits 10 255) (take_front (decimal r.0) (45 ∷ decimal r.1)) ∙ decimal_reads 255 r.0 (omega (arith, fits.0)) fits.0 in
    let back : digits 10 255 (drop (length (decimal r.0) + 1) (range_text r)) ≡ Some r.1 =
    ap (digits 10 255) (drop_past (decimal r.0) 45 (decimal r.1)) ∙ decimal_reads 255 r.1 (omega (arith, fits.1)) fits.1 in
    record {
      token = and_from (nat_lt 0 (length (range_text r))) (list_all is_graphic (range_text r))
          (let long = length-append (decimal r.0) (45 ∷ decimal r.1) in lt-ltb 0 (length (range_text r)) (omega (arith, long)))
          (list_all-append is_graphic (decimal r.0) (45 ∷ decimal r.1)
          ∙ and_from (list_all is_graphic (decimal r.0)) (list_all is_graphic (45 ∷ decimal r.1)) (digits_graphic 10 (decimal r.0) (omega arith) low.0.1)
          (digits_graphic 10 (decimal r.1) (omega arith) (ten r.1 (omega (arith, fits.1))).0.1));
      reads = ap (λ o. range_at o (range_text r)) dash ∙ ap₂ pair_of front back;
    }

-- Bytes

abbrev pub AllBytes : List ℕ → Type 0
AllBytes [] = Unit {0}
AllBytes (b ∷ bs) = (b < 256) × AllBytes bs

digit_small : (b d : ℕ) → digit_of 16 b ≡ Some d → d ≤ 15
digit_small b d e = by (between 48 57 b) (between 97 102 b) (between 65 70 b) refl refl refl e
  where
    by : (p q r : Bool) → between 48 57 b ≡ p → between 97 102 b ≡ q → between 65 70 b ≡ r →
        cond p (Some (b - 48)) (cond q (Some (b - 87)) (cond r (Some (b - 55)) None)) ≡ Some d → d ≤ 15
    by true q r h k l e = let same = same_Some (b - 48) d e in grind (arith, nat_tests)
    by false true r h k l e = let same = same_Some (b - 87) d e in grind (arith, nat_tests)
    by false false true h k l e = let same = same_Some (b - 55) d e in grind (arith, nat_tests)
    by false false false h k l e = absurd (none-some d e)

byte_small : (high low b : ℕ) → byte_of high low ≡ Some b → b < 256
byte_small high low b e =
    option_and_then_some _ (digit_of 16 high) b e λ h is e.
    mapped_some _ (digit_of 16 low) b e λ l is2 same.
    let one = digit_small high h is in
    let two = digit_small low l is2 in
    omega (arith, one, two, same)

pairs_fit : (text : Text) (bs : List ℕ) → byte_pairs text ≡ Some bs → AllBytes bs × (length (bytes_text bs) ≡ length text)
pairs_fit [] bs e = subst (λ bs. AllBytes bs × (length (bytes_text bs) ≡ 0)) (same_Some [] bs e) (tt, refl)
pairs_fit (high ∷ []) bs e = absurd (none-some bs e)
pairs_fit (high ∷ low ∷ rest) bs e =
    option_and_then_some _ (byte_of high low) bs e λ b is e.
    mapped_some _ (byte_pairs rest) bs e λ more is2 same.
    let others = pairs_fit rest more is2 in
    subst (λ bs. AllBytes bs × (length (bytes_text bs) ≡ length (high ∷ low ∷ rest))) same
    ((byte_small high low b is, others.0), ap (λ n. suc (suc n)) others.1)

glyph_reads : (d : ℕ) → d < 16 → digit_of 16 (digit_glyph false d) ≡ Some d
glyph_reads d h = grind (arith, nat_tests)

glyph_graphic : (d : ℕ) → d < 16 → is_graphic (digit_glyph false d) ≡ true
glyph_graphic d h = grind (arith, nat_tests)

pub bytes_read : (bs : List ℕ) → AllBytes bs → byte_pairs (bytes_text bs) ≡ Some bs
bytes_read [] all = refl
bytes_read (b ∷ bs) all =
    let whole : b / 16 * 16 + b % 16 ≡ b = omega arith in
    rw (glyph_reads (b / 16) (omega (arith, all.0)), glyph_reads (b % 16) (omega arith)) (ap₂ (λ n o. option_map (λ ns. n ∷ ns) o) whole (bytes_read bs all.1))

bytes_graphic : (bs : List ℕ) → AllBytes bs → list_all is_graphic (bytes_text bs) ≡ true
bytes_graphic [] all = refl
bytes_graphic (b ∷ bs) all =
    and_from (is_graphic (digit_glyph false (b / 16))) (list_all is_graphic (digit_glyph false (b % 16) ∷ bytes_text bs))
    (glyph_graphic (b / 16) (omega (arith, all.0)))
    (and_from (is_graphic (digit_glyph false (b % 16))) (list_all is_graphic (bytes_text bs)) (glyph_graphic (b % 16) (omega arith)) (bytes_graphic bs all.1))

pub bytes_law : Law bytes_of bytes_text
bytes_law token bs e =
    let some = when (nat_le 1 (length token) && nat_le (length token) 128) (byte_pairs token) bs e in
    let fits = pairs_fit token bs some.1 in
    let same : (nat_le 1 (length (bytes_text bs)) && nat_le (length (bytes_text bs)) 128) ≡ true = ap (λ n. nat_le 1 n && nat_le n 128) fits.1 ∙ some.0 in
    record {
      token = and_from (nat_lt 0 (length (bytes_text bs))) (list_all is_graphic (bytes_text bs))
          (and_parts (nat_le 1 (length (bytes_text bs))) (nat_le (length (bytes_text bs)) 128) same).0
          (bytes_graphic bs fits.0);
      reads = ap (λ b. cond b (byte_pairs (bytes_text bs)) None) same ∙ bytes_read bs fits.0;
    }
  where
    when : {X : Type 0} (b : Bool) (o : Option X) (x : X) → cond b o None ≡ Some x → (b ≡ true) × (o ≡ Some x)
    when true o x e = (refl, e)
    when false o x e = absurd (none-some x e)
