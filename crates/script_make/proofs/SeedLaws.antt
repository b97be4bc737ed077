-- Whatever words a generator gives, the commands that it draws print as a script that reads as them.
use Rattle.std.proofs.Common.{◌≡◌, ◌==◌, ◌<◌, ◌≤◌, ◌+◌, ◌*◌, ◌/◌, ◌%◌, ◌^◌, ◌++◌, ◌&&◌, ℕ, zero, suc, List, [], ◌∷◌, Bool, true, false}
use Rattle.std.proofs.Common.{cond, nat_le, None, Some, Option, Ok, refl, ap, ◌∙◌, arith, length, codes, decimal, ℤ, pos, negsuc, ◌-ℤ◌}
use Rattle.std.proofs.Math.Nat.{mod-lt}
use Rattle.std.proofs.lemmas.Bool.{le-leb, and_from}
use Rattle.std.proofs.lemmas.Fmt.{length_signed_le}
use Rattle.std.proofs.lemmas.Bool.Decides.{nat_tests}
use Rattle.std.proofs.lemmas.Fmt.{length-decimal-le}
use Rattle.std.proofs.lemmas.List.{length-append}
use Rattle.std.specs.Char.{digit_value}
use Rattle.std.specs.Fmt.{digits as glyphs, digits_onto, digit_glyph}
use Rattle.std.specs.List.{list_all}
use Rattle.std.specs.Str.Parse.{AllDigits}
use Rattle.rand_pcg.specs.Lcg.{increment_of, started}
use Rattle.rand_pcg.specs.Pcg.{multiplier_64, pcg32}
use Rattle.mem_base.specs.declared.script.changes.MapChange.TheVariants as changes
use Rattle.mem_base.specs.declared.script.commands.Command.{Command}
use Rattle.mem_base.specs.declared.script.commands.Command.TheVariants as commands
use Rattle.mem_base.specs.declared.script.commands.PassCommand.TheVariants as pass_commands
use Rattle.mem_base.specs.declared.script.commands.RegionKind.TheVariants as region_kinds
use Rattle.mem_base.specs.script.Spelling.{Text, bytes_of, length_of, may_follow, most_address, most_size, name_of, number_of, pass_of}
use Rattle.mem_base.specs.declared.script.places.PlaceRule.TheVariants.{Anywhere}
use Rattle.mem_base.specs.declared.script.places.Section.TheVariants.{Start, Setup}
use Rattle.mem_base.specs.script.Forms.{command}
use Rattle.mem_base.specs.script.Operands.{last_priority}
use Rattle.mem_base.specs.script.Scripts.{most_text, placed, rule_of, script_of}
use Rattle.mem_base.specs.script.Make.{Generator, add_line, added, draw, draw_access, draw_accesses, draw_alias, draw_bytes, draw_kind, draw_move}
use Rattle.mem_base.specs.script.Make.{draw_move_at, draw_page, draw_place, draw_region, draw_regions, draw_way, draw_write, give, latch, latest_after}
use Rattle.mem_base.specs.script.Make.{made, made_of, region_name, root, space}
use Rattle.mem_base.specs.script.Printing.{bytes_text, numbered, prio_tokens, command_tokens, number_text, numbered_commands, pass_text, printed, spaced}
use Rattle.mem_base.specs.script.Sound.{ReadsAsItself, Sound}
use Rattle.script_laws.proofs.CommandLaws.{command_again}
use Rattle.script_laws.proofs.Numerals.{number_reads, ten}
use Rattle.script_laws.proofs.ScriptLaws.{printed_again}
use Rattle.script_laws.proofs.Spelled.{AllBytes, all_below, below, bytes_read, is_value, value_is}
use Rattle.script_make.specs.Texts.{commands_of_seed, script_of_seed, text_of_seed}

-- How the operands read

digit_follows : (b : ℕ) → digit_value b < 10 → may_follow b ≡ true
digit_follows b h = grind (arith, nat_tests)

digits_follow : (ds : List ℕ) → AllDigits 10 ds → list_all may_follow ds ≡ true
digits_follow [] all = refl
digits_follow (d ∷ ds) all = and_from (may_follow d) (list_all may_follow ds) (digit_follows d all.0) (digits_follow ds all.1)

-- the name of a region below 2000
name_long : (i : ℕ) → i < 2000 → length (region_name i) ≤ 5
name_long i h = let long = length-decimal-le 4 i (omega arith) (omega (arith, h)) (omega (arith, h)) in omega (arith, long)

pub name_reads : (i : ℕ) → i < 2000 → name_of (region_name i) ≡ Some (region_name i)
name_reads i h =
    let follow : list_all may_follow (decimal i) ≡ true = digits_follow (decimal i) (ten i (omega (arith, h))).0.1 in
    let short : nat_le (length (region_name i)) 32 ≡ true = le-leb (length (region_name i)) 32 (let long = name_long i h in omega (arith, long)) in
    rw (short, follow) refl

address_reads : (n : ℕ) → n < 2 ^ 24 → number_of most_address (number_text n) ≡ Some n
address_reads n h = number_reads most_address n (omega (arith, h)) (omega (arith, h))

size_reads : (n : ℕ) → n < 2 ^ 32 → number_of most_size (number_text n) ≡ Some n
size_reads n h = number_reads most_size n (omega (arith, h)) (omega (arith, h))

abbrev pass_test : ℕ → Bool
pass_test n = is_value n (pass_of (pass_text (record { 0 = n })))

passes : all_below 16 pass_test ≡ true
unfolding glyphs
passes = refl

pass_reads : (n : ℕ) → n < 16 → pass_of (pass_text (record { 0 = n })) ≡ Some n
pass_reads n h = value_is n (pass_of (pass_text (record { 0 = n }))) (below 16 n pass_test passes h)

abbrev length_test : ℕ → Bool
length_test n = is_value (1 + n) (length_of (decimal (1 + n)))

lengths : all_below 8 length_test ≡ true
unfolding glyphs
lengths = refl

length_reads : (n : ℕ) → n < 8 → length_of (decimal (1 + n)) ≡ Some (1 + n)
length_reads n h = value_is (1 + n) (length_of (decimal (1 + n))) (below 8 n length_test lengths h)

bytes_long : (bs : List ℕ) → length (bytes_text bs) ≡ 2 * length bs
bytes_long [] = refl
bytes_long (b ∷ bs) = let rest = bytes_long bs in omega (arith, rest)

write_reads : (bs : List ℕ) → AllBytes bs → 1 ≤ length bs → length bs ≤ 8 → bytes_of (bytes_text bs) ≡ Some bs
write_reads bs all some few =
    let long = bytes_long bs in
    let low : nat_le 1 (length (bytes_text bs)) ≡ true = le-leb 1 (length (bytes_text bs)) (omega (arith, long, some)) in
    let high : nat_le (length (bytes_text bs)) 128 ≡ true = le-leb (length (bytes_text bs)) 128 (omega (arith, long, few)) in
    rw (low, high) (bytes_read bs all)

-- How many bytes they take

hex_long : (k j n : ℕ) (after : List ℕ) → n < 16 ^ suc j → j < k → length (digits_onto k 16 false n after) ≤ suc j + length after
hex_long zero j n after small room = absurd (omega (arith, room))
hex_long (suc k) zero n after small room =
    let none : (n / 16 == 0) ≡ true = grind (arith, nat_tests) in
    rw none (omega arith)
hex_long (suc k) (suc j) n after small room =
    by (n / 16 == 0) (hex_long k j (n / 16) (digit_glyph false (n % 16) ∷ after) (omega (arith, small)) (omega (arith, room)))
  where
    by : (b : Bool) → length (digits_onto k 16 false (n / 16) (digit_glyph false (n % 16) ∷ after)) ≤ suc j + length (digit_glyph false (n % 16) ∷ after)
        → length (cond b (digit_glyph false (n % 16) ∷ after) (digits_onto k 16 false (n / 16) (digit_glyph false (n % 16) ∷ after))) ≤ suc (suc j) + length after
    by true rest = omega arith
    by false rest = omega (arith, rest)

number_long : (n : ℕ) → n < 2 ^ 24 → length (number_text n) ≤ 8
unfolding glyphs
number_long n h = let long = hex_long 64 5 n [] (omega (arith, h)) (omega arith) in omega (arith, long)

size_long : (n : ℕ) → n < 2 ^ 32 → length (number_text n) ≤ 10
unfolding glyphs
size_long n h = let long = hex_long 64 7 n [] (omega (arith, h)) (omega arith) in omega (arith, long)

decimal_long : (n : ℕ) → n < 16 → length (decimal n) ≤ 2
decimal_long n h = length-decimal-le 2 n (omega arith) (omega (arith, h)) (omega (arith, h))

digit_long : (n : ℕ) → n < 10 → length (decimal n) ≤ 1
digit_long n h = length-decimal-le 1 n (omega arith) (omega (arith, h)) (omega (arith, h))

-- the bytes of a line are at most these: each token with a space, and the line feed
abbrev weight : List Text → ℕ
weight [] = 1
weight (t ∷ ts) = length t + 1 + weight ts

spaced_long : (ts : List Text) → length (spaced ts) + 1 ≤ weight ts
spaced_long [] = omega arith
spaced_long (t ∷ []) = omega arith
spaced_long (t ∷ u ∷ us) = let rest = spaced_long (u ∷ us) in let long = length-append t (32 ∷ spaced (u ∷ us)) in omega (arith, rest, long)

abbrev cost : Command → ℕ
cost c = weight (command_tokens c)

abbrev costs : List Command → ℕ
costs [] = 0
costs (c ∷ cs) = cost c + costs cs

printed_long : (n : ℕ) (cs : List Command) → length (printed (numbered_commands n cs)) ≤ costs cs
printed_long n [] = omega arith
printed_long n (c ∷ cs) =
    let rest = printed_long (n + 1) cs in
    let line = spaced_long (command_tokens c) in
    let long = length-append (spaced (command_tokens c)) (10 ∷ printed (numbered_commands (n + 1) cs)) in
    omega (arith, rest, line, long)

costs_append : (cs ds : List Command) → costs (cs ++ ds) ≡ costs cs + costs ds
costs_append [] ds = omega arith
costs_append (c ∷ cs) ds = let rest = costs_append cs ds in omega (arith, rest)

-- Commands that may stand anywhere

abbrev Stands : Command → Type 0
Stands c = ReadsAsItself c × (rule_of c ≡ Anywhere)

abbrev Stand : List Command → Type 0
Stand [] = Unit {0}
Stand (c ∷ cs) = Stands c × Stand cs

-- it may stand anywhere, and takes at most n bytes
abbrev Fine : ℕ → Command → Type 0
Fine n c = Stands c × (cost c ≤ n)

stand_append : (cs ds : List Command) → Stand cs → Stand ds → Stand (cs ++ ds)
stand_append [] ds a b = b
stand_append (c ∷ cs) ds a b = (a.0, stand_append cs ds a.1 b)

ram_line : (n s name : Text) (size : ℕ) → name_of n ≡ Some name → number_of most_size s ≡ Some size
    → command (codes "region" ∷ n ∷ codes "ram" ∷ s ∷ []) ≡ Ok (commands.Region name size region_kinds.Ram)
ram_line n s name size a b = rw (a, b) refl

container_line : (n s name : Text) (size : ℕ) → name_of n ≡ Some name → number_of most_size s ≡ Some size
    → command (codes "region" ∷ n ∷ codes "container" ∷ s ∷ []) ≡ Ok (commands.Region name size region_kinds.Container)
container_line n s name size a b = rw (a, b) refl

latch_line : (n s name : Text) (size : ℕ) → name_of n ≡ Some name → number_of most_size s ≡ Some size
    → command (codes "region" ∷ n ∷ codes "io" ∷ s ∷ codes "latch" ∷ []) ≡ Ok (commands.Region name size (region_kinds.Io latch))
latch_line n s name size a b = rw (a, b) refl

alias_line : (n s t o name target : Text) (size offset : ℕ) → name_of n ≡ Some name → number_of most_size s ≡ Some size → name_of t ≡ Some target
    → number_of most_address o ≡ Some offset
    → command (codes "region" ∷ n ∷ codes "alias" ∷ s ∷ t ∷ o ∷ []) ≡ Ok (commands.Region name size (region_kinds.Alias target offset))
alias_line n s t o name target size offset a b c d = rw (a, b, c, d) refl

add_line_reads : (p o c parent child : Text) (offset : ℕ) (z : ℤ) (tokens : List Text) → name_of p ≡ Some parent → number_of most_address o ≡ Some offset
    → name_of c ≡ Some child → last_priority tokens ≡ Ok (z, [])
    → command (codes "add" ∷ p ∷ o ∷ c ∷ tokens) ≡ Ok (commands.Change (changes.Add parent offset child z))
add_line_reads p o c parent child offset z tokens a b d e = rw (a, b, d, e) refl

move_line : (c o child : Text) (offset : ℕ) → name_of c ≡ Some child → number_of most_address o ≡ Some offset
    → command (codes "move" ∷ c ∷ o ∷ []) ≡ Ok (commands.Change (changes.Move child offset))
move_line c o child offset a b = rw (a, b) refl

read_line : (pass : ℕ) (s a n space : Text) (addr len : ℕ) → pass_of (pass_text (record { 0 = pass })) ≡ Some pass → name_of s ≡ Some space
    → number_of most_address a ≡ Some addr → length_of n ≡ Some len
    → command (pass_text (record { 0 = pass }) ∷ codes "read" ∷ s ∷ a ∷ n ∷ []) ≡ Ok (commands.Pass (record { 0 = pass }) (pass_commands.Read space addr len))
read_line pass s a n space addr len b c d e = rw (b, c, d, e) refl

write_line : (pass : ℕ) (s a t space : Text) (addr : ℕ) (bytes : List ℕ) → pass_of (pass_text (record { 0 = pass })) ≡ Some pass → name_of s ≡ Some space
    → number_of most_address a ≡ Some addr → bytes_of t ≡ Some bytes
    → command (pass_text (record { 0 = pass }) ∷ codes "write" ∷ s ∷ a ∷ t ∷ []) ≡ Ok (commands.Pass (record { 0 = pass }) (pass_commands.Write space addr bytes))
write_line pass s a t space addr bytes b c d e = rw (b, c, d, e) refl

-- What is drawn

below_drawn : {G : Type 0} (next : Generator G) (n : ℕ) (g : G) → 0 < n → (draw next n g).0 < n
below_drawn next n g some = mod-lt (next g).0 some

page_drawn : {G : Type 0} (next : Generator G) (n : ℕ) (g : G) → 0 < n → n ≤ 4096 → (draw_page next n g).0 < 2 ^ 24
page_drawn next n g some few = let low = below_drawn next n g some in omega (arith, low, few)

ram_fine : (i : ℕ) → i < 2000 → Fine 44 (commands.Region (region_name i) 0x1000 region_kinds.Ram)
ram_fine i h =
    let name = name_long i h in let size = number_long 0x1000 (omega arith) in (
      (
        command_again (codes "region" ∷ region_name i ∷ codes "ram" ∷ number_text 0x1000 ∷ []) (commands.Region (region_name i) 0x1000 region_kinds.Ram)
            (ram_line (region_name i) (number_text 0x1000) (region_name i) 0x1000 (name_reads i h) (size_reads 0x1000 (omega arith))),
        refl,
      ),
      omega (arith, name, size),
    )

container_fine : (i : ℕ) → i < 2000 → Fine 44 (commands.Region (region_name i) 0x4000 region_kinds.Container)
container_fine i h =
    let name = name_long i h in let size = number_long 0x4000 (omega arith) in (
      (
        command_again (codes "region" ∷ region_name i ∷ codes "container" ∷ number_text 0x4000 ∷ []) (commands.Region (region_name i) 0x4000 region_kinds.Container)
            (container_line (region_name i) (number_text 0x4000) (region_name i) 0x4000 (name_reads i h) (size_reads 0x4000 (omega arith))),
        refl,
      ),
      omega (arith, name, size),
    )

latch_fine : (i : ℕ) → i < 2000 → Fine 44 (commands.Region (region_name i) 0x1000 (region_kinds.Io latch))
latch_fine i h =
    let name = name_long i h in let size = number_long 0x1000 (omega arith) in (
      (
        command_again (codes "region" ∷ region_name i ∷ codes "io" ∷ number_text 0x1000 ∷ codes "latch" ∷ []) (commands.Region (region_name i) 0x1000 (region_kinds.Io latch))
            (latch_line (region_name i) (number_text 0x1000) (region_name i) 0x1000 (name_reads i h) (size_reads 0x1000 (omega arith))),
        refl,
      ),
      omega (arith, name, size),
    )

alias_fine : (i target offset : ℕ) → i < 2000 → target < 2000 → offset < 2 ^ 24
    → Fine 44 (commands.Region (region_name i) 0x1000 (region_kinds.Alias (region_name target) offset))
alias_fine i target offset h k o =
    let name = name_long i h in let size = number_long 0x1000 (omega arith) in let other = name_long target k in let at = number_long offset o in (
      (
        command_again (codes "region" ∷ region_name i ∷ codes "alias" ∷ number_text 0x1000 ∷ region_name target ∷ number_text offset ∷ [])
            (commands.Region (region_name i) 0x1000 (region_kinds.Alias (region_name target) offset))
            (alias_line (region_name i) (number_text 0x1000) (region_name target) (number_text offset) (region_name i) (region_name target) 0x1000 offset
            (name_reads i h) (size_reads 0x1000 (omega arith)) (name_reads target k) (address_reads offset o)),
        refl,
      ),
      omega (arith, name, size, other, at),
    )

-- the first region is no alias
no_first_alias : (i k : ℕ) → (cond ((i == 0) && (k == 2)) 0 k == 2) ≡ true → 0 < i
no_first_alias i k same = grind (arith, nat_tests)

region_fine : {G : Type 0} (next : Generator G) (i k : ℕ) (g : G) → i < 2000 → ((k == 2) ≡ true → 0 < i) → Fine 44 (draw_region next i k g).0
region_fine {G} next i k g h some = by (k == 0) (k == 1) (k == 2) some
  where
    other : 0 < i → Fine 44 (draw_alias next i g).0
    other j =
        let target = below_drawn next i g j in
        alias_fine i (draw next i g).0 (draw_page next 4 (draw next i g).1).0 h (omega (arith, target, h)) (page_drawn next 4 (draw next i g).1 (omega arith) (omega arith))

    by : (a b c : Bool) → (c ≡ true → 0 < i)
        → Fine 44 (cond a (give (commands.Region (region_name i) 0x1000 region_kinds.Ram)) (cond b (give (commands.Region (region_name i) 0x1000 (region_kinds.Io latch)))
        (cond c (draw_alias next i) (give (commands.Region (region_name i) 0x4000 region_kinds.Container)))) g).0
    by true b c some = ram_fine i h
    by false true c some = latch_fine i h
    by false false true some = other (some refl)
    by false false false some = container_fine i h

-- Places

-- a priority from -2 to 2 is read, whatever tokens it is printed as
priority_line : (p c parent child : Text) (o : Text) (offset n : ℕ) → name_of p ≡ Some parent → number_of most_address o ≡ Some offset
    → name_of c ≡ Some child → n < 5 → ReadsAsItself (commands.Change (changes.Add parent offset child (pos n -ℤ pos 2)))
priority_line p c parent child o offset zero a b d h =
    command_again (codes "add" ∷ p ∷ o ∷ c ∷ codes "prio" ∷ codes "-2" ∷ []) (commands.Change (changes.Add parent offset child (negsuc 1)))
    (add_line_reads p o c parent child offset (negsuc 1) (codes "prio" ∷ codes "-2" ∷ []) a b d refl)
priority_line p c parent child o offset (suc zero) a b d h =
    command_again (codes "add" ∷ p ∷ o ∷ c ∷ codes "prio" ∷ codes "-1" ∷ []) (commands.Change (changes.Add parent offset child (negsuc 0)))
    (add_line_reads p o c parent child offset (negsuc 0) (codes "prio" ∷ codes "-1" ∷ []) a b d refl)
priority_line p c parent child o offset (suc (suc zero)) a b d h =
    command_again (codes "add" ∷ p ∷ o ∷ c ∷ []) (commands.Change (changes.Add parent offset child (pos 0)))
    (add_line_reads p o c parent child offset (pos 0) [] a b d refl)
priority_line p c parent child o offset (suc (suc (suc zero))) a b d h =
    command_again (codes "add" ∷ p ∷ o ∷ c ∷ codes "prio" ∷ codes "1" ∷ []) (commands.Change (changes.Add parent offset child (pos 1)))
    (add_line_reads p o c parent child offset (pos 1) (codes "prio" ∷ codes "1" ∷ []) a b d refl)
priority_line p c parent child o offset (suc (suc (suc (suc zero)))) a b d h =
    command_again (codes "add" ∷ p ∷ o ∷ c ∷ codes "prio" ∷ codes "2" ∷ []) (commands.Change (changes.Add parent offset child (pos 2)))
    (add_line_reads p o c parent child offset (pos 2) (codes "prio" ∷ codes "2" ∷ []) a b d refl)
priority_line p c parent child o offset (suc (suc (suc (suc (suc n))))) a b d h = absurd (omega (arith, h))

priority_long : (n : ℕ) → n < 5 → weight (prio_tokens (pos n -ℤ pos 2)) ≤ 9
priority_long zero h = let long = length_signed_le 1 (negsuc 1) (omega arith) (omega arith) in omega (arith, long)
priority_long (suc zero) h = let long = length_signed_le 1 (negsuc 0) (omega arith) (omega arith) in omega (arith, long)
priority_long (suc (suc zero)) h = omega arith
priority_long (suc (suc (suc zero))) h = let long = length_signed_le 1 (pos 1) (omega arith) (omega arith) in omega (arith, long)
priority_long (suc (suc (suc (suc zero)))) h = let long = length_signed_le 1 (pos 2) (omega arith) (omega arith) in omega (arith, long)
priority_long (suc (suc (suc (suc (suc n))))) h = absurd (omega (arith, h))

add_fine : (parent : Text) (offset i n : ℕ) → name_of parent ≡ Some parent → length parent ≤ 5 → offset < 2 ^ 24 → i < 2000 → n < 5
    → Fine 36 (add_line parent offset i (pos n -ℤ pos 2))
add_fine parent offset i n p q o h k =
    let at = number_long offset o in let name = name_long i h in let last = priority_long n k in (
      (priority_line parent (region_name i) parent (region_name i) (number_text offset) offset n p (address_reads offset o) (name_reads i h) k, refl),
      omega (arith, q, at, name, last),
    )

abbrev IsThere : Option ℕ → Type 0
IsThere None = Unit {0}
IsThere (Some container) = container < 2000

added_fine : (latest : Option ℕ) (i offset chosen n : ℕ) → IsThere latest → offset < 2 ^ 24 → i < 2000 → n < 5
    → Fine 36 (added latest i offset chosen (pos n -ℤ pos 2))
added_fine None i offset chosen n there o h k = add_fine root offset i n refl (omega arith) o h k
added_fine (Some container) i offset zero n there o h k =
    let long = name_long container there in
    let low : offset % 0x4000 < 2 ^ 24 = omega arith in
    add_fine (region_name container) (offset % 0x4000) i n (name_reads container there) long low h k
added_fine (Some container) i offset (suc chosen) n there o h k = add_fine root offset i n refl (omega arith) o h k

place_fine : {G : Type 0} (next : Generator G) (i : ℕ) (latest : Option ℕ) (g : G) → IsThere latest → i < 2000 → Fine 36 (draw_place next i latest g).0
place_fine next i latest g there h =
    let offset = draw_page next 4096 g in
    let chosen = draw next 3 offset.1 in
    let n = draw next 5 chosen.1 in
    added_fine latest i offset.0 chosen.0 n.0 there (page_drawn next 4096 g (omega arith) (omega arith)) h (below_drawn next 5 chosen.1 (omega arith))

later_there : (latest : Option ℕ) (i k : ℕ) → IsThere latest → i < 2000 → IsThere (latest_after latest i k)
later_there latest i k there h = by (k == 3)
  where
    by : (b : Bool) → IsThere (cond b (Some i) latest)
    by true = h
    by false = there

regions_fine : {G : Type 0} (next : Generator G) (count i : ℕ) (latest : Option ℕ) (g : G) → i + count ≤ 2000 → IsThere latest
    → Stand (draw_regions next count i latest g).0 × (costs (draw_regions next count i latest g).0 ≤ 80 * count)
regions_fine next zero i latest g room there = (tt, omega arith)
regions_fine next (suc count) i latest g room there =
    let k = draw_kind next i g in
    let region = draw_region next i k.0 k.1 in
    let place = draw_place next i latest region.1 in
    let h : i < 2000 = omega (arith, room) in
    let a = region_fine next i k.0 k.1 h (no_first_alias i (draw next 4 g).0) in
    let b = place_fine next i latest region.1 there h in
    let rest = regions_fine next count (i + 1) (latest_after latest i k.0) place.1 (omega (arith, room)) (later_there latest i k.0 there h) in
    ((a.0, (b.0, rest.0)), omega (arith, a.1, b.1, rest.1))

-- Accesses

bytes_drawn : {G : Type 0} (next : Generator G) (n : ℕ) (g : G) → AllBytes (draw_bytes next n g).0 × (length (draw_bytes next n g).0 ≡ n)
bytes_drawn next zero g = (tt, refl)
bytes_drawn next (suc n) g =
    let byte = below_drawn next 256 g (omega arith) in
    let rest = bytes_drawn next n (draw next 256 g).1 in
    ((byte, rest.0), omega (arith, rest.1))

read_fine : (pass addr len : ℕ) → pass < 16 → addr < 2 ^ 24 → len < 8 → Fine 39 (commands.Pass (record { 0 = pass }) (pass_commands.Read space addr (1 + len)))
read_fine pass addr len p a l =
    let who = decimal_long pass p in let at = number_long addr a in let many = digit_long (1 + len) (omega (arith, l)) in (
      (
        command_again (pass_text (record { 0 = pass }) ∷ codes "read" ∷ space ∷ number_text addr ∷ decimal (1 + len) ∷ [])
            (commands.Pass (record { 0 = pass }) (pass_commands.Read space addr (1 + len)))
            (read_line pass space (number_text addr) (decimal (1 + len)) space addr (1 + len) (pass_reads pass p) refl (address_reads addr a) (length_reads len l)),
        refl,
      ),
      omega (arith, who, at, many),
    )

write_fine : (pass addr : ℕ) (bytes : List ℕ) → pass < 16 → addr < 2 ^ 24 → AllBytes bytes → 1 ≤ length bytes → length bytes ≤ 8
    → Fine 39 (commands.Pass (record { 0 = pass }) (pass_commands.Write space addr bytes))
write_fine pass addr bytes p a all some few =
    let who = decimal_long pass p in let at = number_long addr a in let many = bytes_long bytes in (
      (
        command_again (pass_text (record { 0 = pass }) ∷ codes "write" ∷ space ∷ number_text addr ∷ bytes_text bytes ∷ [])
            (commands.Pass (record { 0 = pass }) (pass_commands.Write space addr bytes))
            (write_line pass space (number_text addr) (bytes_text bytes) space addr bytes (pass_reads pass p) refl (address_reads addr a)
            (write_reads bytes all some few)),
        refl,
      ),
      omega (arith, who, at, many, few),
    )

way_fine : {G : Type 0} (next : Generator G) (way pass addr len : ℕ) (g : G) → pass < 16 → addr < 2 ^ 24 → len < 8
    → Fine 39 (draw_way next way (record { 0 = pass }) addr (1 + len) g).0
way_fine {G} next way pass addr len g p a l = by (way == 0)
  where
    by : (b : Bool) → Fine 39 (cond b (give (commands.Pass (record { 0 = pass }) (pass_commands.Read space addr (1 + len)))) (draw_write next (record { 0 = pass }) addr (1 + len)) g).0
    by true = read_fine pass addr len p a l
    by false =
        let bytes = bytes_drawn next (1 + len) g in
        write_fine pass addr (draw_bytes next (1 + len) g).0 p a bytes.0 (omega (arith, bytes.1)) (omega (arith, bytes.1, l))

access_fine : {G : Type 0} (next : Generator G) (g : G) → Fine 39 (draw_access next g).0
access_fine next g =
    let pass = draw next 16 g in
    let way = draw next 2 pass.1 in
    let page = draw_page next 4096 way.1 in
    let offset = draw next 4096 page.1 in
    let len = draw next 8 offset.1 in
    let low = below_drawn next 4096 way.1 (omega arith) in
    let within = below_drawn next 4096 page.1 (omega arith) in
    way_fine next way.0 pass.0 (page.0 + offset.0) len.0 len.1 (below_drawn next 16 g (omega arith)) (omega (arith, low, within))
    (below_drawn next 8 offset.1 (omega arith))

move_fine : {G : Type 0} (next : Generator G) (g : G) → Stand (draw_move next g).0 × (costs (draw_move next g).0 ≤ 21)
move_fine next g =
    let region = below_drawn next 2000 g (omega arith) in
    let at = page_drawn next 4096 (draw next 2000 g).1 (omega arith) (omega arith) in
    let i = (draw next 2000 g).0 in
    let offset = (draw_page next 4096 (draw next 2000 g).1).0 in
    let name = name_long i region in let long = number_long offset at in (
      (
        (
          command_again (codes "move" ∷ region_name i ∷ number_text offset ∷ []) (commands.Change (changes.Move (region_name i) offset))
              (move_line (region_name i) (number_text offset) (region_name i) offset (name_reads i region) (address_reads offset at)),
          refl,
        ),
        tt,
      ),
      omega (arith, name, long),
    )

-- each hundredth access comes after a move
move_at_fine : {G : Type 0} (next : Generator G) (t : ℕ) (g : G)
    → Stand (draw_move_at next t g).0 × (costs (draw_move_at next t g).0 + 21 * (t / 100) ≤ 21 * ((t + 1) / 100))
move_at_fine {G} next t g = by (t % 100 == 99) refl
  where
    by : (b : Bool) → (t % 100 == 99) ≡ b
        → Stand (cond b (draw_move next) (give []) g).0 × (costs (cond b (draw_move next) (give []) g).0 + 21 * (t / 100) ≤ 21 * ((t + 1) / 100))
    by true same =
        let move = move_fine next g in
        let last : t % 100 ≡ 99 = grind (arith, nat_tests) in
        (move.0, omega (arith, move.1, last))
    by false other = (tt, omega arith)

accesses_fine : {G : Type 0} (next : Generator G) (count t : ℕ) (g : G)
    → Stand (draw_accesses next count t g).0 × (costs (draw_accesses next count t g).0 + 21 * (t / 100) ≤ 39 * count + 21 * ((t + count) / 100))
accesses_fine next zero t g = (tt, omega arith)
accesses_fine next (suc count) t g =
    let moves = draw_move_at next t g in
    let access = draw_access next moves.1 in
    let rest = draw_accesses next count (t + 1) access.1 in
    let a = move_at_fine next t g in
    let b = access_fine next moves.1 in
    let c = accesses_fine next count (t + 1) access.1 in
    let all = costs_append moves.0 (access.0 ∷ rest.0) in
    (stand_append moves.0 (access.0 ∷ rest.0) a.0 (b.0, c.0), omega (arith, a.1, b.1, c.1, all))

-- The whole script

stand_sound : (n : ℕ) (cs ds : List Command) → Stand cs → ((m : ℕ) → Sound Setup (numbered_commands m ds)) → Sound Setup (numbered_commands n (cs ++ ds))
stand_sound n [] ds all rest = rest n
stand_sound n (c ∷ cs) ds all rest =
    (all.0.0, (Setup, ap (λ rule. placed n Setup rule) all.0.1, stand_sound (n + 1) cs ds all.1 rest))

numbered_again : (n : ℕ) (cs : List Command) → numbered n (numbered_commands n cs) ≡ numbered_commands n cs
numbered_again n [] = refl
numbered_again n (c ∷ cs) = ap (λ lines. (n, c) ∷ lines) (numbered_again (n + 1) cs)

machine_reads : ReadsAsItself (commands.Machine 0x1000000)
machine_reads =
    command_again (codes "machine" ∷ codes "0x1000000" ∷ []) (commands.Machine 0x1000000) refl

root_reads : ReadsAsItself (commands.Region root 0x40000000 region_kinds.Container)
root_reads = command_again (codes "region" ∷ root ∷ codes "container" ∷ codes "0x40000000" ∷ []) (commands.Region root 0x40000000 region_kinds.Container) refl

last_sound : (m : ℕ) → Sound Setup (numbered_commands m (commands.Show space ∷ []))
last_sound m = (command_again (codes "show" ∷ space ∷ []) (commands.Show space) refl, (Setup, refl, refl))

-- a command that may stand anywhere, before what is sound
next_sound : (n : ℕ) (c : Command) (cs : List Command) → Stands c → Sound Setup (numbered_commands (n + 1) cs) → Sound Setup (numbered_commands n (c ∷ cs))
next_sound n c cs may rest = (may.0, (Setup, ap (λ rule. placed n Setup rule) may.1, rest))

begin_stands : Stands commands.Begin
begin_stands = ((refl, refl), refl)

commit_stands : Stands commands.Commit
commit_stands = ((refl, refl), refl)

space_reads : ReadsAsItself (commands.Space space root)
space_reads = command_again (codes "space" ∷ space ∷ root ∷ []) (commands.Space space root) refl

whole_sound : (regions accesses : List Command) → Stand regions → Stand accesses → Sound Start (numbered_commands 1 (made_of regions accesses))
whole_sound regions accesses a b =
    let middle = regions ++ (commands.Commit ∷ accesses) in
    let last = commands.Show space ∷ [] in
    let body = stand_sound 5 middle last (stand_append regions (commands.Commit ∷ accesses) a (commit_stands, b)) last_sound in
    let third : Sound Setup (numbered_commands 4 (commands.Space space root ∷ (middle ++ last))) = (space_reads, (Setup, refl, body)) in
    let second = next_sound 3 commands.Begin (commands.Space space root ∷ (middle ++ last)) begin_stands third in
    (machine_reads, (Setup, refl, (root_reads, (Setup, refl, second))))

whole_long : (regions accesses : List Command) → costs regions ≤ 160000 → costs accesses ≤ 790000
    → length (printed (numbered_commands 1 (made_of regions accesses))) ≤ most_text
whole_long regions accesses a b =
    let middle = regions ++ (commands.Commit ∷ accesses) in
    let last = commands.Show space ∷ [] in
    let long = printed_long 1 (made_of regions accesses) in
    let whole : costs (made_of regions accesses)
    ≡ cost (commands.Machine 0x1000000) + (cost (commands.Region root 0x40000000 region_kinds.Container) + (7 + (13 + costs (middle ++ last)))) = refl in
    let all : costs (middle ++ last) ≡ costs middle + 8 = costs_append middle last in
    let front : costs middle ≡ costs regions + (8 + costs accesses) = costs_append regions (commands.Commit ∷ accesses) in
    let machine = size_long 0x1000000 (omega arith) in
    let size = size_long 0x40000000 (omega arith) in
    omega (arith, long, whole, all, front, machine, size, a, b)

parts_read : (regions accesses : List Command) → Stand regions × (costs regions ≤ 80 * 2000)
    → Stand accesses × (costs accesses + 21 * (0 / 100) ≤ 39 * 20000 + 21 * ((0 + 20000) / 100))
    → script_of (printed (numbered_commands 1 (made_of regions accesses))) ≡ Ok (numbered_commands 1 (made_of regions accesses))
parts_read regions accesses a b =
    printed_again (numbered_commands 1 (made_of regions accesses)) (whole_sound regions accesses a.0 b.0)
    (whole_long regions accesses (omega (arith, a.1)) (omega (arith, b.1)))
    ∙ ap (λ lines. Ok lines) (numbered_again 1 (made_of regions accesses))

-- the script that is made reads as the commands that were drawn
pub made_reads : {G : Type 0} (next : Generator G) (g : G)
    → script_of (printed (numbered_commands 1 (made next g).0)) ≡ Ok (numbered_commands 1 (made next g).0)
made_reads next g =
    parts_read (draw_regions next 2000 0 None g).0 (draw_accesses next 20000 0 (draw_regions next 2000 0 None g).1).0
    (regions_fine next 2000 0 None g (omega arith) tt) (accesses_fine next 20000 0 (draw_regions next 2000 0 None g).1)

-- so does the script of a seed
pub seed_reads : (seed : ℕ) → script_of (text_of_seed seed) ≡ Ok (script_of_seed seed)
unfolding commands_of_seed
seed_reads seed = made_reads pcg32 (started 64 multiplier_64 seed (increment_of 64 54))
