-- Laws of the pages that a mark word tells, and of the bits of marks.
use Rattle.std.proofs.Common.{eq-eqb, ne_eqb, ◌≢◌, ◌≡◌, ◌⊎◌, inl, inr, ℕ, zero, suc, ◌+◌, ◌-◌, ◌*◌, ◌/◌, ◌%◌, ◌^◌, ◌<◌, ◌≤◌, Bool, true}
use Rattle.std.proofs.Common.{false, ◌==◌, List, [], ◌∷◌, ◌++◌, length, map, filter, sym, refl, ap, ◌∙◌, arith, if◌then◌else◌}
use Rattle.std.specs.List.{range_with_len}
use Rattle.std.proofs.lemmas.List.{append-nil, append_assoc}
use Rattle.std.proofs.lemmas.Nat.{shr-shr, pow_below, same_from_place, div-add-mod', mod_below}
use Rattle.std.proofs.lemmas.Bool.{cases_lt}
use Rattle.mem_base.specs.declared.map.kinds.Client.{Client}
use Rattle.mem_base.specs.declared.map.kinds.Client.TheVariants.{Vga, Code, Migration}
use Rattle.mem_base.specs.access.Marks.{is_marked, pages_of}
use Rattle.mem_base.specs.access.Places.{mark_words, number_of_client}
use Rattle.dirty_log.specs.Apart.{MarksAreApart}
use Rattle.mem_base.specs.map.Limits.{page_size, pages_per_word}

-- the pages that the lowest `count` bits of a number tell, the first of which stands for `base`
unfoldable pub told : ℕ → ℕ → ℕ → List ℕ
told zero base rest = []
told (suc count) base rest = if rest % 2 == 1 then base ∷ told count (base + 1) (rest / 2) else told count (base + 1) (rest / 2)

pub told_zero : (count base rest : ℕ) → count ≡ 0 → told count base rest ≡ []
unfolding told
told_zero zero base rest e = refl
told_zero (suc count) base rest e = absurd (omega arith)

none_set : (count base : ℕ) → told count base 0 ≡ []
unfolding told
none_set zero base = refl
none_set (suc count) base = none_set count (base + 1)

pub told_none : (count base rest : ℕ) → rest ≡ 0 → told count base rest ≡ []
told_none count base rest e = ap (told count base) e ∙ none_set count base

told_from : (base bits bit count : ℕ)
    → map (λ b. base + b) (filter (is_marked bits) (range_with_len bit count)) ≡ told count (base + bit) (bits / (2 ^ bit))
unfolding told
told_from base bits bit zero = refl
told_from base bits bit (suc count) = go (bits / (2 ^ bit) % 2 == 1) (told_from base bits (bit + 1) count)
  where
    half : bits / (2 ^ (bit + 1)) ≡ bits / (2 ^ bit) / 2
    half = sym (shr-shr bits bit 1)

    next : base + (bit + 1) ≡ base + bit + 1
    next = omega arith

    go : (b : Bool)
        → map (λ b. base + b) (filter (is_marked bits) (range_with_len (bit + 1) count)) ≡ told count (base + (bit + 1)) (bits / (2 ^ (bit + 1)))
        → map (λ b. base + b) (if b then bit ∷ filter (is_marked bits) (range_with_len (bit + 1) count)
        else filter (is_marked bits) (range_with_len (bit + 1) count))
        ≡ (if b then (base + bit) ∷ told count (base + bit + 1) (bits / (2 ^ bit) / 2) else told count (base + bit + 1) (bits / (2 ^ bit) / 2))
    go true ih = ap (λ xs. (base + bit) ∷ xs) (ih ∙ (λ i. told count (next i) (half i)))
    go false ih = ih ∙ (λ i. told count (next i) (half i))

pub told_all : (base bits : ℕ) → told (pages_per_word - 0) (base + 0) bits ≡ pages_of base bits
told_all base bits = sym (told_from base bits 0 pages_per_word ∙ ap (told pages_per_word (base + 0)) whole)
  where
    whole : bits / (2 ^ 0) ≡ bits
    whole = omega (arith, div-add-mod' bits 1, mod_below bits 1 (omega arith))

told_next : (count bit base rest : ℕ) (b : Bool) → (rest % 2 == 1) ≡ b → bit < pages_per_word → count ≡ pages_per_word - bit → told count (base + bit) rest
    ≡ (if b then (base + bit) ∷ told (pages_per_word - (bit + 1)) (base + (bit + 1)) (rest / 2)
    else told (pages_per_word - (bit + 1)) (base + (bit + 1)) (rest / 2))
unfolding told
told_next count bit base rest b t l e =
    let is : count ≡ suc (pages_per_word - (bit + 1)) = omega arith in
    let next : base + bit + 1 ≡ base + (bit + 1) = omega arith in
    ap (λ n. told n (base + bit) rest) is
    ∙ (λ i. if t i then (base + bit) ∷ told (pages_per_word - (bit + 1)) (next i) (rest / 2) else told (pages_per_word - (bit + 1)) (next i) (rest / 2))

-- one bit more, which is set, or is not
pub told_set : (bit base rest : ℕ) → rest % 2 ≡ 1 → bit < pages_per_word
    → told (pages_per_word - bit) (base + bit) rest ≡ (base + bit) ∷ told (pages_per_word - (bit + 1)) (base + (bit + 1)) (rest / 2)
told_set bit base rest e l = told_next (pages_per_word - bit) bit base rest true (eq-eqb _ _ e) l refl

pub told_clear : (bit base rest : ℕ) → rest % 2 ≢ 1 → bit < pages_per_word
    → told (pages_per_word - bit) (base + bit) rest ≡ told (pages_per_word - (bit + 1)) (base + (bit + 1)) (rest / 2)
told_clear bit base rest e l = told_next (pages_per_word - bit) bit base rest false (ne_eqb _ _ e) l refl

-- where nothing is left to tell, all was appended
pub all_told : (items rest whole : List ℕ) → rest ≡ [] → items ++ rest ≡ whole → items ≡ whole
all_told items rest whole e h = sym (append-nil items) ∙ ap (λ xs. items ++ xs) (sym e) ∙ h

-- one page more was appended
pub page_told : (items rest left whole : List ℕ) (page : ℕ) → left ≡ page ∷ rest → items ++ left ≡ whole → (items ++ page ∷ []) ++ rest ≡ whole
page_told items rest left whole page e h = append_assoc items (page ∷ []) rest ∙ ap (λ xs. items ++ xs) (sym e) ∙ h

pub room_kept : (before capacity old len : ℕ) (rest pages : List ℕ) → rest ≡ [] → len + length rest ≡ old + length pages → before ≤ capacity
    → before - old ≤ capacity - len + length pages
room_kept before capacity old len rest pages e h l = omega (arith, ap length e, h, l)

-- powers of two differ where their exponents do
same_power : (i j : ℕ) → 2 ^ i ≡ 2 ^ j → i ≡ j
same_power i j e = go (cases_lt i j) (cases_lt j i)
  where
    go : (i < j) ⊎ (j ≤ i) → (j < i) ⊎ (i ≤ j) → i ≡ j
    go (inl l) _ = absurd (omega (arith, pow_below i j l, e))
    go (inr l) (inl m) = absurd (omega (arith, pow_below j i m, e))
    go (inr l) (inr m) = omega arith

same_client : (c d : Client) → number_of_client c ≡ number_of_client d → c ≡ d
same_client Vga Vga e = refl
same_client Code Code e = refl
same_client Migration Migration e = refl
same_client Vga Code e = absurd (omega arith)
same_client Vga Migration e = absurd (omega arith)
same_client Code Vga e = absurd (omega arith)
same_client Code Migration e = absurd (omega arith)
same_client Migration Vga e = absurd (omega arith)
same_client Migration Code e = absurd (omega arith)

page_in_words : (bytes page : ℕ) → page < bytes / page_size → page / pages_per_word < mark_words bytes
page_in_words bytes page h =
    omega (
      arith,
      h,
      div-add-mod' page pages_per_word,
      mod_below page pages_per_word (omega arith),
      div-add-mod' (bytes / page_size + (pages_per_word - 1)) pages_per_word,
      mod_below (bytes / page_size + (pages_per_word - 1)) pages_per_word (omega arith),
    )

same_rows : (before words a b x y : ℕ) → x < words → y < words → before + words * a + x ≡ before + words * b + y → (a ≡ b) × (x ≡ y)
same_rows before words a b x y l m e =
    same_from_place a x b y words l m (let p : a * words + x ≡ b * words + y = grind arith in p)

same_page : (p q : ℕ) → p / pages_per_word ≡ q / pages_per_word → p % pages_per_word ≡ q % pages_per_word → p ≡ q
same_page p q e f = omega (arith, e, f, div-add-mod' p pages_per_word, div-add-mod' q pages_per_word)

pub apart : MarksAreApart
apart place c d p q hp hq word bit =
    let rows = same_rows _ (mark_words place.bytes) (number_of_client c) (number_of_client d) (p / pages_per_word) (q / pages_per_word)
    (page_in_words place.bytes p hp) (page_in_words place.bytes q hq) word in
    (same_client c d rows.0, same_page p q rows.1 (same_power (p % pages_per_word) (q % pages_per_word) bit))
