-- Pages of translations: each is as large as a power of two, it covers the offsets from its iova to its end, and they go on at
-- addresses in a row.
use Rattle.std.proofs.Common.{◌≡◌, ℕ, ◌+◌, ◌-◌, ◌*◌, ◌/◌, ◌%◌, ◌^◌, ◌<◌, ◌≤◌, Bool, true, false, not, eqb, List, [], ◌∷◌, None}
use Rattle.std.proofs.Common.{count_ones, sym, refl, ap, ◌∙◌, arith}
use Rattle.std.specs.Prelude.{bit_and, bit_or}
use Rattle.std.proofs.lemmas.Bool.Decides.{nat_tests}
use Rattle.std.proofs.lemmas.Nat.{and_mask, or_shifted, div-mul-add, mod-mul-add, div-add-mod', mod_below}
use Rattle.mem_base.specs.declared.map.translations.Entry.{Entry}
use Rattle.mem_base.specs.access.Translations.{without_mask, covers, translated_address}
use Rattle.mem_base.specs.lists.Every.{Every}
use Rattle.mem_base.specs.map.TableRefusals.{bad_page}
use Rattle.mem_base.specs.declared.map.refusals.Refusal.TheVariants.{BadPage}
use Rattle.generation.proofs.HandedOn.{refuse_if-none, one_digit}
use Rattle.iommu.specs.Pages.{ArePages}
use Rattle.std.proofs.lemmas.Bool.{or_parts, not-false}

-- the page's size is a power of two, and it begins at a multiple of it
pub record IsPage (e : Entry) : Type 0 where
  pub power : ℕ
  pub size : e.mask + 1 ≡ 2 ^ power
  pub whole : e.iova % (2 ^ power) ≡ 0

is_page : (e : Entry) → bad_page e.iova (e.mask + 1) ≡ None → IsPage e
is_page e h =
    let tests = or_parts (not (eqb (count_ones (e.mask + 1)) 1)) (not (eqb (e.iova % (e.mask + 1)) 0)) (refuse_if-none _ BadPage h) in
    let one_bit = not-false (eqb (count_ones (e.mask + 1)) 1) tests.0 in
    let multiple = not-false (eqb (e.iova % (e.mask + 1)) 0) tests.1 in
    let ones : count_ones (e.mask + 1) ≡ 1 = grind (arith, nat_tests) in
    let whole : e.iova % (e.mask + 1) ≡ 0 = grind (arith, nat_tests) in
    let p = one_digit (e.mask + 1) (e.mask + 1) (omega arith) ones in
    record { power = p.0; size = p.1; whole = ap (λ (n : ℕ). e.iova % n) (sym p.1) ∙ whole }

pub are_pages : (es : List Entry) → ArePages es → Every IsPage es
are_pages [] h = tt
are_pages (e ∷ es) h = (is_page e h.0, are_pages es h.1)

masked : (n m k : ℕ) → m + 1 ≡ 2 ^ k → bit_and n m ≡ n % (2 ^ k)
masked n m k e = let is : m ≡ 2 ^ k - 1 = omega arith in ap (bit_and n) is ∙ and_mask n k

-- a number without the bits of a page's mask is the multiple of its size below
unmasked : (n m k : ℕ) → m + 1 ≡ 2 ^ k → without_mask m n ≡ n / (2 ^ k) * (2 ^ k)
unmasked n m k e = let h = masked n m k e in let d = div-add-mod' n (2 ^ k) in omega arith

-- where an offset in a page stands
pub record IsIn (e : Entry) (p : IsPage e) (o : ℕ) : Type 0 where
  pub quotient : o / (2 ^ p.power) * (2 ^ p.power) ≡ e.iova
  pub rest : o % (2 ^ p.power) ≡ o - e.iova

pub in_page : (e : Entry) (p : IsPage e) (o : ℕ) → e.iova ≤ o → o ≤ e.iova + e.mask → IsIn e p o
in_page e p o l u =
    let size = p.size in
    let d = div-add-mod' e.iova (2 ^ p.power) in
    let whole = p.whole in
    let low : o - e.iova < 2 ^ p.power = omega arith in
    let at : e.iova / (2 ^ p.power) * (2 ^ p.power) + (o - e.iova) ≡ o = omega arith in
    let q = div-mul-add (e.iova / (2 ^ p.power)) (2 ^ p.power) (o - e.iova) low in
    let r = mod-mul-add (e.iova / (2 ^ p.power)) (2 ^ p.power) (o - e.iova) low in
    record {
      quotient =
          ap (λ (x : ℕ). x / (2 ^ p.power) * (2 ^ p.power)) (sym at) ∙ ap (λ (x : ℕ). x * (2 ^ p.power)) q
          ∙ (let done : e.iova / (2 ^ p.power) * (2 ^ p.power) ≡ e.iova = omega arith in done);
      rest = ap (λ (x : ℕ). x % (2 ^ p.power)) (sym at) ∙ r;
    }

pub covers-in : (e : Entry) → IsPage e → (o : ℕ) → e.iova ≤ o → o ≤ e.iova + e.mask → covers o e ≡ true
covers-in e p o l u =
    let h = in_page e p o l u in
    let is : without_mask e.mask o ≡ e.iova = unmasked o e.mask p.power p.size ∙ h.quotient in
    ap (λ (x : ℕ). eqb x e.iova) is ∙ (let same : eqb e.iova e.iova ≡ true = grind (arith, nat_tests) in same)

-- what is covered lies in the page
pub covered : (e : Entry) → IsPage e → (o : ℕ) → covers o e ≡ true → (e.iova ≤ o) × (o ≤ e.iova + e.mask)
covered e p o t =
    let is : without_mask e.mask o ≡ e.iova = grind (arith, nat_tests) in
    let size = p.size in
    let u = unmasked o e.mask p.power p.size in
    let d = div-add-mod' o (2 ^ p.power) in
    let low = mod_below o (2 ^ p.power) (omega arith) in
    (omega arith, omega arith)

no_cover : (b : Bool) (o : ℕ) (e : Entry) → covers o e ≡ b → (covers o e ≡ true → o < o) → covers o e ≡ false
no_cover true o e t h = let bad = h t in absurd (omega arith)
no_cover false o e t h = t

pub covers-below : (e : Entry) → IsPage e → (o : ℕ) → o < e.iova → covers o e ≡ false
covers-below e p o l = no_cover (covers o e) o e refl (λ t. let h = covered e p o t in let x = h.0 in omega arith)

pub covers-above : (e : Entry) → IsPage e → (o : ℕ) → e.iova + e.mask < o → covers o e ≡ false
covers-above e p o l = no_cover (covers o e) o e refl (λ t. let h = covered e p o t in let x = h.1 in omega arith)

-- the offsets of a page go on at offsets in a row
pub goes_on : (e : Entry) → IsPage e → (o : ℕ) → e.iova ≤ o → o ≤ e.iova + e.mask → translated_address e o ≡ without_mask e.mask e.translated + (o - e.iova)
goes_on e p o l u =
    let h = in_page e p o l u in
    let size = p.size in
    let low = mod_below o (2 ^ p.power) (omega arith) in
    let base = unmasked e.translated e.mask p.power p.size in
    ap (bit_or (without_mask e.mask e.translated)) (masked o e.mask p.power p.size)
    ∙ ap (λ (x : ℕ). bit_or x (o % (2 ^ p.power))) base
    ∙ or_shifted (e.translated / (2 ^ p.power)) p.power (o % (2 ^ p.power)) low
    ∙ ap (λ (x : ℕ). x + o % (2 ^ p.power)) (sym base)
    ∙ ap (λ (x : ℕ). without_mask e.mask e.translated + x) h.rest
