-- Parts of a table in order: their places by the first offset, and those that a table gives.
use Rattle.std.proofs.Common.{◌≡◌, ℕ, suc, ◌+◌, ◌<◌, ◌≤◌, true, false, cond, eqb}
use Rattle.std.proofs.Common.{List, [], ◌∷◌, ◌++◌, length, get_or, drop}
use Rattle.std.proofs.Common.{map, filter, Result, Ok, Err, refl, sym, ap, ◌∙◌, arith}
use Rattle.std.specs.List.{list_any}
use Rattle.std.proofs.lemmas.List.{append-nil, drop_all}
use Rattle.std.proofs.lemmas.Bool.Decides.{nat_tests}
use Rattle.std.specs.declared.cmp.Ordering.{Ordering}
use Rattle.std.specs.declared.cmp.Ordering.TheVariants.{Less, Equal, Greater}
use Rattle.std.specs.Ordering.{nat_cmp, is_eq}
use Rattle.std.specs.Cmp.{IsTotalOrder}
use Rattle.std.proofs.lemmas.Cmp.{on_total, nat_cmp_total}
use Rattle.mem_base.specs.declared.map.translations.Entry.{Entry}
use Rattle.mem_base.specs.declared.map.translations.Perm.TheVariants.{Nothing}
use Rattle.mem_base.specs.declared.access.notices.Part.{Part}
use Rattle.mem_base.specs.lists.Every.{Every}
use Rattle.mem_base.specs.lists.Sorting.{IsRising, place_at, place_of}
use Rattle.mem_base.specs.map.Entries.{AreEntries}
use Rattle.mem_base.specs.access.Parts.{meets_offsets, part_of, parts_of, is_same_part, part_order}
use Rattle.mem_base.proofs.EveryLaws.{weaker}
use Rattle.mem_base.proofs.EntryLaws.{nat_is, before_is}
use Rattle.mem_base.proofs.PlaceLaws.{Rises, Rises-rising}
use Rattle.iommu_notify.specs.PartLists.{AreParts}
use Rattle.mem_base.proofs.BoolLaws.{number_swap, or_false}

-- how a part stands to a first offset
abbrev pub from_cmp : ℕ → Part → Ordering
from_cmp from p = nat_cmp p.from from

rising_parts : (ps : List Part) → AreParts ps → IsRising part_order ps
rising_parts [] h = tt
rising_parts (p ∷ ps) h = (
  weaker (λ q. p.to < q.from) (λ q. part_order p q ≡ Less) (λ q l. let w = h.0 in before_is p.from q.from (omega arith)) ps
      h.1,
  rising_parts ps h.2,
)

part_total : IsTotalOrder part_order
part_total = on_total (λ (p : Part). p.from) nat_cmp_total

abbrev at_from : ℕ → Part
at_from from = record { from = from; to = 0; space = record { 0 = 0 }; addr = 0; perm = Nothing }

pub rises_parts : (from : ℕ) (ps : List Part) → AreParts ps → Rises (from_cmp from) ps
rises_parts from ps h = Rises-rising part_order part_total (at_from from) ps (rising_parts ps h)

-- parts that begin at two offsets differ
other_part : (p q : Part) (o : Ordering) → from_cmp p.from q ≡ o → is_eq o ≡ false → is_same_part p q ≡ false
other_part p q o e unlike =
    let differs : eqb p.from q.from ≡ false = number_swap p.from q.from ∙ nat_is q.from p.from ∙ ap is_eq e ∙ unlike in
    rw differs refl

none_same : (p : Part) (qs : List Part) → Every (λ q. from_cmp p.from q ≡ Greater) qs → list_any (is_same_part p) qs ≡ false
none_same p [] h = refl
none_same p (q ∷ qs) h = let differs = other_part p q Greater h.0 refl in rw differs (none_same p qs h.1)

one_later-ok : (r : Result ℕ ℕ) (i : ℕ) → place_at Less r ≡ Ok i → (j : ℕ) × (r ≡ Ok j) × (i ≡ suc j)
one_later-ok (Ok j) i e = let q : j + 1 ≡ i = cc in (j, refl, omega arith)
one_later-ok (Err j) i e = cc

one_later-err : (r : Result ℕ ℕ) (i : ℕ) → place_at Less r ≡ Err i → (j : ℕ) × (r ≡ Err j)
one_later-err (Ok j) i e = cc
one_later-err (Err j) i e = (j, refl)

-- a part is among some where it is the one that begins at its first offset
pub same_at : (p : Part) (qs : List Part) (i : ℕ) (d : Part) → Rises (from_cmp p.from) qs → place_of (from_cmp p.from) qs ≡ Ok i
    → list_any (is_same_part p) qs ≡ is_same_part p (get_or qs i d)
same_at p [] i d h e = cc
same_at p (q ∷ qs) i d h e =
    elim (from_cmp p.from q) as (λ o. from_cmp p.from q ≡ o → place_at o (place_of (from_cmp p.from) qs) ≡ Ok i
    → list_any (is_same_part p) (q ∷ qs) ≡ is_same_part p (get_or (q ∷ qs) i d)) [
      | Less ↦ λ o w.
          let next = one_later-ok (place_of (from_cmp p.from) qs) i w in
          let differs = other_part p q Less o refl in
          let at = next.2 in
          rw (at, differs) (same_at p qs next.0 d h.1 next.1)
      | Equal ↦ λ o w.
          let z : i ≡ 0 = cc in
          rw z (or_false (is_same_part p q) (list_any (is_same_part p) qs) (none_same p qs (h.0 (λ k. cc))))
      | Greater ↦ λ o w. cc
    ] refl e

-- and where none begins there it is not among them
pub absent_at : (p : Part) (qs : List Part) (i : ℕ) → Rises (from_cmp p.from) qs → place_of (from_cmp p.from) qs ≡ Err i
    → list_any (is_same_part p) qs ≡ false
absent_at p [] i h e = refl
absent_at p (q ∷ qs) i h e =
    elim (from_cmp p.from q) as (λ o. from_cmp p.from q ≡ o → place_at o (place_of (from_cmp p.from) qs) ≡ Err i
    → list_any (is_same_part p) (q ∷ qs) ≡ false) [
      | Less ↦ λ o w.
          let next = one_later-err (place_of (from_cmp p.from) qs) i w in
          let differs = other_part p q Less o refl in
          rw differs (absent_at p qs next.0 h.1 next.1)
      | Equal ↦ λ o w. cc
      | Greater ↦ λ o w. none_same p (q ∷ qs) (o, h.0 (λ k. cc))
    ] refl e

-- Parts that a table gives

part_within : (first last : ℕ) (e : Entry) → first ≤ last → meets_offsets first last e ≡ true
    → (part_of first last e).from ≤ (part_of first last e).to
part_within first last e l m = let a : e.iova ≤ last = grind (arith, nat_tests) in let b : first ≤ e.iova + e.mask = grind
    (arith, nat_tests) in omega arith

parts_after : (first last : ℕ) (e : Entry) (es : List Entry) → Every (λ x. e.iova + e.mask < x.iova) es
    → Every (λ q. (part_of first last e).to < q.from) (parts_of es first last)
parts_after first last e [] h = tt
parts_after first last e (x ∷ xs) h =
    let rest = parts_after first last e xs h.1 in
    let before = h.0 in
    elim (meets_offsets first last x) as (λ b. Every (λ q. (part_of first last e).to < q.from)
    (map (part_of first last) (cond b (x ∷ filter (meets_offsets first last) xs) (filter (meets_offsets first last) xs))))
    [ true ↦ (omega arith, rest) | false ↦ rest ]

-- the parts of a table are parts in order
pub parts_are : (first last : ℕ) (es : List Entry) → first ≤ last → AreEntries es → AreParts (parts_of es first last)
parts_are first last [] l h = tt
parts_are first last (e ∷ es) l h =
    let rest = parts_are first last es l h.2 in
    elim (meets_offsets first last e) as (λ b. meets_offsets first last e ≡ b
    → AreParts (map (part_of first last) (cond b (e ∷ filter (meets_offsets first last) es)
    (filter (meets_offsets first last) es)))) [
      | true ↦ λ m. (part_within first last e l m, parts_after first last e es h.1, rest)
      | false ↦ λ m. rest
    ] refl

-- when no translation is left, all parts were found
pub all_found : (parts : List Part) (i : ℕ) (es : List Entry) (first last : ℕ) → length es ≤ i
    → parts ++ parts_of (drop i es) first last ≡ parts_of es first last → parts ≡ parts_of es first last
all_found parts i es first last l e = sym (append-nil parts)
    ∙ ap (λ left. parts ++ parts_of left first last) (sym (drop_all i es l)) ∙ e
