-- Laws of parts of bytes, and of the pages that an access to memory marks.
use Rattle.std.proofs.Common.{◌≡◌, ℕ, zero, suc, ◌+◌, ◌-◌, ◌/◌, ◌%◌, ◌<◌, ◌≤◌, Bool, true, false, List, [], ◌∷◌, length, take}
use Rattle.std.proofs.Common.{drop, map, subst, refl, Some, ◌∙◌, arith}
use Rattle.std.proofs.lemmas.List.{length-take-le, length-drop}
use Rattle.mem_base.specs.declared.map.kinds.Client.{Client}
use Rattle.mem_base.specs.lists.Every.{Every}
use Rattle.mem_base.specs.lists.Runs.{Run, runs, put_before, is_in_unit, touched}
use Rattle.mem_base.specs.map.Limits.{page_size}
use Rattle.mem_base.specs.access.Marks.{clients_of, marks_of}
use Rattle.dirty_log.specs.MarksLeft.{first_of}
use Rattle.mem_base.proofs.EveryLaws.{every_flat}

-- how many bytes a part of a list has
pub part_length : (done c n k : ℕ) (bs : List ℕ) → length bs ≡ n → done + c ≤ n → k ≡ done + c - done → length (take k (drop done bs)) ≡ c
part_length done c n k bs all most is =
    let size : length (drop done bs) ≡ length bs - done = length-drop done bs in
    let fits : k ≤ length (drop done bs) = omega (arith, all, most, is, size) in
    let same : k ≡ c = omega (arith, is) in
    length-take-le k (drop done bs) fits ∙ same

-- pages

pub starts_below : (with_next : ℕ → Bool) (a n : ℕ) → Every (λ r. r.start < a + n) (runs with_next a n)
starts_below with_next a zero = tt
starts_below with_next a (suc n) = put (with_next a) (runs with_next (a + 1) n) (starts_below with_next (a + 1) n)
  where
    more : a + 1 + n ≡ a + suc n
    more = omega arith

    wider : (rs : List Run) → Every (λ r. r.start < a + 1 + n) rs → Every (λ r. r.start < a + suc n) rs
    wider rs h = subst (λ m. Every (λ r. r.start < m) rs) more h

    put : (b : Bool) (rs : List Run) → Every (λ r. r.start < a + 1 + n) rs → Every (λ r. r.start < a + suc n) (put_before b a rs)
    put true [] h = (omega arith, tt)
    put true (r ∷ rs) h = (omega arith, wider rs h.1)
    put false rs h = (omega arith, wider rs h)

-- each page that is marked lies in the region
pub marks_inside : (log offset n bytes : ℕ) → offset + n ≤ bytes → bytes % page_size ≡ 0 →
    Every {A = ℕ × Client} (λ m. m.0 < bytes / page_size) (marks_of log offset n)
marks_inside log offset n bytes most whole =
    every_flat {B = ℕ × Client} (λ m. m.0 < bytes / page_size) on_page (touched page_size offset n)
    (each (touched page_size offset n) (starts_below (is_in_unit page_size) offset n))
  where
    on_page : Run → List (ℕ × Client)
    on_page r = map (λ c. (r.start / page_size, c)) (clients_of log)

    all : (page : ℕ) (cs : List Client) → page < bytes / page_size → Every {A = ℕ × Client} (λ m. m.0 < bytes / page_size) (map (λ c. (page, c)) cs)
    all page [] l = tt
    all page (c ∷ cs) l = (l, all page cs l)

    page_below : (start : ℕ) → start < offset + n → start / page_size < bytes / page_size
    page_below start l = omega (arith, l, most, whole)

    each : (rs : List Run) → Every (λ r. r.start < offset + n) rs → Every (λ r. Every {A = ℕ × Client} (λ m. m.0 < bytes / page_size) (on_page r)) rs
    each [] h = tt
    each (r ∷ rs) h = (all (r.start / page_size) (clients_of log) (page_below r.start h.0), each rs h.1)

-- a list of which the first element is known
pub first_and_rest : {A : Type 0} (xs ys : List A) (x : A) → Some x ≡ first_of xs → ys ≡ drop 1 xs → xs ≡ x ∷ ys
first_and_rest [] ys x e f = cc
first_and_rest (y ∷ xs) ys x e f = let is : x ≡ y = cc in rw (is, f) refl
