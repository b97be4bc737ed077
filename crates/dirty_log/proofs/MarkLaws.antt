-- Laws of the marks that are left, and of the pages that a write touches.
use Rattle.std.proofs.Common.{◌≡◌, ℕ, zero, suc, ◌+◌, ◌-◌, ◌/◌, ◌%◌, ◌<◌, ◌≤◌, Bool, true, false, not, ◌==◌, List, [], ◌∷◌, ◌++◌, drop, sym}
use Rattle.std.proofs.Common.{refl, ap, ◌∙◌, arith, if◌then◌else◌, Option, Some, None, option_map}
use Rattle.std.specs.Prelude.{flat_map}
use Rattle.std.proofs.lemmas.Bool.{eqb-true, eqb-false}
use Rattle.std.proofs.lemmas.Nat.{div-add-mod', mod_below}
use Rattle.mem_base.specs.declared.map.kinds.Client.{Client}
use Rattle.mem_base.specs.declared.map.kinds.Client.TheVariants.{Vga, Code, Migration}
use Rattle.mem_base.specs.lists.Runs.{Run, put_before, is_in_unit, touched}
use Rattle.mem_base.specs.map.Limits.{page_size}
use Rattle.mem_base.specs.access.Marks.{clients_of, marks_of}
use Rattle.dirty_log.specs.MarksLeft.{has, clients_after, all_clients, first_of, marks_on, marks_from, marks_left}
use Rattle.mem_base.proofs.PlaceLaws.{starts_at}

-- the clients of a mask, one after another

after_first : (log : ℕ) (client next : Client) → first_of (clients_after log client) ≡ Some next
    → clients_after log client ≡ next ∷ clients_after log next
after_first log Vga next e = go (has log Code) (has log Migration) refl refl e
  where
    go : (b c : Bool) → has log Code ≡ b → has log Migration ≡ c
        → first_of (if b then Code ∷ (if c then Migration ∷ [] else []) else (if c then Migration ∷ [] else [])) ≡ Some next
        → (if b then Code ∷ (if c then Migration ∷ [] else []) else (if c then Migration ∷ [] else [])) ≡ next ∷ clients_after log next
    go true c p q e = let is : Code ≡ next = cc in rw (sym is, q) refl
    go false true p q e = let is : Migration ≡ next = cc in rw (sym is) refl
    go false false p q e = cc
after_first log Code next e = go (has log Migration) e
  where
    go : (c : Bool) → first_of (if c then Migration ∷ [] else []) ≡ Some next
        → (if c then Migration ∷ [] else []) ≡ next ∷ clients_after log next
    go true e = let is : Migration ≡ next = cc in rw (sym is) refl
    go false e = cc
after_first log Migration next e = cc

all_first : (log : ℕ) (next : Client) → first_of (all_clients log) ≡ Some next → all_clients log ≡ next ∷ clients_after log next
all_first log next e = go (has log Vga) e
  where
    go : (b : Bool) → first_of (if b then Vga ∷ clients_after log Vga else clients_after log Vga) ≡ Some next
        → (if b then Vga ∷ clients_after log Vga else clients_after log Vga) ≡ next ∷ clients_after log next
    go true e = let is : Vga ≡ next = cc in rw (sym is) refl
    go false e = after_first log Vga next e

none_first : {A : Type 0} (xs : List A) → first_of xs ≡ None → xs ≡ []
none_first [] e = refl
none_first (x ∷ xs) e = cc

-- no clients, no marks
no_marks : (clients : List Client) (page count : ℕ) → clients ≡ [] → marks_from clients page count ≡ []
no_marks clients page zero e = refl
no_marks clients page (suc count) e = (λ i. marks_on page (e i) ++ no_marks clients (page + 1) count e i)

-- from the first mark of a page on
pub from_page : (log last page : ℕ) → page ≤ last
    → marks_left log last (option_map (λ c. (page, c)) (first_of (all_clients log))) ≡ marks_from (all_clients log) page (suc (last - page))
from_page log last page h = go (first_of (all_clients log)) refl
  where
    go : (o : Option Client) → first_of (all_clients log) ≡ o
        → marks_left log last (option_map (λ c. (page, c)) o) ≡ marks_from (all_clients log) page (suc (last - page))
    go None e = sym (no_marks (all_clients log) page (suc (last - page)) (none_first (all_clients log) e))
    go (Some c) e = ap (λ cs. marks_on page cs ++ marks_from (all_clients log) (page + 1) (last - page)) (sym (all_first log c e))

-- from the next client of a page on
pub from_client : (log last page : ℕ) (client next : Client) → first_of (clients_after log client) ≡ Some next
    → marks_left log last (Some (page, next)) ≡ drop 1 (marks_left log last (Some (page, client)))
from_client log last page client next e =
    ap (λ cs. marks_on page cs ++ marks_from (all_clients log) (page + 1) (last - page)) (sym (after_first log client next e))

-- from the next page on
pub from_next_page : (log last page : ℕ) (client : Client) → first_of (clients_after log client) ≡ None → page < last
    → marks_left log last (option_map (λ c. (page + 1, c)) (first_of (all_clients log))) ≡ drop 1 (marks_left log last (Some (page, client)))
from_next_page log last page client e h =
    let count : suc (last - (page + 1)) ≡ last - page = omega arith in
    from_page log last (page + 1) (omega arith)
    ∙ ap (λ n. marks_from (all_clients log) (page + 1) n) count
    ∙ ap (λ cs. marks_on page cs ++ marks_from (all_clients log) (page + 1) (last - page)) (sym (none_first (clients_after log client) e))

-- after the last mark
pub none_left : (log last page : ℕ) (client : Client) → first_of (clients_after log client) ≡ None → last ≤ page
    → [] ≡ drop 1 (marks_left log last (Some (page, client)))
none_left log last page client e h =
    let count : last - page ≡ 0 = omega arith in
    sym ((λ i. marks_on page (none_first (clients_after log client) e i) ++ marks_from (all_clients log) (page + 1) (count i)))

-- the touched pages

pub same_unit : (a : ℕ) → is_in_unit page_size a ≡ true → (a + 1) / page_size ≡ a / page_size
same_unit a e = go ((a + 1) % page_size == 0) refl e
  where
    go : (b : Bool) → ((a + 1) % page_size == 0) ≡ b → not b ≡ true → (a + 1) / page_size ≡ a / page_size
    go true q e = cc
    go false q e =
        let ne = eqb-false _ _ q in
        let f : ((a + 1) % page_size ≡ 0 → ⊥) = ne in
        omega (
          arith,
          div-add-mod' (a + 1) page_size,
          div-add-mod' a page_size,
          mod_below (a + 1) page_size (omega arith),
          mod_below a page_size (omega arith),
          f,
        )

pub next_unit : (a : ℕ) → is_in_unit page_size a ≡ false → (a + 1) / page_size ≡ a / page_size + 1
next_unit a e = go ((a + 1) % page_size == 0) refl e
  where
    go : (b : Bool) → ((a + 1) % page_size == 0) ≡ b → not b ≡ false → (a + 1) / page_size ≡ a / page_size + 1
    go false q e = cc
    go true q e =
        let f : (a + 1) % page_size ≡ 0 = eqb-true _ _ q in
        omega (arith, div-add-mod' (a + 1) page_size, div-add-mod' a page_size, mod_below a page_size (omega arith), f)

-- the bytes after a page's last one lie on later pages
next_below : (a count : ℕ) → is_in_unit page_size a ≡ false → a / page_size + 1 ≤ (a + suc count) / page_size
next_below a count e =
    let f : (a + 1) / page_size ≡ a / page_size + 1 = next_unit a e in
    omega (arith, f, div-add-mod' (a + 1) page_size, div-add-mod' (a + suc count) page_size, mod_below (a + suc count) page_size (omega arith))

module _ (clients : List Client) where
  abbrev marked : List Run → List (ℕ × Client)
  marked rs = flat_map (λ r. marks_on (r.start / page_size) clients) rs

  -- a number before these runs is on the page of the next number, or on the page before
  marked_before : (a : ℕ) (b : Bool) (rs qs : List Run) (r : Run) → is_in_unit page_size a ≡ b → rs ≡ r ∷ qs → r.start ≡ a + 1
      → marked (put_before b a rs) ≡ (if b then marked rs else marks_on (a / page_size) clients ++ marked rs)
  marked_before a true rs qs r e is first =
      let page : r.start / page_size ≡ a / page_size = ap (λ x. x / page_size) first ∙ same_unit a e in
      ap (λ xs. marked (put_before true a xs)) is
      ∙ ap (λ p. marks_on p clients ++ marked qs) (sym page)
      ∙ ap marked (sym is)
  marked_before a false rs qs r e is first = refl

  pages_of_touched : (a count : ℕ)
      → marked (touched page_size a (suc count)) ≡ marks_from clients (a / page_size) (suc ((a + count) / page_size - a / page_size))
  pages_of_touched a zero =
      let none : (a + 0) / page_size - a / page_size ≡ 0 = omega arith in
      go (is_in_unit page_size a) ∙ ap (λ n. marks_from clients (a / page_size) (suc n)) (sym none)
    where
      go : (b : Bool) → marked (put_before b a []) ≡ marks_from clients (a / page_size) 1
      go true = refl
      go false = refl
  pages_of_touched a (suc count) =
      let next = starts_at (is_in_unit page_size (a + 1)) (a + 1) (touched page_size (a + 1 + 1) count) in
      go (is_in_unit page_size a) refl (touched page_size (a + 1) (suc count)) next.1 next.0 next.2 next.3 (pages_of_touched (a + 1) count)
    where
      go : (b : Bool) → is_in_unit page_size a ≡ b → (rs qs : List Run) (r : Run) → rs ≡ r ∷ qs → r.start ≡ a + 1
          → marked rs ≡ marks_from clients ((a + 1) / page_size) (suc ((a + 1 + count) / page_size - (a + 1) / page_size))
          → marked (put_before b a rs) ≡ marks_from clients (a / page_size) (suc ((a + suc count) / page_size - a / page_size))
      go true e rs qs r is first ih =
          let page = same_unit a e in
          let sum : a + 1 + count ≡ a + suc count = omega arith in
          marked_before a true rs qs r e is first ∙ ih
          ∙ (λ i. marks_from clients (page i) (suc ((sum i) / page_size - page i)))
      go false e rs qs r is first ih =
          let page = next_unit a e in
          let sum : a + 1 + count ≡ a + suc count = omega arith in
          let more : suc ((a + suc count) / page_size - (a / page_size + 1)) ≡ (a + suc count) / page_size - a / page_size =
          omega (arith, next_below a count e) in
          marked_before a false rs qs r e is first
          ∙ ap (λ xs. marks_on (a / page_size) clients ++ xs)
          (ih ∙ (λ i. marks_from clients (page i) (suc ((sum i) / page_size - page i)))
          ∙ ap (λ n. marks_from clients (a / page_size + 1) n) more)

-- what a write marks
pub marks_of_pages : (log offset count : ℕ) → marks_of log offset (suc count)
    ≡ marks_from (all_clients log) (offset / page_size) (suc ((offset + count) / page_size - offset / page_size))
marks_of_pages log offset count = pages_of_touched (clients_of log) offset count

pub page_rises : (offset count : ℕ) → offset / page_size ≤ (offset + count) / page_size
page_rises offset count =
    let l : offset / page_size ≤ (offset + count) / page_size =
    omega (arith, div-add-mod' offset page_size, div-add-mod' (offset + count) page_size, mod_below (offset + count) page_size (omega arith)) in l

pub marks_at_first : (log offset len last : ℕ) → 0 < len → last ≡ (offset + (len - 1)) / page_size
    → marks_left log last (option_map (λ c. (offset / page_size, c)) (first_of (all_clients log))) ≡ marks_of log offset len
marks_at_first log offset zero last h e = absurd (omega arith)
marks_at_first log offset (suc count) last h e =
    let same : suc count - 1 ≡ count = omega arith in
    let at : last ≡ (offset + count) / page_size = e ∙ ap (λ n. (offset + n) / page_size) same in
    from_page log last (offset / page_size) (rw at (page_rises offset count))
    ∙ ap (λ l. marks_from (all_clients log) (offset / page_size) (suc (l - offset / page_size))) at
    ∙ sym (marks_of_pages log offset count)
