-- A view beside the monitor's lines, from one place on.
use Rattle.std.proofs.Common.{◌≡◌, ◌<◌, ◌≤◌, ◌+◌, ℕ, suc, Bool, true, false, List, [], ◌∷◌, length, drop, refl, sym, ap, ◌∙◌, add-one, arith, if◌then◌else◌}
use Rattle.std.proofs.Common.{None, Some, get_or, zero}
use Rattle.std.proofs.Math.Seq.{drop-cons}
use Rattle.std.specs.declared.option.Option.{Option}
use Rattle.mem_base.specs.declared.map.ids.RegionId.{RegionId}
use Rattle.mem_base.specs.declared.views.flat.FlatRange.{FlatRange}
use Rattle.mem_base.specs.script.Named.{Names}
use Rattle.monitor_text.specs.declared.rows.FlatRow.{FlatRow}
use Rattle.view_check.specs.Shown.{AreShown, first_difference, is_shown}
use Rattle.mem_base.proofs.ListLaws.{drop_past}

shown_then : (b : Bool) (at : ℕ) (rest : Option ℕ) (A : Type 0) → (if b then rest else Some at) ≡ None → (rest ≡ None → A) → (b ≡ true) × A
shown_then true at rest A e f = (refl, f e)
shown_then false at rest A e f = absurd (grind arith)

-- where no place differs, each line tells its range
pub none_shown : (names : Names) (memory : List RegionId) (at : ℕ) (rows : List FlatRow) (view : List FlatRange)
    → first_difference names memory at rows view ≡ None → AreShown names memory rows view
none_shown names memory at [] [] e = tt
none_shown names memory at [] (range ∷ view) e = absurd (grind arith)
none_shown names memory at (row ∷ rows) [] e = absurd (grind arith)
none_shown names memory at (row ∷ rows) (range ∷ view) e =
    shown_then (is_shown names memory row range) at (first_difference names memory (at + 1) rows view) (AreShown names memory rows view) e
    (none_shown names memory (at + 1) rows view)

-- both lists, cut at a place that both have
here : {X : Type 0} (xs : List X) (i : ℕ) (x : X) → i < length xs → x ≡ get_or xs i x → drop i xs ≡ x ∷ drop (i + 1) xs
here xs i x l is = drop-cons xs i x l ∙ ap (λ y. y ∷ drop (suc i) xs) (sym is) ∙ ap (λ n. x ∷ drop n xs) (sym (add-one i))

pub next_shown : (names : Names) (memory : List RegionId) (at : ℕ) (rows : List FlatRow) (view : List FlatRange) (row : FlatRow) (range : FlatRange)
    (whole : Option ℕ) → at < length rows → at < length view → row ≡ get_or rows at row → range ≡ get_or view at range
    → is_shown names memory row range ≡ true → first_difference names memory at (drop at rows) (drop at view) ≡ whole
    → first_difference names memory (at + 1) (drop (at + 1) rows) (drop (at + 1) view) ≡ whole
next_shown names memory at rows view row range whole l m is also shown h =
    sym (ap (λ b. if b then first_difference names memory (at + 1) (drop (at + 1) rows) (drop (at + 1) view) else Some at) shown)
    ∙ sym (λ i. first_difference names memory at (here rows at row l is i) (here view at range m also i)) ∙ h

pub found_here : (names : Names) (memory : List RegionId) (at : ℕ) (rows : List FlatRow) (view : List FlatRange) (row : FlatRow) (range : FlatRange)
    (whole : Option ℕ) → at < length rows → at < length view → row ≡ get_or rows at row → range ≡ get_or view at range
    → is_shown names memory row range ≡ false → first_difference names memory at (drop at rows) (drop at view) ≡ whole → whole ≡ Some at
found_here names memory at rows view row range whole l m is also shown h =
    sym h ∙ (λ i. first_difference names memory at (here rows at row l is i) (here view at range m also i))
    ∙ ap (λ b. if b then first_difference names memory (at + 1) (drop (at + 1) rows) (drop (at + 1) view) else Some at) shown

-- at the end of one of two lists

both_end : (names : Names) (memory : List RegionId) (at : ℕ) (rows : List FlatRow) (view : List FlatRange) → length rows ≤ at → length view ≤ at
    → first_difference names memory at (drop at rows) (drop at view) ≡ None
both_end names memory at rows view l m = λ i. first_difference names memory at (drop_past rows at l i) (drop_past view at m i)

rows_end : (names : Names) (memory : List RegionId) (at : ℕ) (view : List FlatRange) → 0 < length view → first_difference names memory at [] view ≡ Some at
rows_end names memory at [] l = absurd (omega (arith, l))
rows_end names memory at (range ∷ view) l = refl

view_end : (names : Names) (memory : List RegionId) (at : ℕ) (rows : List FlatRow) → 0 < length rows → first_difference names memory at rows [] ≡ Some at
view_end names memory at [] l = absurd (omega (arith, l))
view_end names memory at (row ∷ rows) l = refl

left_over : {X : Type 0} (xs : List X) (i : ℕ) → i < length xs → 0 < length (drop i xs)
left_over [] i l = absurd (omega (arith, l))
left_over (x ∷ xs) zero l = omega arith
left_over (x ∷ xs) (suc i) l = left_over xs i (omega (arith, l))

pub same_at_end : (names : Names) (memory : List RegionId) (at : ℕ) (rows : List FlatRow) (view : List FlatRange) → length rows ≤ at
    → length view ≤ at → first_difference names memory at (drop at rows) (drop at view) ≡ first_difference names memory 0 rows view
    → AreShown names memory rows view
same_at_end names memory at rows view l m h = none_shown names memory 0 rows view (sym h ∙ both_end names memory at rows view l m)

pub rows_differ : (names : Names) (memory : List RegionId) (at : ℕ) (rows : List FlatRow) (view : List FlatRange) → length rows ≤ at
    → at < length view → first_difference names memory at (drop at rows) (drop at view) ≡ first_difference names memory 0 rows view
    → Some at ≡ first_difference names memory 0 rows view
rows_differ names memory at rows view l m h =
    sym ((λ i. first_difference names memory at (drop_past rows at l i) (drop at view)) ∙ rows_end names memory at (drop at view) (left_over view at m)) ∙ h

pub view_differs : (names : Names) (memory : List RegionId) (at : ℕ) (rows : List FlatRow) (view : List FlatRange) → at < length rows
    → length view ≤ at → first_difference names memory at (drop at rows) (drop at view) ≡ first_difference names memory 0 rows view
    → Some at ≡ first_difference names memory 0 rows view
view_differs names memory at rows view l m h =
    sym ((λ i. first_difference names memory at (drop at rows) (drop_past view at m i)) ∙ view_end names memory at (drop at rows) (left_over rows at l)) ∙ h
