-- Rows that are made one after another.
use Rattle.std.proofs.Common.{◌≡◌, ℕ, ◌+◌, ◌-◌, ◌^◌, ◌<◌, ◌≤◌, Bool, true, false, cond, List}
use Rattle.std.proofs.Common.{[], ◌∷◌, ◌++◌, take, get_or, length, refl, sym, ap, ◌∙◌, subst, arith, nat_lt}
use Rattle.std.proofs.lemmas.Bool.Decides.{nat_tests}
use Rattle.std.proofs.Common.{add-one, drop, drop-cons}
use Rattle.std.proofs.lemmas.List.{take_more, take_all}
use Rattle.mem_base.specs.declared.views.flat.FlatRange.{FlatRange}
use Rattle.mem_base.specs.views.View.{IsRanges}
use Rattle.view_picture.specs.declared.rows.Row.{Row}
use Rattle.view_picture.specs.declared.rows.Row.TheVariants.{Range, Hole}
use Rattle.view_picture.specs.Rows.{Tiles, last_of, ranges_of, with_hole}
use Rattle.mem_base.proofs.ViewLaws.{IsRanges-within}

tiles_both : (from mid end : ℕ) (xs ys : List Row) → Tiles from mid xs → Tiles mid end ys → Tiles from end (xs ++ ys)
tiles_both from mid end [] ys h k = subst (λ (n : ℕ). Tiles n end ys) (sym h) k
tiles_both from mid end (x ∷ xs) ys h k = (h.0, h.1, tiles_both (last_of x + 1) mid end xs ys h.2 k)

ranges_both : (xs ys : List Row) → ranges_of (xs ++ ys) ≡ ranges_of xs ++ ranges_of ys
ranges_both [] ys = refl
ranges_both (Range r ∷ xs) ys = ap (λ rs. r ∷ rs) (ranges_both xs ys)
ranges_both (Hole s l ∷ xs) ys = ranges_both xs ys

one_tiles : (next : ℕ) (r : FlatRange) → next ≤ r.start → r.start ≤ r.last → Tiles next (r.last + 1) (with_hole next r)
one_tiles next r low order = by (nat_lt next r.start) refl
  where
    by : (b : Bool) → nat_lt next r.start ≡ b → Tiles next (r.last + 1) (cond b (Hole next (r.start - 1) ∷ Range r ∷ []) (Range r ∷ []))
    by true e =
        let below : next < r.start = grind (arith, nat_tests, e) in
        (refl, omega (arith, below), (omega (arith, below), omega (arith, below, order), refl))
    by false e =
        let above : r.start ≤ next = grind (arith, nat_tests, e) in
        (omega (arith, above, low), omega (arith, above, low, order), refl)

one_range : (next : ℕ) (r : FlatRange) → ranges_of (with_hole next r) ≡ r ∷ []
one_range next r = by (nat_lt next r.start)
  where
    by : (b : Bool) → ranges_of (cond b (Hole next (r.start - 1) ∷ Range r ∷ []) (Range r ∷ [])) ≡ r ∷ []
    by true = refl
    by false = refl

-- What the loop has done: the rows go up to `next`, and have the ranges so far; the rest lies from `next` on
pub record RowsSoFar (ranges : List FlatRange) (i next : ℕ) (rows : List Row) : Type 0 where
  pub tiles : Tiles 0 next rows
  pub same : ranges_of rows ≡ take i ranges
  pub rest : IsRanges next (2 ^ 64) (drop i ranges)

pub no_rows : (ranges : List FlatRange) (rows : List Row) → rows ≡ [] → IsRanges 0 (2 ^ 64) ranges → RowsSoFar ranges 0 0 rows
no_rows ranges rows e h = subst (RowsSoFar ranges 0 0) (sym e) (record { tiles = refl; same = refl; rest = h })

-- the next range
pub record Ahead (next : ℕ) (r : FlatRange) (rest : List FlatRange) : Type 0 where
  pub low : next ≤ r.start
  pub order : r.start ≤ r.last
  pub top : r.last < 2 ^ 64
  pub after : IsRanges (r.last + 1) (2 ^ 64) rest

pub ahead : (ranges : List FlatRange) (i next : ℕ) (rows : List Row) (d : FlatRange) → i < length ranges → RowsSoFar ranges i next rows
    → Ahead next (get_or ranges i d) (drop (i + 1) ranges)
ahead ranges i next rows d below h =
    let at : IsRanges next (2 ^ 64) (get_or ranges i d ∷ drop (i + 1) ranges) =
    subst (IsRanges next (2 ^ 64)) (drop_at ranges i d below) h.rest in
    let after : (get_or ranges i d).last + 1 ≤ 2 ^ 64 = IsRanges-within ((get_or ranges i d).last + 1) (2 ^ 64) (drop (i + 1) ranges) at.3 in
    record { low = at.0; order = at.1; top = omega (arith, after); after = at.3 }
  where
    drop_at : (xs : List FlatRange) (i : ℕ) (d : FlatRange) → i < length xs → drop i xs ≡ get_or xs i d ∷ drop (i + 1) xs
    drop_at xs i d below = rw (add-one, drop-cons xs i d) refl

pub row_more : (ranges : List FlatRange) (i next : ℕ) (rows after : List Row) (d : FlatRange) → i < length ranges → RowsSoFar ranges i next rows
    → after ≡ rows ++ with_hole next (get_or ranges i d) → RowsSoFar ranges (i + 1) ((get_or ranges i d).last + 1) after
row_more ranges i next rows after d below h e =
    let a = ahead ranges i next rows d below h in
    let r : FlatRange = get_or ranges i d in
    subst (RowsSoFar ranges (i + 1) ((get_or ranges i d).last + 1)) (sym e) (record {
      tiles = tiles_both 0 next ((get_or ranges i d).last + 1) rows (with_hole next (get_or ranges i d)) h.tiles (one_tiles next
          (get_or ranges i d) a.low a.order);
      same = ranges_both rows (with_hole next (get_or ranges i d)) ∙ ap (λ rs. rs ++ ranges_of (with_hole next (get_or ranges i d))) h.same
          ∙ ap (λ rs. take i ranges ++ rs) (one_range next (get_or ranges i d)) ∙ sym (take_more ranges i d below);
      rest = a.after;
    })

-- At the end

pub closed_tiles : (ranges : List FlatRange) (i next : ℕ) (rows : List Row) → length ranges ≤ i → RowsSoFar ranges i next rows → 2 ^ 64 ≤ next
    → Tiles 0 (2 ^ 64) rows
closed_tiles ranges i next rows all h top =
    let below : next ≤ 2 ^ 64 = IsRanges-within next (2 ^ 64) (drop i ranges) h.rest in
    let same : next ≡ 2 ^ 64 = omega (arith, below, top) in
    subst (λ (n : ℕ). Tiles 0 n rows) same h.tiles

pub closed_ranges : (ranges : List FlatRange) (i next : ℕ) (rows : List Row) → length ranges ≤ i → RowsSoFar ranges i next rows → ranges_of rows ≡ ranges
closed_ranges ranges i next rows all h = h.same ∙ take_all i ranges all

pub open_tiles : (ranges : List FlatRange) (i next : ℕ) (rows after : List Row) → RowsSoFar ranges i next rows → next < 2 ^ 64
    → after ≡ rows ++ Hole next (2 ^ 64 - 1) ∷ [] → Tiles 0 (2 ^ 64) after
open_tiles ranges i next rows after h below e =
    subst (Tiles 0 (2 ^ 64)) (sym e) (tiles_both 0 next (2 ^ 64) rows (Hole next (2 ^ 64 - 1) ∷ []) h.tiles (refl, omega (arith, below), refl))

pub open_ranges : (ranges : List FlatRange) (i next : ℕ) (rows after : List Row) → length ranges ≤ i → RowsSoFar ranges i next rows
    → after ≡ rows ++ Hole next (2 ^ 64 - 1) ∷ [] → ranges_of after ≡ ranges
open_ranges ranges i next rows after all h e =
    ap ranges_of e ∙ ranges_both rows (Hole next (2 ^ 64 - 1) ∷ []) ∙ append_nil (ranges_of rows) ∙ closed_ranges ranges i next rows all h
  where
    append_nil : (xs : List FlatRange) → xs ++ [] ≡ xs
    append_nil [] = refl
    append_nil (x ∷ xs) = ap (λ ys. x ∷ ys) (append_nil xs)
