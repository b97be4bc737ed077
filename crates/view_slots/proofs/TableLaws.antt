-- Tables of slots.
use Rattle.std.proofs.Common.{◌≡◌, ℕ, ◌+◌, ◌-◌, ◌^◌, ◌<◌, ◌≤◌, ◌⊎◌, inl, inr, Bool, true, false, cond, List}
use Rattle.std.proofs.Common.{[], ◌∷◌, ◌++◌, Option, Some, None, refl, sym, ap, ◌∙◌, subst, arith, nat_lt, nat_le, true≢false}
use Rattle.std.proofs.Common.{is_some, zero, suc, length, take, get_or}
use Rattle.std.proofs.lemmas.List.{take_all, take_more}
use Rattle.std.specs.Option.{option_or}
use Rattle.std.proofs.lemmas.Bool.Decides.{nat_tests}
use Rattle.std.proofs.lemmas.Option.{same_Some}
use Rattle.mem_base.specs.declared.map.ids.RegionId.{RegionId}
use Rattle.mem_base.specs.declared.map.spots.Spot.{Spot}
use Rattle.mem_base.specs.declared.views.flat.FlatRange.{FlatRange}
use Rattle.mem_base.specs.lists.Every.{Every}
use Rattle.mem_base.specs.script.Named.{Names}
use Rattle.mem_base.specs.views.View.{IsRanges, holds, seen, shown}
use Rattle.view_slots.specs.Edges.{HasEnds}
use Rattle.view_slots.specs.Slots.{Adds, AlikeKeep, CutsInto, IsPiece, is_slot, memory_alone}
use Rattle.view_slots.proofs.PieceLaws.{or_none, pieces_end, pieces_lie, pieces_show}
use Rattle.mem_base.proofs.ViewLaws.{ranges_join, shown_join, shown-past}

-- Lists of ranges, one after another

-- the ranges before the last one, and the last one
pub record Before (from end : ℕ) (xs : List FlatRange) (r : FlatRange) : Type 0 where
  pub front : IsRanges from r.start xs
  pub order : r.start ≤ r.last
  pub fits : r.offset + (r.last - r.start) < 2 ^ 64
  pub end_by : r.last + 1 ≤ end

pub last_one : (from end : ℕ) (xs : List FlatRange) (r : FlatRange) → IsRanges from end (xs ++ r ∷ []) → Before from end xs r
last_one from end [] r h = record { front = h.0; order = h.1; fits = h.2; end_by = h.3 }
last_one from end (x ∷ xs) r h =
    let rest = last_one (x.last + 1) end xs r h.3 in
    record { front = (h.0, h.1, h.2, rest.front); order = rest.order; fits = rest.fits; end_by = rest.end_by }

pub longer : (from mid end : ℕ) (xs : List FlatRange) → mid ≤ end → IsRanges from mid xs → IsRanges from end xs
longer from mid end [] le h = omega (arith, le, h)
longer from mid end (x ∷ xs) le h = (h.0, h.1, h.2, longer (x.last + 1) mid end xs le h.3)

-- The table of some ranges

pub record IsTable (edges : List ℕ) (names : Names) (others : List RegionId) (rs out : List FlatRange) : Type 0 where
  pub lie : (end : ℕ) → IsRanges 0 end rs → IsRanges 0 end out
  pub show : (end : ℕ) → IsRanges 0 end rs → (a : ℕ) → shown out a ≡ memory_alone names others (shown rs a)
  pub pieces : Every (IsPiece edges) out

pub table_first : (edges : List ℕ) (names : Names) (others : List RegionId) (out : List FlatRange) → out ≡ [] → IsTable edges names others [] out
table_first edges names others out e =
    subst (IsTable edges names others []) (sym e) (record { lie = λ end h. h; show = λ end h a. refl; pieces = tt })

every_both : (edges : List ℕ) (xs ys : List FlatRange) → Every (IsPiece edges) xs → Every (IsPiece edges) ys → Every (IsPiece edges) (xs ++ ys)
every_both edges [] ys h k = k
every_both edges (x ∷ xs) ys h k = (h.0, every_both edges xs ys h.1 k)

abbrev nothing : Option Spot
nothing = None

none_either : (b : Bool) → nothing ≡ cond b nothing nothing
none_either true = refl
none_either false = refl

-- what one range shows, where it is memory
seen_memory : (names : Names) (others : List RegionId) (r : FlatRange) (a : ℕ) (b : Bool) → is_slot names others r.leaf r.attrs ≡ b
    → memory_alone names others (seen r a) ≡ cond b (seen r a) None
seen_memory names others r a b e = by (holds r a)
  where
    by : (h : Bool) → memory_alone names others (cond h (Some (record { leaf = r.leaf; offset = r.offset + (a - r.start); attrs = r.attrs })) None)
        ≡ cond b (cond h (Some (record { leaf = r.leaf; offset = r.offset + (a - r.start); attrs = r.attrs })) None) None
    by true = ap (λ c. cond c (Some (record { leaf = r.leaf; offset = r.offset + (a - r.start); attrs = r.attrs })) None) e
    by false = none_either b

alone_or : (names : Names) (others : List RegionId) (o p : Option Spot) → (o ≡ None) ⊎ (p ≡ None)
    → memory_alone names others (option_or o p) ≡ option_or (memory_alone names others o) (memory_alone names others p)
alone_or names others o p (inl e) =
    ap (λ x. memory_alone names others (option_or x p)) e ∙ sym (ap (λ x. option_or (memory_alone names others x) (memory_alone names others p)) e)
alone_or names others o p (inr e) =
    ap (λ x. memory_alone names others (option_or o x)) e ∙ ap (memory_alone names others) (or_none o)
    ∙ sym (or_none (memory_alone names others o)) ∙ sym (ap (λ x. option_or (memory_alone names others o) (memory_alone names others x)) e)

one_show : (names : Names) (others : List RegionId) (rs out ps : List FlatRange) (r : FlatRange) (end a : ℕ) (b : Bool) → Before 0 end rs r
    → is_slot names others r.leaf r.attrs ≡ b → shown out a ≡ memory_alone names others (shown rs a) → shown ps a ≡ cond b (seen r a) None
    → shown (out ++ ps) a ≡ memory_alone names others (shown (rs ++ r ∷ []) a)
one_show names others rs out ps r end a b at is before now =
    shown_join out ps a ∙ ap (λ o. option_or o (shown ps a)) before
    ∙ ap (option_or (memory_alone names others (shown rs a))) (now ∙ sym (seen_memory names others r a b is))
    ∙ sym (alone_or names others (shown rs a) (seen r a) apart)
    ∙ ap (memory_alone names others) (sym (shown_join rs (r ∷ []) a ∙ ap (option_or (shown rs a)) (or_none (seen r a))))
  where
    apart : (shown rs a ≡ None) ⊎ (seen r a ≡ None)
    apart = by (nat_le r.start a) refl
      where
        by : (c : Bool) → nat_le r.start a ≡ c → (shown rs a ≡ None) ⊎ (seen r a ≡ None)
        by true e = inl (shown-past 0 r.start rs a at.front (let above : r.start ≤ a = grind (arith, nat_tests, e) in above))
        by false e = inr (let no : holds r a ≡ false = grind (arith, nat_tests, e) in
            ap (λ c. cond c (Some (record { leaf = r.leaf; offset = r.offset + (a - r.start); attrs = r.attrs })) None) no)

pub table_skips : (edges : List ℕ) (names : Names) (others : List RegionId) (rs out : List FlatRange) (r : FlatRange)
    → is_slot names others r.leaf r.attrs ≡ false → IsTable edges names others rs out → IsTable edges names others (rs ++ r ∷ []) out
table_skips edges names others rs out r is t = record {
  lie = λ end h. (let at = last_one 0 end rs r h in
      let order : r.start ≤ r.last = at.order in
      let top : r.last + 1 ≤ end = at.end_by in
      longer 0 r.start end out (omega (arith, order, top)) (t.lie r.start at.front));
  show = λ end h a. (let at = last_one 0 end rs r h in
      sym (ap (λ xs. shown xs a) (append_nil out)) ∙ one_show names others rs out [] r end a false at is (t.show r.start at.front a) refl);
  pieces = t.pieces;
}
  where
    append_nil : (xs : List FlatRange) → xs ++ [] ≡ xs
    append_nil [] = refl
    append_nil (x ∷ xs) = ap (λ ys. x ∷ ys) (append_nil xs)

pub table_cuts : (edges : List ℕ) (names : Names) (others : List RegionId) (rs out new ps : List FlatRange) (r : FlatRange)
    → is_slot names others r.leaf r.attrs ≡ true → HasEnds edges r → new ≡ out ++ ps → CutsInto edges r ps → IsTable edges names others rs out
    → IsTable edges names others (rs ++ r ∷ []) new
table_cuts edges names others rs out new ps r is ends e cut t = subst (IsTable edges names others (rs ++ r ∷ [])) (sym e) (record {
  lie = λ end h. (let at = last_one 0 end rs r h in
      ranges_join 0 r.start end out ps (t.lie r.start at.front)
      (longer r.start (r.last + 1) end ps at.end_by (pieces_lie edges r ps at.order at.fits cut)));
  show = λ end h a. (let at = last_one 0 end rs r h in
      one_show names others rs out ps r end a true at is (t.show r.start at.front a) (pieces_show edges r ps a cut));
  pieces = every_both edges out ps t.pieces (pieces_end edges r ps ends cut);
})

every_at : (P : FlatRange → Type 0) (xs : List FlatRange) (i : ℕ) (d : FlatRange) → Every P xs → i < length xs → P (get_or xs i d)
every_at P [] i d h below = absurd (omega (arith, below))
every_at P (x ∷ xs) zero d h below = h.0
every_at P (x ∷ xs) (suc i) d h below = every_at P xs i d h.1 (let lt : suc i < suc (length xs) = below in omega (arith, lt))

-- one range more
pub table_more : (edges : List ℕ) (names : Names) (others : List RegionId) (ranges slots new : List FlatRange) (i : ℕ) (d : FlatRange) → i < length ranges
    → Every (HasEnds edges) ranges → IsTable edges names others (take i ranges) slots
    → Adds (is_slot names others (get_or ranges i d).leaf (get_or ranges i d).attrs) edges (get_or ranges i d) slots new
    → IsTable edges names others (take (i + 1) ranges) new
table_more edges names others ranges slots new i d below ends t added =
    subst (λ (rs : List FlatRange). IsTable edges names others rs new) (sym (take_more ranges i d below))
    (by (is_slot names others (get_or ranges i d).leaf (get_or ranges i d).attrs) refl added)
  where
    by : (b : Bool) → is_slot names others (get_or ranges i d).leaf (get_or ranges i d).attrs ≡ b → Adds b edges (get_or ranges i d) slots new
        → IsTable edges names others (take i ranges ++ get_or ranges i d ∷ []) new
    by true is added = table_cuts edges names others (take i ranges) slots new added.0 (get_or ranges i d) is
        (every_at (HasEnds edges) ranges i d ends below) added.1 added.2 t
    by false is same = subst (IsTable edges names others (take i ranges ++ get_or ranges i d ∷ [])) (sym same)
        (table_skips edges names others (take i ranges) slots (get_or ranges i d) is t)

-- a range of a view
pub lies_at : (from end : ℕ) (xs : List FlatRange) (i : ℕ) (d : FlatRange) → IsRanges from end xs → i < length xs
    → ((get_or xs i d).start ≤ (get_or xs i d).last) × ((get_or xs i d).offset + ((get_or xs i d).last - (get_or xs i d).start) < 2 ^ 64)
lies_at from end [] i d h below = absurd (omega (arith, below))
lies_at from end (x ∷ xs) zero d h below = (h.1, h.2)
lies_at from end (x ∷ xs) (suc i) d h below =
    lies_at (x.last + 1) end xs i d h.3 (let lt : suc i < suc (length xs) = below in omega (arith, lt))

-- the edges of a view
pub ends_there : (edges found : List ℕ) (view ranges : List FlatRange) → found ≡ edges → ranges ≡ view → Every (HasEnds edges) view
    → Every (HasEnds found) ranges
ends_there edges found view ranges e r h =
    subst (λ (es : List ℕ). Every (HasEnds es) ranges) (sym e) (subst (Every (HasEnds edges)) (sym r) h)

-- all ranges are done
pub table_whole : (edges : List ℕ) (names : Names) (others : List RegionId) (ranges slots : List FlatRange) (i : ℕ) → length ranges ≤ i
    → IsTable edges names others (take i ranges) slots → IsTable edges names others ranges slots
table_whole edges names others ranges slots i all t = subst (λ (rs : List FlatRange). IsTable edges names others rs slots) (take_all i ranges all) t

-- Slots that show a page alike

inside : (r : FlatRange) (a : ℕ) (s : Spot) → seen r a ≡ Some s
    → (r.start ≤ a) × (a ≤ r.last) × (record { leaf = r.leaf; offset = r.offset + (a - r.start); attrs = r.attrs } ≡ s)
inside r a s e = by (holds r a) refl e
  where
    by : (b : Bool) → holds r a ≡ b → cond b (Some (record { leaf = r.leaf; offset = r.offset + (a - r.start); attrs = r.attrs })) None ≡ Some s
        → (r.start ≤ a) × (a ≤ r.last) × (record { leaf = r.leaf; offset = r.offset + (a - r.start); attrs = r.attrs } ≡ s)
    by true h e =
        let low : r.start ≤ a = grind (arith, nat_tests, h) in
        let high : a ≤ r.last = grind (arith, nat_tests, h) in
        (low, high, same_Some (record { leaf = r.leaf; offset = r.offset + (a - r.start); attrs = r.attrs }) s e)
    by false h e = absurd (true≢false (sym (ap is_some e)))

not_later : (edges : List ℕ) (r q : FlatRange) (a : ℕ) → IsPiece edges r → IsPiece edges q → q.start ≤ a → a ≤ r.last → r.start < q.start → ⊥
not_later edges r q a here there low high later = here.whole q.start there.ends.0 later (omega (arith, low, high))

not_longer : (edges : List ℕ) (r q : FlatRange) (a : ℕ) → IsPiece edges r → IsPiece edges q → q.last < 2 ^ 64 → q.start ≤ a → a ≤ r.last → r.last < q.last → ⊥
not_longer edges r q a here there top low high longer =
    there.whole (r.last + 1) (here.ends.1 (omega (arith, longer, top))) (omega (arith, low, high)) (omega (arith, longer))

equal_numbers : (m n : ℕ) → (m < n → ⊥) → (n < m → ⊥) → m ≡ n
equal_numbers m n h k = by (nat_lt m n) refl
  where
    by : (b : Bool) → nat_lt m n ≡ b → m ≡ n
    by true e = absurd (h (let lt : m < n = grind (arith, nat_tests, e) in lt))
    by false e = by_other (nat_lt n m) refl
      where
        by_other : (c : Bool) → nat_lt n m ≡ c → m ≡ n
        by_other true f = absurd (k (let lt : n < m = grind (arith, nat_tests, f) in lt))
        by_other false f = let le : n ≤ m = grind (arith, nat_tests, e) in let ge : m ≤ n = grind (arith, nat_tests, f) in omega (arith, le, ge)

pub alike_keep : AlikeKeep
alike_keep edges r q a s here there r_top q_top e f =
    let x = inside r a s e in
    let y = inside q a s f in
    let low : r.start ≤ a = x.0 in
    let start : r.start ≡ q.start = equal_numbers r.start q.start (not_later edges r q a here there y.0 x.1) (not_later edges q r a there here x.0 y.1) in
    let last : r.last ≡ q.last = equal_numbers r.last q.last (not_longer edges r q a here there q_top y.0 x.1)
    (not_longer edges q r a there here r_top x.0 y.1) in
    let spots : record { leaf = r.leaf; offset = r.offset + (a - r.start); attrs = r.attrs } ≡ record {
      leaf = q.leaf;
      offset = q.offset +
          (a - q.start);
      attrs = q.attrs;
    } =
    x.2 ∙ sym y.2 in
    let leaf : r.leaf ≡ q.leaf = ap (λ (z : Spot). z.leaf) spots in
    let attrs : r.attrs ≡ q.attrs = ap (λ (z : Spot). z.attrs) spots in
    let there_offset : r.offset + (a - r.start) ≡ q.offset + (a - q.start) = ap (λ (z : Spot). z.offset) spots in
    let offset : r.offset ≡ q.offset = omega (arith, there_offset, start, low) in
    λ i. record { start = start i; last = last i; leaf = leaf i; offset = offset i; attrs = attrs i }
