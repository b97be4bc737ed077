-- The ranges that are made address by address are the one view.
use Rattle.std.proofs.Common.{◌≡◌, ℕ, zero, suc, ◌+◌, ◌-◌, ◌^◌, ◌<◌, ◌≤◌, ◌==◌, ◌&&◌, ◌||◌, not, Bool, true, false, cond, List, [], ◌∷◌}
use Rattle.std.proofs.Common.{Option, Some, None, refl, sym, ap, subst, ◌∙◌, arith, ⊎_elim, eqb-true, option_and_then}
use Rattle.std.proofs.lemmas.Bool.{cases_lt, and_parts}
use Rattle.std.proofs.lemmas.Bool.Decides.{nat_tests}
use Rattle.mem_base.specs.declared.map.forests.Forest.{Forest}
use Rattle.mem_base.specs.declared.map.ids.RegionId.{RegionId}
use Rattle.mem_base.specs.declared.map.ids.SpaceId.{SpaceId}
use Rattle.mem_base.specs.declared.map.spots.Attrs.{Attrs}
use Rattle.mem_base.specs.declared.map.spots.Spot.{Spot}
use Rattle.mem_base.specs.declared.views.flat.FlatRange.{FlatRange}
use Rattle.mem_base.specs.lists.Booleans.{bool_eq}
use Rattle.mem_base.specs.map.Limits.{most_depth}
use Rattle.mem_base.specs.lists.Every.{Every}
use Rattle.mem_base.specs.map.Search.{look, path_at, root_of, found_in, spot_of}
use Rattle.mem_base.specs.views.View.{shown, IsRanges, PathAt, IsOnOnePath, Merges, MergesNot, IsMerged, IsView}
use Rattle.mem_base.specs.views.Flattened.{lone, same_path, goes_on, put_before, ranges_from, view_of}
use Rattle.mem_base.specs.map.Attributes.{same_attrs}
use Rattle.mem_base.proofs.ViewLaws.{shown-before, shown-first, shown-later, IsView-unique, IsRanges-from, some_same}
use Rattle.mem_base.proofs.BoolLaws.{bool_same, bool_itself, holds_where, holds_if}

-- what the ranges of the addresses from `a` to `end` are
record Flattens (found : ℕ → Option Spot) (path : PathAt) (a end : ℕ) (rs : List FlatRange) : Type 0 where
  ranges : IsRanges a end rs
  shows : (x : ℕ) → a ≤ x → x < end → shown rs x ≡ found x
  merged : IsMerged path rs
  paths : Every (IsOnOnePath path) rs

abbrev attrs_of : Bool → Bool → Bool → Bool → ℕ → Attrs
attrs_of readonly nonvolatile romd unmergeable log =
    record { readonly = readonly; nonvolatile = nonvolatile; romd = romd; unmergeable = unmergeable; log = log }

abbrev region_of : ℕ → RegionId
region_of n = record { 0 = n }

abbrev the_spot : RegionId → ℕ → Attrs → Spot
the_spot leaf offset attrs = record { leaf = leaf; offset = offset; attrs = attrs }

pub same_attrs-is : (x y : Attrs) → same_attrs x y ≡ true → x ≡ y
same_attrs-is x y e =
    let p = and_parts (bool_eq x.readonly y.readonly && bool_eq x.nonvolatile y.nonvolatile && bool_eq x.romd y.romd && bool_eq x.unmergeable y.unmergeable)
    (x.log == y.log) e in
    let o = and_parts (bool_eq x.readonly y.readonly && bool_eq x.nonvolatile y.nonvolatile && bool_eq x.romd y.romd) (bool_eq x.unmergeable y.unmergeable) p.0 in
    let u : x.unmergeable ≡ y.unmergeable = bool_same x.unmergeable y.unmergeable o.1 in
    let q = and_parts (bool_eq x.readonly y.readonly && bool_eq x.nonvolatile y.nonvolatile) (bool_eq x.romd y.romd) o.0 in
    let r = and_parts (bool_eq x.readonly y.readonly) (bool_eq x.nonvolatile y.nonvolatile) q.0 in
    let a : x.readonly ≡ y.readonly = bool_same x.readonly y.readonly r.0 in
    let b : x.nonvolatile ≡ y.nonvolatile = bool_same x.nonvolatile y.nonvolatile r.1 in
    let c : x.romd ≡ y.romd = bool_same x.romd y.romd q.1 in
    let d : x.log ≡ y.log = eqb-true x.log y.log p.1 in
    let parts : attrs_of x.readonly x.nonvolatile x.romd x.unmergeable x.log ≡ attrs_of y.readonly y.nonvolatile y.romd y.unmergeable y.log = cc in parts

pub same_attrs-same : (x : Attrs) → same_attrs x x ≡ true
same_attrs-same x = let log : (x.log == x.log) ≡ true = grind (arith, nat_tests) in
    rw (bool_itself x.readonly, bool_itself x.nonvolatile, bool_itself x.romd, bool_itself x.unmergeable, log) refl

pub same_path-is : (ps qs : List RegionId) → same_path ps qs ≡ true → ps ≡ qs
same_path-is [] [] e = refl
same_path-is [] (q ∷ qs) e = cc
same_path-is (p ∷ ps) [] e = cc
same_path-is (p ∷ ps) (q ∷ qs) e =
    let w = and_parts (p.0 == q.0) (same_path ps qs) e in
    let first : region_of p.0 ≡ region_of q.0 = ap region_of (eqb-true p.0 q.0 w.0) in
    let rest = same_path-is ps qs w.1 in cc

pub same_path-same : (ps : List RegionId) → same_path ps ps ≡ true
same_path-same [] = refl
same_path-same (p ∷ ps) = let first : (p.0 == p.0) ≡ true = grind (arith, nat_tests) in rw (first, same_path-same ps) refl

-- the range goes on where the address ends exactly where the two merge
goes_on-merges : (path : PathAt) (a : ℕ) (s : Spot) (r : FlatRange) → goes_on path a s r ≡ true → Merges path (lone a s) r
goes_on-merges path a s r e =
    let w = and_parts ((r.start == a + 1) && (r.leaf.0 == s.leaf.0) && (r.offset == s.offset + 1) && same_attrs r.attrs s.attrs)
    (not s.attrs.unmergeable || same_path (path r.start) (path a)) e in
    let p = and_parts ((r.start == a + 1) && (r.leaf.0 == s.leaf.0) && (r.offset == s.offset + 1)) (same_attrs r.attrs s.attrs) w.0 in
    let q = and_parts ((r.start == a + 1) && (r.leaf.0 == s.leaf.0)) (r.offset == s.offset + 1) p.0 in
    let t = and_parts (r.start == a + 1) (r.leaf.0 == s.leaf.0) q.0 in
    let start : r.start ≡ a + 1 = eqb-true r.start (a + 1) t.0 in
    let offset : r.offset ≡ s.offset + 1 = eqb-true r.offset (s.offset + 1) q.1 in (
      (start, ap region_of (eqb-true r.leaf.0 s.leaf.0 t.1), omega arith, same_attrs-is r.attrs s.attrs p.1),
      λ u. same_path-is (path r.start) (path a) (holds_where s.attrs.unmergeable (same_path (path r.start) (path a)) w.1 u),
    )

merges-goes_on : (path : PathAt) (a : ℕ) (s : Spot) (r : FlatRange) → Merges path (lone a s) r → goes_on path a s r ≡ true
merges-goes_on path a s r m =
    let start : (r.start == a + 1) ≡ true = let e = m.0.0 in grind (arith, nat_tests) in
    let leaf : (r.leaf.0 == s.leaf.0) ≡ true = let e = ap (λ (i : RegionId). i.0) m.0.1 in grind (arith, nat_tests) in
    let offset : (r.offset == s.offset + 1) ≡ true = let e = m.0.0 in let f = m.0.2 in grind (arith, nat_tests) in
    let attrs : same_attrs r.attrs s.attrs ≡ true = subst (λ t. same_attrs r.attrs t ≡ true) m.0.3 (same_attrs-same r.attrs) in
    let path : (not s.attrs.unmergeable || same_path (path r.start) (path a)) ≡ true
    = holds_if s.attrs.unmergeable (same_path (path r.start) (path a))
    (λ u. subst (λ ps. same_path (path r.start) ps ≡ true) (m.1 u) (same_path-same (path r.start))) in
    rw (start, leaf, offset, attrs, path) refl

-- the first address is found in the first range, the others in the others
shows_first : (found : ℕ → Option Spot) (path : PathAt) (a end : ℕ) (s : Spot) (rs : List FlatRange) → found a ≡ Some s → Flattens found path (a + 1) end rs
    → (x : ℕ) → a ≤ x → x < end → shown (lone a s ∷ rs) x ≡ found x
shows_first found path a end s rs is h x l k =
    ⊎_elim
    (λ past. shown-later (lone a s) rs x past ∙ h.shows x (omega arith) k)
    (λ low. let at : x ≡ a = omega arith in
    shown-first (lone a s) rs x l low ∙ ap Some (ap (λ o. the_spot s.leaf o s.attrs) (let e : s.offset + (x - a) ≡ s.offset = omega arith in e)) ∙ sym is
    ∙ ap found (sym at))
    (cases_lt a x)

-- a range that begins one address before another
abbrev longer : ℕ → Spot → FlatRange → FlatRange
longer a s r = record { start = a; last = r.last; leaf = s.leaf; offset = s.offset; attrs = s.attrs }

shows_longer : (found : ℕ → Option Spot) (path : PathAt) (a end : ℕ) (s : Spot) (r : FlatRange) (rs : List FlatRange) → found a ≡ Some s →
    Merges path (lone a s) r → Flattens found path (a + 1) end (r ∷ rs)
    → (x : ℕ) → a ≤ x → x < end → shown (longer a s r ∷ rs) x ≡ found x
shows_longer found path a end s r rs is m h x l k =
    let start = m.0.0 in let offset = m.0.2 in let within = h.ranges.1 in
    ⊎_elim
    (λ past. shown-later (longer a s r) rs x past ∙ sym (shown-later r rs x past) ∙ h.shows x (omega arith) k)
    (λ low. shown-first (longer a s r) rs x l low ∙ ⊎_elim
    (λ later.
    let o : s.offset + (x - a) ≡ r.offset + (x - r.start) = omega arith in
    let lf = m.0.1 in let at = m.0.3 in
    let same : the_spot s.leaf (s.offset + (x - a)) s.attrs ≡ the_spot r.leaf (r.offset + (x - r.start)) r.attrs = cc in
    ap Some same ∙ sym (shown-first r rs x (omega arith) low) ∙ h.shows x (omega arith) k)
    (λ first. let at : x ≡ a = omega arith in
    ap Some (ap (λ o. the_spot s.leaf o s.attrs) (let e : s.offset + (x - a) ≡ s.offset = omega arith in e)) ∙ sym is ∙ ap found (sym at))
    (cases_lt a x))
    (cases_lt r.last x)

merged_longer : (path : PathAt) (a : ℕ) (s : Spot) (r : FlatRange) (rs : List FlatRange) → Merges path (lone a s) r → r.start ≤ r.last →
    MergesNot path r rs → MergesNot path (longer a s r) rs
merged_longer path a s r [] m w h = tt
merged_longer path a s r (q ∷ qs) m w h =
    λ n. let start = m.0.0 in let offset = m.0.2 in let next = n.0.0 in let after = n.0.2 in
    let o : q.offset ≡ r.offset + (q.start - r.start) = omega arith in
    h ((n.0.0, n.0.1 ∙ sym m.0.1, o, n.0.3 ∙ sym m.0.3), λ u. n.1 (ap (λ (t : Attrs). t.unmergeable) (sym m.0.3) ∙ u))

one_path_lone : (path : PathAt) (a : ℕ) (s : Spot) → IsOnOnePath path (lone a s)
one_path_lone path a s = λ u x l k. let at : x ≡ a = omega arith in ap path at

one_path_longer : (path : PathAt) (a : ℕ) (s : Spot) (r : FlatRange) → Merges path (lone a s) r → IsOnOnePath path r → IsOnOnePath path (longer a s r)
one_path_longer path a s r m h = λ u x l k.
    let start = m.0.0 in
    ⊎_elim
    (λ later. h (ap (λ (t : Attrs). t.unmergeable) m.0.3 ∙ u) x (omega arith) k ∙ m.1 u)
    (λ first. let at : x ≡ a = omega arith in ap path at)
    (cases_lt a x)

-- one address before some ranges
put_range : (found : ℕ → Option Spot) (path : PathAt) (a end : ℕ) (s : Spot) (r : FlatRange) (rs : List FlatRange) (test : Bool) →
    goes_on path a s r ≡ test → found a ≡ Some s → s.offset < 2 ^ 64
    → Flattens found path (a + 1) end (r ∷ rs) → Flattens found path a end (cond test (longer a s r ∷ rs) (lone a s ∷ r ∷ rs))
put_range found path a end s r rs true t is b h =
    let m = goes_on-merges path a s r t in
    let start = m.0.0 in let offset = m.0.2 in let within = h.ranges.1 in let below = h.ranges.2 in
    record {
      ranges = (omega arith, omega arith, omega arith, h.ranges.3);
      shows = shows_longer found path a end s r rs is m h;
      merged = (merged_longer path a s r rs m within h.merged.0, h.merged.1);
      paths = (one_path_longer path a s r m h.paths.0, h.paths.1);
    }
put_range found path a end s r rs false t is b h =
    record {
      ranges = (omega arith, omega arith, omega arith, h.ranges);
      shows = shows_first found path a end s (r ∷ rs) is h;
      merged = (λ m. let yes = merges-goes_on path a s r m in let clash : true ≡ false = sym yes ∙ t in cc, h.merged);
      paths = (one_path_lone path a s, h.paths);
    }

put_one : (found : ℕ → Option Spot) (path : PathAt) (a end : ℕ) (o : Option Spot) (rs : List FlatRange) → found a ≡ o → a < end →
    ((s : Spot) → o ≡ Some s → s.offset < 2 ^ 64)
    → Flattens found path (a + 1) end rs → Flattens found path a end (put_before path a o rs)
put_one found path a end None rs is w b h =
    record {
      ranges = IsRanges-from a (a + 1) end rs (omega arith) h.ranges;
      shows = λ x l k. ⊎_elim
          (λ past. h.shows x (omega arith) k)
          (λ low. let at : x ≡ a = omega arith in shown-before (a + 1) end rs x h.ranges (omega arith) ∙ sym is ∙ ap found (sym at))
          (cases_lt a x);
      merged = h.merged;
      paths = h.paths;
    }
put_one found path a end (Some s) [] is w b h =
    let below = b s refl in
    record {
      ranges = (omega arith, omega arith, omega arith, omega arith);
      shows = shows_first found path a end s [] is h;
      merged = (tt, tt);
      paths = (one_path_lone path a s, tt);
    }
put_one found path a end (Some s) (r ∷ rs) is w b h = put_range found path a end s r rs (goes_on path a s r) refl is (b s refl) h

flattens : (found : ℕ → Option Spot) (path : PathAt) (end : ℕ) → ((x : ℕ) (s : Spot) → x < end → found x ≡ Some s → s.offset < 2 ^ 64) → (a n : ℕ) → a + n ≡ end
    → Flattens found path a end (ranges_from found path a n)
unfolding ranges_from
flattens found path end b a zero e = record { ranges = omega arith; shows = λ x l k. absurd (omega arith); merged = tt; paths = tt }
flattens found path end b a (suc n) e =
    put_one found path a end (found a) (ranges_from found path (a + 1) n) refl (omega arith) (λ s is. b a s (omega arith) is)
    (flattens found path end b (a + 1) n (omega arith))

-- what ranges show has offsets below 2^64
shown-below : (from end : ℕ) (rs : List FlatRange) → IsRanges from end rs → (x : ℕ) (s : Spot) → shown rs x ≡ Some s → s.offset < 2 ^ 64
shown-below from end [] h x s e = cc
shown-below from end (r ∷ rs) h x s e =
    ⊎_elim
    (λ past. shown-below (r.last + 1) end rs h.3 x s (sym (shown-later r rs x past) ∙ e))
    (λ low. ⊎_elim
    (λ before. let none : None ≡ Some s = sym (shown-before r.start end (r ∷ rs) x (omega arith, h.1, h.2, h.3) before) ∙ e in cc)
    (λ within.
    let here = some_same _ _ (sym (shown-first r rs x within low) ∙ e) in
    let offset : r.offset + (x - r.start) ≡ s.offset = ap (λ (t : Spot). t.offset) here in
    let below = h.2 in omega arith)
    (cases_lt x r.start))
    (cases_lt r.last x)

-- where what the search finds has offsets below 2^64, there is a view, and `view_of` makes it
pub IsView-view_of : (f : Forest) (s : SpaceId) → ((x : ℕ) (t : Spot) → x < 2 ^ 64 → look f s x ≡ Some t → t.offset < 2 ^ 64) → IsView f s (view_of f s)
unfolding view_of
IsView-view_of f s below =
    let made = flattens (look f s) (path_at f s) (2 ^ 64) below 0 (2 ^ 64) (omega arith) in
    record { agrees = record { ranges = made.ranges; shows = λ a l. made.shows a (omega arith) l; paths = made.paths }; merged = made.merged }

-- the view, where there is one: it is what `view_of` makes
pub view_of-is : (f : Forest) (s : SpaceId) (rs : List FlatRange) → IsView f s rs → view_of f s ≡ rs
view_of-is f s rs v =
    let below : (x : ℕ) (t : Spot) → x < 2 ^ 64 → look f s x ≡ Some t → t.offset < 2 ^ 64
    = λ x t l e. shown-below 0 (2 ^ 64) rs v.agrees.ranges x t (v.agrees.shows x l ∙ e) in
    IsView-unique f s (view_of f s) rs (IsView-view_of f s below) v

-- a space that is not there shows nothing
pub view_of-no_space : (f : Forest) (s : SpaceId) → root_of f s ≡ None → view_of f s ≡ []
view_of-no_space f s none =
    view_of-is f s []
    (record {
      agrees = record {
        ranges = omega arith;
        shows = λ a l. sym (ap (λ o. spot_of (option_and_then (λ r. found_in f most_depth r a) o)) none);
        paths = tt;
      };
      merged = tt;
    })
