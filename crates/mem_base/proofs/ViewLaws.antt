-- Laws of views: what they show before, within and after their ranges, and that one list of ranges shows it.
use Rattle.std.proofs.Common.{◌≡◌, ℕ, ◌+◌, ◌-◌, ◌^◌, ◌<◌, ◌≤◌, true, false, List, [], ◌∷◌, Some, None, refl, sym, ap, subst, ◌∙◌, arith, ⊎_elim, eq-eqb, ne_eqb, ◌++◌, Option}
use Rattle.std.proofs.lemmas.Bool.{cases_lt}
use Rattle.std.proofs.lemmas.Bool.Decides.{nat_tests}
use Rattle.mem_base.specs.declared.map.forests.Forest.{Forest}
use Rattle.mem_base.specs.declared.map.ids.SpaceId.{SpaceId}
use Rattle.mem_base.specs.declared.map.spots.Spot.{Spot}
use Rattle.mem_base.specs.declared.map.ids.RegionId.{RegionId}
use Rattle.mem_base.specs.declared.map.spots.Attrs.{Attrs}
use Rattle.mem_base.specs.declared.views.flat.FlatRange.{FlatRange}
use Rattle.mem_base.specs.lists.Every.{Every}
use Rattle.mem_base.specs.map.Search.{path_at}
use Rattle.mem_base.specs.views.View.{holds, seen, shown, IsRanges, PathAt, IsOnOnePath, Merges, MergesNot, IsMerged, IsView}
use Rattle.mem_base.specs.views.Walk.{is_same_range}
use Rattle.mem_base.proofs.BoolLaws.{bool_itself}
use Rattle.std.specs.Option.{option_or}

abbrev pub spot_at : FlatRange → ℕ → Spot
spot_at r a = record { leaf = r.leaf; offset = r.offset + (a - r.start); attrs = r.attrs }

pub seen-outside : (r : FlatRange) (a : ℕ) → holds r a ≡ false → seen r a ≡ None
seen-outside r a t = simp t

pub seen-within : (r : FlatRange) (a : ℕ) → r.start ≤ a → a ≤ r.last → seen r a ≡ Some (spot_at r a)
seen-within r a l k = let t : holds r a ≡ true = grind (arith, nat_tests) in simp t

pub seen-before : (r : FlatRange) (a : ℕ) → a < r.start → seen r a ≡ None
seen-before r a l = seen-outside r a (grind (arith, nat_tests))

pub seen-after : (r : FlatRange) (a : ℕ) → r.last < a → seen r a ≡ None
seen-after r a l = seen-outside r a (grind (arith, nat_tests))

-- nothing is shown before the first range
pub shown-before : (from end : ℕ) (rs : List FlatRange) (a : ℕ) → IsRanges from end rs → a < from → shown rs a ≡ None
shown-before from end [] a h l = refl
shown-before from end (r ∷ rs) a h l =
    let first : seen r a ≡ None = let k = h.0 in seen-before r a (omega arith) in
    let others = shown-before (r.last + 1) end rs a h.3 (let k = h.0 in let m = h.1 in omega arith) in
    simp (first, others)

pub IsRanges-within : (from end : ℕ) (rs : List FlatRange) → IsRanges from end rs → from ≤ end
IsRanges-within from end [] h = h
IsRanges-within from end (r ∷ rs) h = let w = IsRanges-within (r.last + 1) end rs h.3 in let k = h.0 in let m = h.1 in omega arith

-- nothing is shown past the last range
pub shown-past : (from end : ℕ) (rs : List FlatRange) (a : ℕ) → IsRanges from end rs → end ≤ a → shown rs a ≡ None
shown-past from end [] a h l = refl
shown-past from end (r ∷ rs) a h l =
    let w = IsRanges-within (r.last + 1) end rs h.3 in
    let first : seen r a ≡ None = seen-after r a (omega arith) in
    let others = shown-past (r.last + 1) end rs a h.3 l in
    simp (first, others)

-- the first range shows itself
pub shown-first : (r : FlatRange) (rs : List FlatRange) (a : ℕ) → r.start ≤ a → a ≤ r.last → shown (r ∷ rs) a ≡ Some (spot_at r a)
shown-first r rs a l k = let t = seen-within r a l k in simp t

-- past the first range the others show
pub shown-later : (r : FlatRange) (rs : List FlatRange) (a : ℕ) → r.last < a → shown (r ∷ rs) a ≡ shown rs a
shown-later r rs a l = let t = seen-after r a l in simp t

-- what is shown at the first address of all is shown by a range that starts there
starts_at : (from end : ℕ) (rs : List FlatRange) (s : Spot) → IsRanges from end rs → shown rs from ≡ Some s → (q : FlatRange) × (qs : List FlatRange)
    × (rs ≡ q ∷ qs) × (q.start ≡ from) × (spot_at q from ≡ s)
starts_at from end [] s h e = cc
starts_at from end (q ∷ qs) s h e =
    let k = h.0 in let m = h.1 in
    ⊎_elim
    (λ low. let none = shown-before q.start end (q ∷ qs) from ((omega arith, h.1, h.2, h.3)) low in let e' : None ≡ Some s = sym none ∙ e in cc)
    (λ high.
    let at : q.start ≡ from = omega arith in
    let here = shown-first q qs from (omega arith) (omega arith) in
    let both : Some (spot_at q from) ≡ Some s = sym here ∙ e in
    (q, qs, refl, at, cc))
    (cases_lt from q.start)

pub spot_leaf : (x y : Spot) → x ≡ y → (x.leaf ≡ y.leaf) × (x.offset ≡ y.offset) × (x.attrs ≡ y.attrs)
spot_leaf x y e = (ap (λ (s : Spot). s.leaf) e, ap (λ (s : Spot). s.offset) e, ap (λ (s : Spot). s.attrs) e)

pub some_same : (x y : Spot) → Some x ≡ Some y → x ≡ y
some_same x y e = cc

-- one list cannot stop short in a range of the other
stops : (path : PathAt) (end : ℕ) (r : FlatRange) (rs : List FlatRange) (q : FlatRange) (qs : List FlatRange) → IsRanges (r.last + 1) end rs →
    IsMerged path (r ∷ rs) → IsOnOnePath path q → r.start ≡ q.start → r.start ≤ r.last → spot_at r r.start ≡ spot_at q r.start → r.last < q.last →
    shown (r ∷ rs) (r.last + 1) ≡ shown (q ∷ qs) (r.last + 1) → ⊥
stops path end r rs q qs h m one st ne sp l e =
    let here : shown (q ∷ qs) (r.last + 1) ≡ Some (spot_at q (r.last + 1)) = shown-first q qs (r.last + 1) (omega arith) (omega arith) in
    let there : shown rs (r.last + 1) ≡ Some (spot_at q (r.last + 1)) = sym (shown-later r rs (r.last + 1) (omega arith)) ∙ e ∙ here in
    let next = starts_at (r.last + 1) end rs (spot_at q (r.last + 1)) h there in
    let x = next.0 in
    let first = spot_leaf _ _ sp in
    let second = spot_leaf _ _ next.4 in
    let at = next.3 in
    let o1 : r.offset ≡ q.offset = let o = first.1 in omega arith in
    let o2 : x.offset ≡ r.offset + (x.start - r.start) = let o = second.1 in omega arith in
    let lf : x.leaf ≡ r.leaf = second.0 ∙ sym first.0 in
    let at' : x.attrs ≡ r.attrs = second.2 ∙ sym first.2 in
    let apart : MergesNot path r (x ∷ next.1) = subst (MergesNot path r) next.2 m.0 in
    let same : r.attrs.unmergeable ≡ true → path x.start ≡ path r.last = λ u.
    let v : q.attrs.unmergeable ≡ true = ap (λ (t : Attrs). t.unmergeable) (sym first.2) ∙ u in
    one v x.start (omega arith) (omega arith) ∙ sym (one v r.last (omega arith) (omega arith)) in
    apart ((at, lf, o2, at'), same)

abbrev range_of : ℕ → ℕ → RegionId → ℕ → Attrs → FlatRange
range_of start last leaf offset attrs = record { start = start; last = last; leaf = leaf; offset = offset; attrs = attrs }

same_range : (r q : FlatRange) → r.start ≡ q.start → r.last ≡ q.last → r.leaf ≡ q.leaf → r.offset ≡ q.offset → r.attrs ≡ q.attrs → r ≡ q
same_range r q a b c d e =
    let p : range_of r.start r.last r.leaf r.offset r.attrs ≡ range_of q.start q.last q.leaf q.offset q.attrs = cc in p

-- a range that shows something is not matched by no range
shows_something : (from end : ℕ) (q : FlatRange) (qs : List FlatRange) → IsRanges from end (q ∷ qs) → ((a : ℕ) → a < end → None ≡ shown (q ∷ qs) a) → ⊥
shows_something from end q qs k e =
    let w = IsRanges-within (q.last + 1) end qs k.3 in let l = k.1 in
    let here = shown-first q qs q.start (omega arith) (omega arith) in
    let there = e q.start (omega arith) in
    let both : None ≡ Some (spot_at q q.start) = there ∙ here in cc

-- one list cannot begin before the other
begins : (from end : ℕ) (r : FlatRange) (rs : List FlatRange) (q : FlatRange) (qs : List FlatRange) → IsRanges from end (r ∷ rs) →
    IsRanges from end (q ∷ qs) → ((a : ℕ) → a < end → shown (r ∷ rs) a ≡ shown (q ∷ qs) a) → q.start ≤ r.start
begins from end r rs q qs h k e =
    ⊎_elim
    (λ low.
    let w = IsRanges-within (r.last + 1) end rs h.3 in let l = h.1 in
    let here = shown-first r rs r.start (omega arith) (omega arith) in
    let none = shown-before q.start end (q ∷ qs) r.start (omega arith, k.1, k.2, k.3) low in
    let both : None ≡ Some (spot_at r r.start) = sym none ∙ sym (e r.start (omega arith)) ∙ here in cc)
    (λ high. high)
    (cases_lt r.start q.start)

-- two lists that show the same, of which no neighbours merge, are the same
pub shown-injective : (path : PathAt) (from end : ℕ) (rs qs : List FlatRange) → IsRanges from end rs → IsRanges from end qs → IsMerged path rs →
    IsMerged path qs → Every (IsOnOnePath path) rs → Every (IsOnOnePath path) qs → ((a : ℕ) → a < end → shown rs a ≡ shown qs a) → rs ≡ qs
shown-injective path from end [] [] h k m n i j e = refl
shown-injective path from end [] (q ∷ qs) h k m n i j e = absurd (shows_something from end q qs k e)
shown-injective path from end (r ∷ rs) [] h k m n i j e = absurd (shows_something from end r rs h (λ a l. sym (e a l)))
shown-injective path from end (r ∷ rs) (q ∷ qs) h k m n i j e =
    let back : (a : ℕ) → a < end → shown (q ∷ qs) a ≡ shown (r ∷ rs) a = λ a l. sym (e a l) in
    let low = begins from end r rs q qs h k e in
    let high = begins from end q qs r rs k h back in
    let st : r.start ≡ q.start = omega arith in
    let w = IsRanges-within (r.last + 1) end rs h.3 in
    let v = IsRanges-within (q.last + 1) end qs k.3 in
    let hl = h.1 in let kl = k.1 in
    let sp : spot_at r r.start ≡ spot_at q r.start =
    some_same _ _ (sym (shown-first r rs r.start (omega arith) (omega arith)) ∙ e r.start (omega arith)
    ∙ shown-first q qs r.start (omega arith) (omega arith)) in
    let sp' : spot_at q q.start ≡ spot_at r q.start = subst (λ x. spot_at q x ≡ spot_at r x) st (sym sp) in
    let parts = spot_leaf _ _ sp in
    let of : r.offset ≡ q.offset = let o = parts.1 in omega arith in
    let la : r.last ≡ q.last =
    ⊎_elim
    (λ less. absurd (stops path end r rs q qs h.3 m j.0 st hl sp less (e (r.last + 1) (omega arith))))
    (λ more. ⊎_elim
    (λ less. absurd (stops path end q qs r rs k.3 n i.0 (sym st) kl sp' less (back (q.last + 1) (omega arith))))
    (λ also. omega arith)
    (cases_lt q.last r.last))
    (cases_lt r.last q.last) in
    let same = same_range r q st la parts.0 of parts.2 in
    let k' : IsRanges (r.last + 1) end qs = subst (λ x. IsRanges (x + 1) end qs) (sym la) k.3 in
    let rest : (a : ℕ) → a < end → shown rs a ≡ shown qs a = λ a l.
    ⊎_elim
    (λ low. shown-before (r.last + 1) end rs a h.3 low ∙ sym (shown-before (r.last + 1) end qs a k' low))
    (λ past. sym (shown-later r rs a (omega arith)) ∙ e a l ∙ shown-later q qs a (omega arith))
    (cases_lt a (r.last + 1)) in
    let others = shown-injective path (r.last + 1) end rs qs h.3 k' m.1 n.1 i.1 j.1 rest in
    cc

-- there is at most one view
pub IsView-unique : (f : Forest) (s : SpaceId) (rs qs : List FlatRange) → IsView f s rs → IsView f s qs → rs ≡ qs
IsView-unique f s rs qs v w =
    shown-injective (path_at f s) 0 (2 ^ 64) rs qs v.agrees.ranges w.agrees.ranges v.merged w.merged v.agrees.paths w.agrees.paths
    (λ a l. v.agrees.shows a l ∙ sym (w.agrees.shows a l))

-- two ranges merge on paths that are the same at the end of the one and at the start of the other
pub Merges-same : (path other : PathAt) (r q : FlatRange) → path q.start ≡ other q.start → path r.last ≡ other r.last → Merges path r q → Merges other r q
Merges-same path other r q e f m = (m.0, λ u. sym e ∙ m.1 u ∙ f)

-- ranges are merged on paths that are the same at each address
pub IsMerged-same : (path other : PathAt) (from end : ℕ) (rs : List FlatRange) → IsRanges from end rs → ((a : ℕ) → a < end → path a ≡ other a) →
    IsMerged path rs → IsMerged other rs
IsMerged-same path other from end [] h e m = tt
IsMerged-same path other from end (r ∷ []) h e m = (tt, tt)
IsMerged-same path other from end (r ∷ q ∷ qs) h e m =
    let w = IsRanges-within (q.last + 1) end qs h.3.3 in
    let k = h.3.0 in let l = h.3.1 in (
      λ n. m.0 (Merges-same other path r q (sym (e q.start (omega arith))) (sym (e r.last (omega arith))) n),
      IsMerged-same path other (r.last + 1) end (q ∷ qs) h.3 e m.1,
    )

pub IsOnOnePath-same : (path other : PathAt) (from end : ℕ) (rs : List FlatRange) → IsRanges from end rs → ((a : ℕ) → a < end → path a ≡ other a) →
    Every (IsOnOnePath path) rs → Every (IsOnOnePath other) rs
IsOnOnePath-same path other from end [] h e m = tt
IsOnOnePath-same path other from end (r ∷ rs) h e m =
    let w = IsRanges-within (r.last + 1) end rs h.3 in
    (λ u a k l. sym (e a (omega arith)) ∙ m.0 u a k l ∙ e r.start (omega arith), IsOnOnePath-same path other (r.last + 1) end rs h.3 e m.1)

pub ranges_past : (from end a : ℕ) (rs : List FlatRange) → a < from → IsRanges from end rs → Every (λ q. a < q.start) rs
ranges_past from end a [] l h = tt
ranges_past from end a (r ∷ rs) l h = let m = h.0 in let n = h.1 in (omega arith, ranges_past (r.last + 1) end a rs (omega arith) h.3)

pub same_itself : (r : FlatRange) → is_same_range r r ≡ true
same_itself r = rw (
  eq-eqb r.start r.start refl,
  eq-eqb r.last r.last refl,
  eq-eqb r.leaf.0 r.leaf.0 refl,
  eq-eqb r.offset r.offset refl,
  bool_itself r.attrs.readonly,
  bool_itself r.attrs.nonvolatile,
  bool_itself r.attrs.romd,
  bool_itself r.attrs.unmergeable,
) refl

pub not_same : (r q : FlatRange) → (r.start ≡ q.start → ⊥) → is_same_range r q ≡ false
not_same r q ne = rw (ne_eqb r.start q.start ne) refl

pub IsRanges-from : (low from end : ℕ) (rs : List FlatRange) → low ≤ from → IsRanges from end rs → IsRanges low end rs
IsRanges-from low from end [] l h = omega (arith, h)
IsRanges-from low from end (r ∷ rs) l h = (let k = h.0 in omega arith, h.1, h.2, h.3)

pub ranges_join : (from mid end : ℕ) (xs ys : List FlatRange) → IsRanges from mid xs → IsRanges mid end ys → IsRanges from end (xs ++ ys)
ranges_join from mid end [] [] h k = omega (arith, h, k)
ranges_join from mid end [] (y ∷ ys) h k = (omega (arith, h, k.0), k.1, k.2, k.3)
ranges_join from mid end (x ∷ xs) ys h k = (h.0, h.1, h.2, ranges_join (x.last + 1) mid end xs ys h.3 k)

pub shown_join : (xs ys : List FlatRange) (a : ℕ) → shown (xs ++ ys) a ≡ option_or (shown xs a) (shown ys a)
shown_join [] ys a = refl
shown_join (x ∷ xs) ys a = ap (option_or (seen x a)) (shown_join xs ys a) ∙ again (seen x a) (shown xs a) (shown ys a)
  where
    again : (o p q : Option Spot) → option_or o (option_or p q) ≡ option_or (option_or o p) q
    again None p q = refl
    again (Some s) p q = refl
