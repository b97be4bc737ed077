use Rattle.std.proofs.Common.{true, false, ◌≡◌, ℕ, ◌+◌, ◌-◌, ◌^◌, ◌<◌, ◌≤◌, List, [], ◌∷◌, ◌++◌, Some, refl, sym, ap, subst}
use Rattle.std.proofs.Common.{◌∙◌, arith, ⊎_elim, zero, suc, length, get_or, set, take, drop, drop_of_length-le}
use Rattle.std.proofs.lemmas.Bool.{cases_lt}
use Rattle.std.proofs.lemmas.List.{drop-set-lt}
use Rattle.std.specs.Option.{option_or}
use Rattle.mem_base.specs.declared.map.spots.Spot.{Spot}
use Rattle.mem_base.specs.declared.map.ids.RegionId.{RegionId}
use Rattle.mem_base.specs.declared.map.spots.Attrs.{Attrs}
use Rattle.mem_base.specs.declared.views.flat.FlatRange.{FlatRange}
use Rattle.mem_base.specs.declared.views.flat.Slice.{Slice}
use Rattle.mem_base.specs.declared.map.forests.Forest.{Forest}
use Rattle.mem_base.specs.declared.map.ids.SpaceId.{SpaceId}
use Rattle.mem_base.specs.lists.Every.{Every}
use Rattle.mem_base.specs.map.Search.{path_at, path_of}
use Rattle.mem_base.specs.views.Slices.{ranges_of, slices_of, path_told, Tells}
use Rattle.mem_base.specs.views.View.{seen, shown, IsRanges, PathAt, IsOnOnePath, Merges, IsMerged, IsView}
use Rattle.mem_base.proofs.SliceLaws.{IsToldOn, told_on, ranges_of-slices_of, Tells-agrees}
use Rattle.mem_base.proofs.EveryLaws.{every_push}
use Rattle.mem_base.proofs.ViewLaws.{spot_at, seen-before, seen-after, seen-within, IsMerged-same, IsOnOnePath-same, shown-injective}
use Rattle.mem_base.proofs.OptionLaws.{or_assoc, or_none}
use Rattle.mem_base.proofs.ListLaws.{drop_next}

-- what stands in for a range that is not there
abbrev pub no_range : FlatRange
no_range = record {
  start = 0;
  last = 0;
  leaf = record { 0 = 0 };
  offset = 0;
  attrs =
      record { readonly = false; nonvolatile = false; romd = false; unmergeable = false; log = 0 };
}

-- the range with a later end
abbrev pub longer : FlatRange → ℕ → FlatRange
longer r last = record r { last = last }

abbrev spot : RegionId → ℕ → Attrs → Spot
spot leaf offset attrs = record { leaf = leaf; offset = offset; attrs = attrs }

same_attrs : (leaf leaf' : RegionId) (o o' : ℕ) (t t' : Attrs) → leaf ≡ leaf' → o ≡ o' → t ≡ t' → Some (spot leaf o t) ≡ Some (spot leaf' o' t')
same_attrs leaf leaf' o o' t t' e f g = cc

-- two ranges that merge show what the one range over both shows
pub seen-merged : (path : PathAt) (r q : FlatRange) (a : ℕ) → Merges path r q → r.start ≤ r.last → q.start ≤ q.last →
    seen (longer r q.last) a ≡ option_or (seen r a) (seen q a)
seen-merged path r q a m l k =
    let at = m.0.0 in
    let of = m.0.2 in
    ⊎_elim
    (λ low. let x = seen-before (longer r q.last) a low in let y = seen-before r a low in let z = seen-before q a (omega arith) in simp (x, y, z))
    (λ high. ⊎_elim
    (λ past. let x = seen-after (longer r q.last) a past in let y = seen-after r a (omega arith) in let z = seen-after q a past in simp (x, y, z))
    (λ inside. ⊎_elim
    (λ second.
    let x = seen-within (longer r q.last) a high inside in
    let y = seen-after r a second in
    let z = seen-within q a (omega arith) inside in
    let same : Some (spot_at (longer r q.last) a) ≡ Some (spot_at q a) = same_attrs r.leaf q.leaf _ _ r.attrs q.attrs (sym m.0.1) (omega arith) (sym m.0.3) in
    x ∙ same ∙ sym z ∙ ap (λ o. option_or o (seen q a)) (sym y))
    (λ first.
    let x = seen-within (longer r q.last) a high inside in
    let y = seen-within r a high first in
    x ∙ ap (λ o. option_or o (seen q a)) (sym y))
    (cases_lt r.last a))
    (cases_lt q.last a))
    (cases_lt a r.start)

shown-push : (rs : List FlatRange) (r : FlatRange) (a : ℕ) → shown (rs ++ r ∷ []) a ≡ option_or (shown rs a) (seen r a)
shown-push [] r a = or_none (seen r a)
shown-push (q ∷ qs) r a = let t = shown-push qs r a in ap (option_or (seen q a)) t ∙ sym (or_assoc (seen q a) (shown qs a) (seen r a))

IsRanges-push : (from mid to : ℕ) (rs : List FlatRange) (r : FlatRange) → IsRanges from mid rs → mid ≤ r.start → r.start ≤ r.last →
    r.offset + (r.last - r.start) < 2 ^ 64 → r.last + 1 ≤ to → IsRanges from to (rs ++ r ∷ [])
IsRanges-push from mid to [] r h l k o t = (omega arith, k, o, t)
IsRanges-push from mid to (q ∷ qs) r h l k o t = (h.0, h.1, h.2, IsRanges-push (q.last + 1) mid to qs r h.3 l k o t)

pub IsRanges-wider : (from mid to : ℕ) (rs : List FlatRange) → IsRanges from mid rs → mid ≤ to → IsRanges from to rs
IsRanges-wider from mid to [] h l = omega arith
IsRanges-wider from mid to (q ∷ qs) h l = (h.0, h.1, h.2, IsRanges-wider (q.last + 1) mid to qs h.3 l)

IsRanges-longer : (from to : ℕ) (rs : List FlatRange) (c : FlatRange) (last : ℕ) → IsRanges from to (rs ++ c ∷ []) → c.start ≤ last →
    c.offset + (last - c.start) < 2 ^ 64 → IsRanges from (last + 1) (rs ++ longer c last ∷ [])
IsRanges-longer from to [] c last h l k = (h.0, l, k, omega arith)
IsRanges-longer from to (q ∷ qs) c last h l k = (h.0, h.1, h.2, IsRanges-longer (q.last + 1) to qs c last h.3 l k)

IsMerged-longer : (path : PathAt) (rs : List FlatRange) (c : FlatRange) (last : ℕ) → IsMerged path (rs ++ c ∷ []) → IsMerged path (rs ++ longer c last ∷ [])
IsMerged-longer path [] c last h = (tt, tt)
IsMerged-longer path (r ∷ []) c last h = (h.0, IsMerged-longer path [] c last h.1)
IsMerged-longer path (r ∷ q ∷ qs) c last h = (h.0, IsMerged-longer path (q ∷ qs) c last h.1)

IsMerged-push : (path : PathAt) (rs : List FlatRange) (c q : FlatRange) → IsMerged path (rs ++ c ∷ []) → (Merges path c q → ⊥) →
    IsMerged path ((rs ++ c ∷ []) ++ q ∷ [])
IsMerged-push path [] c q h k = (k, (tt, tt))
IsMerged-push path (r ∷ []) c q h k = (h.0, IsMerged-push path [] c q h.1 k)
IsMerged-push path (r ∷ s ∷ rs) c q h k = (h.0, IsMerged-push path (s ∷ rs) c q h.1 k)

-- what holds of each range, the last one too
every_last : (P : FlatRange → Type 0) (rs : List FlatRange) (c : FlatRange) → Every P (rs ++ c ∷ []) → P c
every_last P [] c h = h.0
every_last P (r ∷ rs) c h = every_last P rs c h.1

every_other : (P : FlatRange → Type 0) (rs : List FlatRange) (c d : FlatRange) → Every P (rs ++ c ∷ []) → P d → Every P (rs ++ d ∷ [])
every_other P [] c d h k = (k, tt)
every_other P (r ∷ rs) c d h k = (h.0, every_other P rs c d h.1 k)

-- a longer range lies on the one path of both
one_path-longer : (path : PathAt) (c q : FlatRange) → c.start ≤ c.last → q.start ≤ q.last → Merges path c q → IsOnOnePath path c → IsOnOnePath path q →
    IsOnOnePath path (longer c q.last)
one_path-longer path c q k l m h i = λ u a s t.
    let at = m.0.0 in
    ⊎_elim
    (λ second.
    let v : q.attrs.unmergeable ≡ true = ap (λ (x : Attrs). x.unmergeable) m.0.3 ∙ u in
    i v a (omega arith) t ∙ m.1 u ∙ h u c.last k (omega arith))
    (λ first. h u a s first)
    (cases_lt c.last a)

-- each of these ranges is found on the path beside it
abbrev pub AreFoundOn : PathAt → List FlatRange → List (List RegionId) → Type 0
AreFoundOn path [] ps = Unit {0}
AreFoundOn path (r ∷ rs) [] = ⊥
AreFoundOn path (r ∷ rs) (p ∷ ps) = ((a : ℕ) → r.start ≤ a → a ≤ r.last → path a ≡ p) × AreFoundOn path rs ps

found_on : (path : PathAt) (rs : List FlatRange) (ps : List (List RegionId)) → length ps ≡ length rs → Every (IsToldOn path) (slices_of rs ps) →
    AreFoundOn path rs ps
found_on path [] ps e h = tt
found_on path (r ∷ rs) [] e h = absurd (omega arith)
found_on path (r ∷ rs) (p ∷ ps) e h = (h.0, found_on path rs ps (omega arith) h.1)

one_path-found : (path : PathAt) (r : FlatRange) (p : List RegionId) → r.start ≤ r.last → ((a : ℕ) → r.start ≤ a → a ≤ r.last → path a ≡ p) → IsOnOnePath path r
one_path-found path r p k h = λ u a s t. h a s t ∙ sym (h r.start (omega arith) k)

last_nonempty : (from to : ℕ) (rs : List FlatRange) (c : FlatRange) → IsRanges from to (rs ++ c ∷ []) → c.start ≤ c.last
last_nonempty from to [] c h = h.1
last_nonempty from to (q ∷ qs) c h = last_nonempty (q.last + 1) to qs c h.3

-- the ranges that are done, the current one and those ahead show what all showed
pub record IsMerging (path : PathAt) (all done : List FlatRange) (current : FlatRange) (here : List RegionId) (rest : List FlatRange)
    (paths : List (List RegionId)) : Type 0 where
  pub ranges : IsRanges 0 (current.last + 1) (done ++ current ∷ [])
  pub ahead : IsRanges (current.last + 1) (2 ^ 64) rest
  pub merged : IsMerged path (done ++ current ∷ [])
  pub one : Every (IsOnOnePath path) (done ++ current ∷ [])
  pub at : path current.last ≡ here
  pub found : AreFoundOn path rest paths
  pub same : (a : ℕ) → option_or (shown (done ++ current ∷ []) a) (shown rest a) ≡ shown all a

pub current_nonempty : (path : PathAt) (all done : List FlatRange) (current : FlatRange) (here : List RegionId) (rest : List FlatRange)
    (paths : List (List RegionId)) → IsMerging path all done current here rest paths → current.start ≤ current.last
current_nonempty path all done current here rest paths h = last_nonempty 0 (current.last + 1) done current h.ranges

merging_longer : (path : PathAt) (all done : List FlatRange) (c q : FlatRange) (here p : List RegionId) (rest : List FlatRange) (ps : List (List RegionId)) →
    IsMerging path all done c here (q ∷ rest) (p ∷ ps) → Merges path c q → IsMerging path all done (longer c q.last) p rest ps
merging_longer path all done c q here p rest ps h m =
    let l = current_nonempty path all done c here (q ∷ rest) (p ∷ ps) h in
    let k = h.ahead.1 in
    let fits = h.ahead.2 in
    let at = m.0.0 in
    let of = m.0.2 in
    record {
      ranges = IsRanges-longer 0 (c.last + 1) done c q.last h.ranges (omega arith) (omega arith);
      ahead = h.ahead.3;
      merged = IsMerged-longer path done c q.last h.merged;
      one = every_other (IsOnOnePath path) done c (longer c q.last) h.one
          (one_path-longer path c q l k m (every_last (IsOnOnePath path) done c h.one) (one_path-found path q p k h.found.0));
      at = h.found.0 q.last k (omega arith);
      found = h.found.1;
      same = λ a.
          ap (λ o. option_or o (shown rest a)) (shown-push done (longer c q.last) a ∙ ap (option_or (shown done a)) (seen-merged path c q a m l k)
          ∙ sym (or_assoc (shown done a) (seen c a) (seen q a)) ∙ ap (λ o. option_or o (seen q a)) (sym (shown-push done c a)))
          ∙ or_assoc (shown (done ++ c ∷ []) a) (seen q a) (shown rest a)
          ∙ h.same a;
    }

merging_next : (path : PathAt) (all done : List FlatRange) (c q : FlatRange) (here p : List RegionId) (rest : List FlatRange) (ps : List (List RegionId)) →
    IsMerging path all done c here (q ∷ rest) (p ∷ ps) → (Merges path c q → ⊥) → IsMerging path all (done ++ c ∷ []) q p rest ps
merging_next path all done c q here p rest ps h m = record {
  ranges = IsRanges-push 0 (c.last + 1) (q.last + 1) (done ++ c ∷ []) q h.ranges h.ahead.0 h.ahead.1 h.ahead.2 (omega arith);
  ahead = h.ahead.3;
  merged = IsMerged-push path done c q h.merged m;
  one = every_push (IsOnOnePath path) (done ++ c ∷ []) q h.one (one_path-found path q p h.ahead.1 h.found.0);
  at = h.found.0 q.last h.ahead.1 (omega arith);
  found = h.found.1;
  same = λ a.
      ap (λ o. option_or o (shown rest a)) (shown-push (done ++ c ∷ []) q a)
      ∙ or_assoc (shown (done ++ c ∷ []) a) (seen q a) (shown rest a)
      ∙ h.same a;
}

-- the next range and its path are looked at
next_ahead : (path : PathAt) (all done : List FlatRange) (c : FlatRange) (here : List RegionId) (now : List FlatRange) (paths : List (List RegionId)) (i : ℕ)
    (d : FlatRange) → i < length now → i < length paths → IsMerging path all done c here (drop i now) (drop i paths)
    → IsMerging path all done c here (get_or now i d ∷ drop (i + 1) now) (get_or paths i [] ∷ drop (i + 1) paths)
next_ahead path all done c here now paths i d l k h =
    subst (λ ps. IsMerging path all done c here (get_or now i d ∷ drop (i + 1) now) ps) (drop_next paths i [] k)
    (subst (λ rs. IsMerging path all done c here rs (drop i paths)) (drop_next now i d l) h)

-- the paths at the end of the current range and at the start of the next one
pub paths_meet : (path : PathAt) (all done : List FlatRange) (c : FlatRange) (here : List RegionId) (now : List FlatRange) (paths : List (List RegionId))
    (i : ℕ) (d : FlatRange) → i < length now → i < length paths → IsMerging path all done c here (drop i now) (drop i paths)
    → (path c.last ≡ here) × (path (get_or now i d).start ≡ get_or paths i [])
paths_meet path all done c here now paths i d l k h =
    let w = next_ahead path all done c here now paths i d l k h in
    (w.at, w.found.0 (get_or now i d).start (omega arith) w.ahead.1)

-- the next range goes on where the current one ends
pub turn_longer : (path : PathAt) (all now : List FlatRange) (paths : List (List RegionId)) (kept i : ℕ) (c : FlatRange) (here : List RegionId)
    (d : FlatRange) → i < length now → i < length paths → IsMerging path all (take kept now) c here (drop i now) (drop i paths) →
    Merges path c (get_or now i d)
    → IsMerging path all (take kept now) (longer c (get_or now i d).last) (get_or paths i []) (drop (i + 1) now) (drop (i + 1) paths)
turn_longer path all now paths kept i c here d l k h m =
    merging_longer path all (take kept now) c (get_or now i d) here (get_or paths i []) (drop (i + 1) now) (drop (i + 1) paths)
    (next_ahead path all (take kept now) c here now paths i d l k h) m

take-set-next : (now : List FlatRange) (kept : ℕ) (c : FlatRange) → kept < length now → take (kept + 1) (set now kept c) ≡ take kept now ++ c ∷ []
take-set-next [] kept c l = absurd (omega arith)
take-set-next (x ∷ xs) zero c l = refl
take-set-next (x ∷ xs) (suc kept) c l =
    let t = take-set-next xs kept c (omega arith) in
    let at : suc kept + 1 ≡ suc (kept + 1) = omega arith in
    ap (λ j. take j (x ∷ set xs kept c)) at ∙ ap (λ l. x ∷ l) t

-- the next range does not
pub turn_next : (path : PathAt) (all now : List FlatRange) (paths : List (List RegionId)) (kept i : ℕ) (c : FlatRange) (here : List RegionId)
    (d : FlatRange) → i < length now → i < length paths → kept < i → IsMerging path all (take kept now) c here (drop i now) (drop i paths) →
    (Merges path c (get_or now i d) → ⊥)
    → IsMerging path all (take (kept + 1) (set now kept c)) (get_or now i d) (get_or paths i []) (drop (i + 1) (set now kept c)) (drop (i + 1) paths)
turn_next path all now paths kept i c here d l k b h m =
    let step = merging_next path all (take kept now) c (get_or now i d) here (get_or paths i []) (drop (i + 1) now) (drop (i + 1) paths)
    (next_ahead path all (take kept now) c here now paths i d l k h) m in
    let p = get_or paths i [] in
    let ps = drop (i + 1) paths in
    let step' : IsMerging path all (take (kept + 1) (set now kept c)) (get_or now i d) p (drop (i + 1) now) ps =
    subst (λ rs. IsMerging path all rs (get_or now i d) p (drop (i + 1) now) ps) (sym (take-set-next now kept c (omega arith))) step in
    subst (λ rs. IsMerging path all (take (kept + 1) (set now kept c)) (get_or now i d) p rs ps) (sym (drop-set-lt (i + 1) now kept c (omega arith))) step'

-- the first range
merging_one : (path : PathAt) (all : List FlatRange) (paths : List (List RegionId)) (d : FlatRange) → 0 < length all → length paths ≡ length all →
    IsRanges 0 (2 ^ 64) all → AreFoundOn path all paths → IsMerging path all (take 0 all) (get_or all 0 d) (get_or paths 0 []) (drop 1 all) (drop 1 paths)
merging_one path [] ps d l e h k = absurd (omega arith)
merging_one path (r ∷ rs) [] d l e h k = absurd (omega arith)
merging_one path (r ∷ rs) (p ∷ ps) d l e h k = record {
  ranges = (h.0, h.1, h.2, omega arith);
  ahead = h.3;
  merged = (tt, tt);
  one = (one_path-found path r p h.1 k.0, tt);
  at = k.0 r.last h.1 (omega arith);
  found = k.1;
  same = λ a. ap (λ o. option_or o (shown rs a)) (or_none (seen r a));
}

-- each range is found on the path beside it
all_found : (all : List FlatRange) (paths : List (List RegionId)) → length paths ≡ length all → IsRanges 0 (2 ^ 64) all →
    AreFoundOn (path_told (slices_of all paths)) all paths
all_found all paths e h =
    let ranges : IsRanges 0 (2 ^ 64) (ranges_of (slices_of all paths)) = subst (λ rs. IsRanges 0 (2 ^ 64) rs) (sym (ranges_of-slices_of all paths e)) h in
    found_on (path_told (slices_of all paths)) all paths e (told_on (path_told (slices_of all paths)) 0 (2 ^ 64) (slices_of all paths) ranges (λ a l k. refl))

pub merging_first : (all : List FlatRange) (paths : List (List RegionId)) (d : FlatRange) → 0 < length all → length paths ≡ length all →
    IsRanges 0 (2 ^ 64) all → IsMerging (path_told (slices_of all paths)) all (take 0 all) (get_or all 0 d) (get_or paths 0 []) (drop 1 all) (drop 1 paths)
merging_first all paths d l e h = merging_one (path_told (slices_of all paths)) all paths d l e h (all_found all paths e h)

-- what stands in the slice at the end
pub record IsDone (path : PathAt) (all out : List FlatRange) : Type 0 where
  pub ranges : IsRanges 0 (2 ^ 64) out
  pub merged : IsMerged path out
  pub paths : Every (IsOnOnePath path) out
  pub shown : (a : ℕ) → shown out a ≡ shown all a

pub merging_last : (path : PathAt) (all now : List FlatRange) (paths : List (List RegionId)) (kept i : ℕ) (c : FlatRange) (here : List RegionId) →
    length now ≤ i → kept < length now → IsMerging path all (take kept now) c here (drop i now) (drop i paths) →
    IsDone path all (take (kept + 1) (set now kept c))
merging_last path all now paths kept i c here l k h =
    let none : drop i now ≡ [] = drop_of_length-le now l in
    let h' : IsMerging path all (take kept now) c here [] (drop i paths) = subst (λ rs. IsMerging path all (take kept now) c here rs (drop i paths)) none h in
    subst (λ out. IsDone path all out) (sym (take-set-next now kept c k)) (record {
      ranges = IsRanges-wider 0 (c.last + 1) (2 ^ 64) (take kept now ++ c ∷ []) h'.ranges h'.ahead;
      merged = h'.merged;
      paths = h'.one;
      shown = λ a. sym (or_none (shown (take kept now ++ c ∷ []) a)) ∙ h'.same a;
    })

-- the same turn, with the names that stand for what was done
pub turned : (path : PathAt) (all now now' : List FlatRange) (paths : List (List RegionId)) (kept kept' : ℕ) (c c' : FlatRange) (here here' : List RegionId)
    (i : ℕ) → now' ≡ now → kept' ≡ kept → c' ≡ c → here' ≡ here → IsMerging path all (take kept now) c here (drop i now) (drop i paths) →
    IsMerging path all (take kept' now') c' here' (drop i now') (drop i paths)
turned path all now now' paths kept kept' c c' here here' i e f g j h =
    subst (λ x. IsMerging path all (take kept' now') c' x (drop i now') (drop i paths)) (sym j)
    (subst (λ x. IsMerging path all (take kept' now') x here (drop i now') (drop i paths)) (sym g)
    (subst (λ k. IsMerging path all (take k now') c here (drop i now') (drop i paths)) (sym f)
    (subst (λ n. IsMerging path all (take kept n) c here (drop i n) (drop i paths)) (sym e) h)))

-- no other ranges show the same and are merged
only_merged : (path : PathAt) (all out other : List FlatRange) → IsRanges 0 (2 ^ 64) out → IsMerged path out → Every (IsOnOnePath path) out →
    ((a : ℕ) → shown out a ≡ shown all a) → IsRanges 0 (2 ^ 64) other → IsMerged path other → Every (IsOnOnePath path) other →
    ((a : ℕ) → a < 2 ^ 64 → shown other a ≡ shown all a) → other ≡ out
only_merged path all out other r m o s h n p e = shown-injective path 0 (2 ^ 64) other out h r n m p o (λ a l. e a l ∙ sym (s a))

-- where the slices tell what the search finds, the merged ranges are the view
view_merged : (f : Forest) (s : SpaceId) (xs : List Slice) (out : List FlatRange) → IsRanges 0 (2 ^ 64) out → IsMerged (path_told xs) out →
    Every (IsOnOnePath (path_told xs)) out → ((a : ℕ) → shown out a ≡ shown (ranges_of xs) a) → Tells f s xs → IsView f s out
view_merged f s xs out r m o e t =
    let same : (a : ℕ) → a < 2 ^ 64 → path_told xs a ≡ path_at f s a = λ a l. ap path_of (t.tells a l) in
    record {
      agrees = record {
        ranges = r;
        shows = λ a l. e a ∙ (Tells-agrees f s xs t).shows a l;
        paths = IsOnOnePath-same (path_told xs) (path_at f s) 0 (2 ^ 64) out r same o;
      };
      merged = IsMerged-same (path_told xs) (path_at f s) 0 (2 ^ 64) out r same m;
    }

-- what the merged ranges of some slices are
pub record IsSimplified (xs : List Slice) (out : List FlatRange) : Type 0 where
  pub ranges : IsRanges 0 (2 ^ 64) out
  pub merged : IsMerged (path_told xs) out
  pub paths : Every (IsOnOnePath (path_told xs)) out
  pub shown : (a : ℕ) → shown out a ≡ shown (ranges_of xs) a

pub simplified : (xs : List Slice) (rs : List FlatRange) (ps qs : List (List RegionId)) (out view : List FlatRange) → xs ≡ slices_of rs ps →
    length ps ≡ length rs → qs ≡ ps → view ≡ out → IsRanges 0 (2 ^ 64) out → IsMerged (path_told (slices_of rs qs)) out →
    Every (IsOnOnePath (path_told (slices_of rs qs))) out → ((a : ℕ) → shown out a ≡ shown rs a) → IsSimplified xs view
simplified xs rs ps qs out view e l q v h m o s =
    let same : slices_of rs qs ≡ xs = ap (slices_of rs) q ∙ sym e in
    subst (λ v. IsSimplified xs v) (sym v) (record {
      ranges = h;
      merged = subst (λ ys. IsMerged (path_told ys) out) same m;
      paths = subst (λ ys. Every (IsOnOnePath (path_told ys)) out) same o;
      shown = λ a. s a ∙ ap (λ rs. shown rs a) (sym (ranges_of-slices_of rs ps l) ∙ ap ranges_of (sym e));
    })

pub only_simplified : (xs : List Slice) (out other : List FlatRange) → IsSimplified xs out → IsRanges 0 (2 ^ 64) other → IsMerged (path_told xs) other →
    Every (IsOnOnePath (path_told xs)) other → ((a : ℕ) → a < 2 ^ 64 → shown other a ≡ shown (ranges_of xs) a) → other ≡ out
only_simplified xs out other s h m p e = only_merged (path_told xs) (ranges_of xs) out other s.ranges s.merged s.paths s.shown h m p e

pub view_simplified : (f : Forest) (s : SpaceId) (xs : List Slice) (out : List FlatRange) → IsSimplified xs out → Tells f s xs → IsView f s out
view_simplified f s xs out h t = view_merged f s xs out h.ranges h.merged h.paths h.shown t
