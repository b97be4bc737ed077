-- From the run of an address in a view, as its atlas tells it, to the stretch of addresses that find the same thing.
use Rattle.std.proofs.Common.{◌≡◌, ℕ, ◌+◌, ◌-◌, ◌^◌, ◌<◌, ◌≤◌, min, Bool, true, false, List, [], ◌∷◌, Option, Some, None}
use Rattle.std.proofs.Common.{sym, refl, ap, ◌∙◌, subst, arith, ◌⊎◌, inl, inr}
use Rattle.std.specs.Prelude.{option_map, IfSome}
use Rattle.std.proofs.lemmas.Bool.{cases_lt}
use Rattle.mem_base.specs.declared.map.ids.RegionId.{RegionId}
use Rattle.mem_base.specs.declared.map.ids.SpaceId.{SpaceId}
use Rattle.mem_base.specs.declared.map.forests.Forest.{Forest}
use Rattle.mem_base.specs.declared.map.spots.Attrs.{Attrs}
use Rattle.mem_base.specs.declared.map.spots.Spot.{Spot}
use Rattle.mem_base.specs.declared.views.flat.FlatRange.{FlatRange}
use Rattle.mem_base.specs.lists.Every.{Every}
use Rattle.mem_base.specs.map.Search.{Found, found_at, spot_of, path_of, look}
use Rattle.mem_base.specs.views.View.{shown, IsRanges, PathAt, IsOnOnePath, IsMerged, IsView}
use Rattle.mem_base.proofs.ViewLaws.{spot_at, shown-before, shown-first, shown-later}
use Rattle.mem_base.specs.map.Forest.{IsMade}
use Rattle.mem_base.specs.views.Flattened.{view_of}
use Rattle.generation.proofs.HandedOn.{IsView-made, run_end, run_before, run_past, run_within}
use Rattle.iommu.specs.Ways.{further, is_next_found, joins, IsStretch}
use Rattle.iommu.proofs.FoundLaws.{is_after, next_found, none_found, some_found}

-- what two searches find is joined as the spots and paths are
joined_by : (o p : Option Found) (x y : Found) → o ≡ Some x → p ≡ Some y → joins o p ≡ is_next_found x y
joined_by o p x y e g = ap (λ (o : Option Found). joins o p) e ∙ ap (joins (Some x)) g

-- no two holes part, and a hole is not joined with a spot
joined_none : (o p : Option Found) → o ≡ None → p ≡ None → joins o p ≡ true
joined_none o p e g = ap (λ (o : Option Found). joins o p) e ∙ ap (joins None) g

parted_none : (o p : Option Found) (y : Found) → o ≡ None → p ≡ Some y → joins o p ≡ false
parted_none o p y e g = ap (λ (o : Option Found). joins o p) e ∙ ap (joins None) g

none_parted : (o p : Option Found) (x : Found) → o ≡ Some x → p ≡ None → joins o p ≡ false
none_parted o p x e g = ap (λ (o : Option Found). joins o p) e ∙ ap (joins (Some x)) g

-- a search over some addresses, with the ranges that show what it finds
module _ (found : ℕ → Option Found) where
  abbrev path : PathAt
  path a = path_of (found a)

  -- the ranges show the spots from an address on, and each unmergeable one is on one path
  pub record Shows (from : ℕ) (rs : List FlatRange) : Type 0 where
    pub ranges : IsRanges from (2 ^ 64) rs
    pub merged : IsMerged path rs
    pub paths : Every (IsOnOnePath path) rs
    pub shows : (x : ℕ) → from ≤ x → x < 2 ^ 64 → shown rs x ≡ spot_of (found x)

  shows_later : (from : ℕ) (r : FlatRange) (qs : List FlatRange) → Shows from (r ∷ qs) → Shows (r.last + 1) qs
  shows_later from r qs h =
      let a = h.ranges.0 in
      let b = h.ranges.1 in
      record {
        ranges = h.ranges.3;
        merged = h.merged.1;
        paths = h.paths.1;
        shows = λ x l u. sym (shown-later r qs x (omega arith)) ∙ h.shows x (omega arith) u;
      }

  -- nothing is found where no range is
  none_shown : (from : ℕ) (rs : List FlatRange) (x : ℕ) → Shows from rs → from ≤ x → x < 2 ^ 64 → shown rs x ≡ None → found x ≡ None
  none_shown from rs x h l u e = none_found (found x) (sym (h.shows x l u) ∙ e)

  -- a range is found, on its path
  some_shown : (from : ℕ) (rs : List FlatRange) (x : ℕ) (s : Spot) → Shows from rs → from ≤ x → x < 2 ^ 64 → shown rs x ≡ Some s
      → found x ≡ Some (s, path x)
  some_shown from rs x s h l u e = some_found (found x) s (sym (h.shows x l u) ∙ e)

  stretch_none : (a n limit : ℕ) → 0 < n → n ≤ limit → ((i : ℕ) → i < n → found (a + i) ≡ None)
      → ((i : ℕ) → i + 1 ≡ n → n < limit → (y : Found) × (found (a + (i + 1)) ≡ Some y)) → IsStretch found a n limit
  stretch_none a n limit l k none next =
      let at : a + 0 ≡ a = omega arith in
      let here : found a ≡ None = ap found (sym at) ∙ none 0 l in
      record {
        some = l;
        within = k;
        spots = λ i u. ap spot_of (none i u) ∙ sym (ap (λ (o : Option Found). option_map (further i) (spot_of o)) here);
        joined = λ i u. joined_none (found (a + i)) (found (a + (i + 1))) (none i (omega arith)) (none (i + 1) u);
        parts = λ i p u.
            let y = next i p u in
            parted_none (found (a + i)) (found (a + (i + 1))) y.0 (none i (omega arith)) y.1;
      }

  -- no range is left
  stretch_end : (from a limit : ℕ) → Shows from [] → from ≤ a → 0 < limit → a + limit ≤ 2 ^ 64 → IsStretch found a limit limit
  stretch_end from a limit h l k w =
      stretch_none a limit limit k (omega arith) (λ i u. none_shown from [] (a + i) h (omega arith) (omega arith) refl) (λ i p u. absurd (omega arith))

  -- before the first range
  stretch_hole : (from a n limit : ℕ) (r : FlatRange) (qs : List FlatRange) → Shows from (r ∷ qs) → from ≤ a → a < r.start → 0 < limit → a + limit ≤ 2 ^ 64
      → n ≡ min limit (r.start - a) → IsStretch found a n limit
  stretch_hole from a n limit r qs h l b k w e =
      let ranges : IsRanges r.start (2 ^ 64) (r ∷ qs) = (omega arith, h.ranges.1, h.ranges.2, h.ranges.3) in
      let order = h.ranges.1 in
      stretch_none a n limit (omega arith) (omega arith)
      (λ i u. none_shown from (r ∷ qs) (a + i) h (omega arith) (omega arith) (shown-before r.start (2 ^ 64) (r ∷ qs) (a + i) ranges (omega arith)))
      (λ i p u. (
        (spot_at r (a + (i + 1)), path (a + (i + 1))),
        some_shown from (r ∷ qs) (a + (i + 1)) (spot_at r (a + (i + 1))) h (omega arith) (omega arith)
            (shown-first r qs (a + (i + 1)) (omega arith) (omega arith)),
      ))

  -- what comes after a range is another thing
  after_range : (from : ℕ) (r : FlatRange) (qs : List FlatRange) → Shows from (r ∷ qs) → r.last + 1 < 2 ^ 64
      → joins (found r.last) (found (r.last + 1)) ≡ false
  after_range from r qs h w =
      let low = h.ranges.0 in
      let order = h.ranges.1 in
      let here = some_shown from (r ∷ qs) r.last (spot_at r r.last) h (omega arith) (omega arith) (shown-first r qs r.last order (omega arith)) in
      next qs h.merged (shows_later from r qs h) here
    where
      apart : (q : FlatRange) (qs' : List FlatRange) → IsMerged path (r ∷ q ∷ qs') → q.start ≡ r.last + 1 → r.start ≤ r.last
          → (b : Bool) → is_next_found (spot_at r r.last, path r.last) (spot_at q q.start, path q.start) ≡ b
          → is_next_found (spot_at r r.last, path r.last) (spot_at q q.start, path q.start) ≡ false
      apart q qs' m e order false t = t
      apart q qs' m e order true t =
          let k = is_after (spot_at r r.last, path r.last) (spot_at q q.start, path q.start) t in
          let o : r.offset + (r.last - r.start) + 1 ≡ q.offset + (q.start - q.start) = k.offset in
          absurd (m.0 ((e, k.leaf, omega arith, k.attrs), k.path))

      next : (qs : List FlatRange) → IsMerged path (r ∷ qs) → Shows (r.last + 1) qs → found r.last ≡ Some (spot_at r r.last, path r.last)
          → joins (found r.last) (found (r.last + 1)) ≡ false
      next [] m k here =
          none_parted (found r.last) (found (r.last + 1)) (spot_at r r.last, path r.last) here
          (none_shown (r.last + 1) [] (r.last + 1) k (omega arith) w refl)
      next (q ∷ qs') m k here = by (cases_lt (r.last + 1) q.start)
        where
          by : (r.last + 1 < q.start) ⊎ (q.start ≤ r.last + 1) → joins (found r.last) (found (r.last + 1)) ≡ false
          by (inl l) =
              let ranges : IsRanges q.start (2 ^ 64) (q ∷ qs') = (omega arith, k.ranges.1, k.ranges.2, k.ranges.3) in
              none_parted (found r.last) (found (r.last + 1)) (spot_at r r.last, path r.last) here
              (none_shown (r.last + 1) (q ∷ qs') (r.last + 1) k (omega arith) w (shown-before q.start (2 ^ 64) (q ∷ qs') (r.last + 1) ranges l))
          by (inr l) =
              let up = k.ranges.0 in
              let e : q.start ≡ r.last + 1 = omega arith in
              let there : found q.start ≡ Some (spot_at q q.start, path q.start) =
              some_shown (r.last + 1) (q ∷ qs') q.start (spot_at q q.start) k (omega arith) (omega arith)
              (shown-first q qs' q.start (omega arith) k.ranges.1) in
              ap (λ (x : ℕ). joins (found r.last) (found x)) (sym e)
              ∙ joined_by (found r.last) (found q.start) (spot_at r r.last, path r.last) (spot_at q q.start, path q.start) here there
              ∙ apart q qs' m e h.ranges.1 (is_next_found (spot_at r r.last, path r.last) (spot_at q q.start, path q.start)) refl

  -- in the first range
  stretch_range : (from a n limit : ℕ) (r : FlatRange) (qs : List FlatRange) → Shows from (r ∷ qs) → from ≤ a → r.start ≤ a → a ≤ r.last → 0 < limit
      → a + limit ≤ 2 ^ 64 → n ≡ min (limit - 1) (r.last - a) + 1 → IsStretch found a n limit
  stretch_range from a n limit r qs h f l u k w e = record {
    some = omega arith;
    within = omega arith;
    spots = λ i v.
        sym (h.shows (a + i) (omega arith) (omega arith)) ∙ shown-first r qs (a + i) (omega arith) (omega arith)
        ∙ spot_further r a i l ∙ sym (ap (option_map (further i)) (sym (h.shows a f (omega arith)) ∙ shown-first r qs a l u));
    joined = λ i v.
        let up : r.offset + (a + i - r.start) + 1 ≡ r.offset + (a + (i + 1) - r.start) = omega arith in
        joined_by (found (a + i)) (found (a + (i + 1))) _ _ (here (a + i) (omega arith) (omega arith) (omega arith))
        (here (a + (i + 1)) (omega arith) (omega arith) (omega arith))
        ∙ next_found r.leaf (r.offset + (a + i - r.start)) (r.offset + (a + (i + 1) - r.start)) r.attrs (path (a + i)) (path (a + (i + 1))) up
        (λ t. h.paths.0 t (a + (i + 1)) (omega arith) (omega arith) ∙ sym (h.paths.0 t (a + i) (omega arith) (omega arith)));
    parts = λ i p v.
        let at : a + i ≡ r.last = omega arith in
        let next : a + (i + 1) ≡ r.last + 1 = omega arith in
        ap (λ (x : ℕ). joins (found x) (found (a + (i + 1)))) at ∙ ap (λ (x : ℕ). joins (found r.last) (found x)) next
        ∙ after_range from r qs h (omega arith);
  }
    where
      here : (x : ℕ) → r.start ≤ x → x ≤ r.last → x < 2 ^ 64 → found x ≡ Some (spot_at r x, path x)
      here x l u w = some_shown from (r ∷ qs) x (spot_at r x) h (let low = h.ranges.0 in omega arith) w (shown-first r qs x l u)

      same_spot : (l : RegionId) (o o' : ℕ) (t : Attrs) → o ≡ o'
          → let x : Option Spot = Some (record { leaf = l; offset = o; attrs = t }) in x ≡ Some (record { leaf = l; offset = o'; attrs = t })
      same_spot l o o' t e = cc

      -- further on in the range
      spot_further : (r : FlatRange) (a i : ℕ) → r.start ≤ a → let x : Option Spot = Some (spot_at r (a + i)) in x ≡ Some (further i (spot_at r a))
      spot_further r a i l = same_spot r.leaf (r.offset + (a + i - r.start)) (r.offset + (a - r.start) + i) r.attrs (omega arith)

  -- up to the end of the run, at most `limit` addresses
  pub stretch_of_run : (from : ℕ) (rs : List FlatRange) (a limit : ℕ) → Shows from rs → from ≤ a → 0 < limit → a + limit ≤ 2 ^ 64
      → IsStretch found a (min (limit - 1) (run_end rs a - a) + 1) limit
  stretch_of_run from [] a limit h l k w =
      let e : limit ≡ min (limit - 1) (2 ^ 64 - 1 - a) + 1 = omega arith in
      subst (λ (n : ℕ). IsStretch found a n limit) e (stretch_end from a limit h l k w)
  stretch_of_run from (r ∷ qs) a limit h l k w =
      by (cases_lt a r.start) (cases_lt r.last a) (λ past. stretch_of_run (r.last + 1) qs a limit (shows_later from r qs h) (omega arith) k w)
    where
      by : (a < r.start) ⊎ (r.start ≤ a) → (r.last < a) ⊎ (a ≤ r.last)
          → (r.last < a → IsStretch found a (min (limit - 1) (run_end qs a - a) + 1) limit)
          → IsStretch found a (min (limit - 1) (run_end (r ∷ qs) a - a) + 1) limit
      by (inl below) q ih =
          let e = run_before r qs a below in
          let f : min (limit - 1) (r.start - 1 - a) + 1 ≡ min limit (r.start - a) = omega arith in
          stretch_hole from a (min (limit - 1) (run_end (r ∷ qs) a - a) + 1) limit r qs h l below k w
          (ap (λ (x : ℕ). min (limit - 1) (x - a) + 1) e ∙ f)
      by (inr above) (inr within) ih =
          let e = run_within r qs a above within in
          stretch_range from a (min (limit - 1) (run_end (r ∷ qs) a - a) + 1) limit r qs h l above within k w
          (ap (λ (x : ℕ). min (limit - 1) (x - a) + 1) e)
      by (inr above) (inl past) ih =
          let e = run_past r qs a h.ranges.1 past in
          subst (λ (x : ℕ). IsStretch found a (min (limit - 1) (x - a) + 1) limit) (sym e) (ih past)

-- the view of a forest that calls make shows what the search finds
pub view_shows : (f : Forest) (s : SpaceId) → IsMade f → Shows (found_at f s) 0 (view_of f s)
view_shows f s m =
    let v : IsView f s (view_of f s) = subst (λ (f : Forest). IsView f s (view_of f s)) m.made (IsView-made m.calls s m.fitting) in
    record { ranges = v.agrees.ranges; merged = v.merged; paths = v.agrees.paths; shows = λ x l u. v.agrees.shows x u }

-- the offsets of a run have 64 bits
pub run_fits : (from end : ℕ) (rs : List FlatRange) (a n : ℕ) (x : Spot) → IsRanges from end rs → from ≤ a → shown rs a ≡ Some x → n ≤ run_end rs a - a + 1
    → x.offset + n ≤ 2 ^ 64
run_fits from end [] a n x h l e k = absurd (no_spot x e)
  where
    no_spot : (x : Spot) → None ≡ Some x → ⊥
    no_spot x e = cc
run_fits from end (r ∷ qs) a n x h l e k =
    by (cases_lt a r.start) (cases_lt r.last a) (λ past. run_fits (r.last + 1) end qs a n x h.3 (omega arith))
  where
    no_spot : (x : Spot) → None ≡ Some x → ⊥
    no_spot x e = cc

    here : (y : Spot) → Some y ≡ Some x → y.offset ≡ x.offset
    here y e = cc

    by : (a < r.start) ⊎ (r.start ≤ a) → (r.last < a) ⊎ (a ≤ r.last)
        → (r.last < a → shown qs a ≡ Some x → n ≤ run_end qs a - a + 1 → x.offset + n ≤ 2 ^ 64) → x.offset + n ≤ 2 ^ 64
    by (inl below) q ih =
        let ranges : IsRanges r.start end (r ∷ qs) = (omega arith, h.1, h.2, h.3) in
        absurd (no_spot x (sym (shown-before r.start end (r ∷ qs) a ranges below) ∙ e))
    by (inr above) (inr within) ih =
        let o : r.offset + (a - r.start) ≡ x.offset = here (spot_at r a) (sym (shown-first r qs a above within) ∙ e) in
        let is = run_within r qs a above within in
        let fits = h.2 in
        omega arith
    by (inr above) (inl past) ih =
        let is = run_past r qs a h.1 past in
        ih past (sym (shown-later r qs a past) ∙ e) (omega arith)

-- what a look-up in the view of a space finds, for at most `limit` addresses
pub record IsFound (f : Forest) (s : SpaceId) (a n limit : ℕ) (spot : Option Spot) : Type 0 where
  pub spot_is : spot ≡ look f s a
  pub stretch : IsStretch (found_at f s) a n limit
  pub offsets : IfSome spot (λ x. x.offset + n ≤ 2 ^ 64)

if_some : (P : Spot → Type 0) (o : Option Spot) → ((x : Spot) → o ≡ Some x → P x) → IfSome o P
if_some P None h = tt
if_some P (Some x) h = h x refl

pub is_found : (f : Forest) (s : SpaceId) (a n limit : ℕ) (view : List FlatRange) (spot : Option Spot) (last : ℕ) → IsMade f → view ≡ view_of f s
    → spot ≡ shown view a → last ≡ run_end view a → n ≡ min (limit - 1) (last - a) + 1 → 0 < limit → a + limit ≤ 2 ^ 64
    → IsFound f s a n limit spot
is_found f s a n limit view spot last m v e g k l w =
    let shows = view_shows f s m in
    let seen : spot ≡ shown (view_of f s) a = e ∙ ap (λ (rs : List FlatRange). shown rs a) v in
    let end : last ≡ run_end (view_of f s) a = g ∙ ap (λ (rs : List FlatRange). run_end rs a) v in
    let count : n ≡ min (limit - 1) (run_end (view_of f s) a - a) + 1 = k ∙ ap (λ (x : ℕ). min (limit - 1) (x - a) + 1) end in
    record {
      spot_is = seen ∙ shows.shows a (omega arith) (omega arith);
      stretch =
          subst (λ (n : ℕ). IsStretch (found_at f s) a n limit) (sym count) (stretch_of_run (found_at f s) 0 (view_of f s) a limit shows (omega arith) l w);
      offsets = if_some (λ x. x.offset + n ≤ 2 ^ 64) spot
          (λ x t. run_fits 0 (2 ^ 64) (view_of f s) a n x shows.ranges (omega arith) (sym seen ∙ t) (omega arith));
    }
