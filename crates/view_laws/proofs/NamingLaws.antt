-- The test whether a forest names a region says whether some address has it as its leaf.
use Rattle.std.proofs.Common.{◌≡◌, ◌⊎◌, ℕ, zero, suc, ◌+◌, ◌^◌, ◌<◌, ◌≤◌, Bool, true, false, ◌||◌, List, [], ◌∷◌, sym, refl, ap, subst, inl}
use Rattle.std.proofs.Common.{inr, arith, if◌then◌else◌, Option, Some, None, ⊎_elim, eq-eqb}
use Rattle.std.specs.Prelude.{◌==◌, IsSomeAnd, find, option_map, option_and_then}
use Rattle.std.specs.List.{list_any}
use Rattle.std.proofs.lemmas.Bool.{eqb-true, cases_lt, and_parts, or_left, or_right}
use Rattle.mem_base.specs.declared.map.ids.RegionId.{RegionId}
use Rattle.mem_base.specs.declared.map.ids.SpaceId.{SpaceId}
use Rattle.mem_base.specs.declared.map.spots.Spot.{Spot}
use Rattle.mem_base.specs.declared.views.flat.FlatRange.{FlatRange}
use Rattle.mem_base.specs.declared.map.forests.Forest.{Forest}
use Rattle.mem_base.specs.map.Limits.{most_depth}
use Rattle.mem_base.specs.map.Search.{look, path_at, is_space, found_in, spot_of}
use Rattle.view_laws.specs.Named.{Names}
use Rattle.mem_base.specs.views.View.{PathAt}
use Rattle.mem_base.specs.views.Flattened.{lone, goes_on, put_before, ranges_from, view_of}
use Rattle.mem_base.specs.views.Naming.{has_leaf, names}
use Rattle.view_laws.proofs.Tests.{none_is_not_some, same_region}

abbrev leaf_is : RegionId → Option Spot → Bool
leaf_is region None = false
leaf_is region (Some s) = s.leaf.0 == region.0

-- a leaf of some range, or of the address in front of them
leaf_in : (path : PathAt) (region : RegionId) (a : ℕ) (o : Option Spot) (rs : List FlatRange) → has_leaf region (put_before path a o rs) ≡ true
    → (leaf_is region o ≡ true) ⊎ (has_leaf region rs ≡ true)
leaf_in path region a None rs h = inr h
leaf_in path region a (Some s) [] h = either (s.leaf.0 == region.0) false h
  where
    either : (b c : Bool) → (b || c) ≡ true → (b ≡ true) ⊎ (c ≡ true)
    either true c h = inl refl
    either false c h = inr h
leaf_in path region a (Some s) (r ∷ rs) h = go (goes_on path a s r) h
  where
    go : (b : Bool) → has_leaf region (if b then record { start = a; last = r.last; leaf = s.leaf; offset = s.offset; attrs = s.attrs } ∷ rs
        else lone a s ∷ r ∷ rs) ≡ true → ((s.leaf.0 == region.0) ≡ true) ⊎ (has_leaf region (r ∷ rs) ≡ true)
    go true h = at (s.leaf.0 == region.0) h
      where
        at : (b : Bool) → (b || has_leaf region rs) ≡ true → (b ≡ true) ⊎ (((r.leaf.0 == region.0) || has_leaf region rs) ≡ true)
        at true h = inl refl
        at false h = inr (or_right (r.leaf.0 == region.0) (has_leaf region rs) h)
    go false h = at (s.leaf.0 == region.0) h
      where
        at : (b : Bool) → (b || has_leaf region (r ∷ rs)) ≡ true → (b ≡ true) ⊎ (has_leaf region (r ∷ rs) ≡ true)
        at true h = inl refl
        at false h = inr h

leaf_here : (path : PathAt) (region : RegionId) (a : ℕ) (o : Option Spot) (rs : List FlatRange) → leaf_is region o ≡ true
    → has_leaf region (put_before path a o rs) ≡ true
leaf_here path region a None rs h = absurd (grind arith)
leaf_here path region a (Some s) [] h = or_left (s.leaf.0 == region.0) false h
leaf_here path region a (Some s) (r ∷ rs) h = go (goes_on path a s r)
  where
    go : (b : Bool) → has_leaf region (if b then record { start = a; last = r.last; leaf = s.leaf; offset = s.offset; attrs = s.attrs } ∷ rs
        else lone a s ∷ r ∷ rs) ≡ true
    go true = or_left (s.leaf.0 == region.0) (has_leaf region rs) h
    go false = or_left (s.leaf.0 == region.0) (has_leaf region (r ∷ rs)) h

leaf_after : (path : PathAt) (region : RegionId) (a : ℕ) (o : Option Spot) (rs : List FlatRange) → has_leaf region rs ≡ true
    → has_leaf region (put_before path a o rs) ≡ true
leaf_after path region a None rs h = h
leaf_after path region a (Some s) [] h = absurd (grind arith)
leaf_after path region a (Some s) (r ∷ rs) h = go (goes_on path a s r) refl
  where
    go : (b : Bool) → goes_on path a s r ≡ b
        → has_leaf region (if b then record { start = a; last = r.last; leaf = s.leaf; offset = s.offset; attrs = s.attrs } ∷ rs else lone a s ∷ r
        ∷ rs) ≡ true
    go true e = let w = and_parts _ _ e in let t = and_parts _ _ w.0 in let u = and_parts _ _ t.0 in let v = and_parts _ _ u.0 in
        let same : r.leaf.0 ≡ s.leaf.0 = eqb-true _ _ v.1 in
        subst (λ (n : ℕ). ((n == region.0) || has_leaf region rs) ≡ true) same h
    go false e = or_right (s.leaf.0 == region.0) (has_leaf region (r ∷ rs)) h

-- an address with this leaf
record LeafAt (found : ℕ → Option Spot) (a end : ℕ) (region : RegionId) : Type 0 where
  address : ℕ
  from : a ≤ address
  to : address < end
  is : leaf_is region (found address) ≡ true

ranges_leaf : (found : ℕ → Option Spot) (path : PathAt) (a n : ℕ) (region : RegionId) → has_leaf region (ranges_from found path a n) ≡ true
    → LeafAt found a (a + n) region
unfolding ranges_from
ranges_leaf found path a zero region h = absurd (grind arith)
ranges_leaf found path a (suc n) region h = ⊎_elim
    (λ here. record { address = a; from = omega arith; to = omega arith; is = here })
    (λ later. let t = ranges_leaf found path (a + 1) n region later in let l = t.from in let m = t.to in
    record { address = t.address; from = omega arith; to = omega arith; is = t.is })
    (leaf_in path region a (found a) (ranges_from found path (a + 1) n) h)

leaf_ranges : (found : ℕ → Option Spot) (path : PathAt) (a n i : ℕ) (region : RegionId) → a ≤ i → i < a + n → leaf_is region (found i) ≡ true
    → has_leaf region (ranges_from found path a n) ≡ true
unfolding ranges_from
leaf_ranges found path a zero i region l m h = absurd (omega arith)
leaf_ranges found path a (suc n) i region l m h = ⊎_elim
    (λ more. leaf_after path region a (found a) (ranges_from found path (a + 1) n) (leaf_ranges found path (a + 1) n i region (omega arith) (omega arith) h))
    (λ less. let e : i ≡ a = omega arith in leaf_here path region a (found a) (ranges_from found path (a + 1) n)
    (subst (λ (z : ℕ). leaf_is region (found z) ≡ true) e h))
    (cases_lt a i)

-- the leaf as the relation says it

leaf_so : (region : RegionId) (o : Option Spot) → leaf_is region o ≡ true → IsSomeAnd o (λ spot. spot.leaf ≡ region)
leaf_so region None h = absurd (grind arith)
leaf_so region (Some s) h = same_region s.leaf region (eqb-true _ _ h)

so_leaf : (region : RegionId) (o : Option Spot) → IsSomeAnd o (λ spot. spot.leaf ≡ region) → leaf_is region o ≡ true
so_leaf region None h = absurd h
so_leaf region (Some s) h = eq-eqb s.leaf.0 region.0 (ap (λ (r : RegionId). r.0) h)

-- spaces

some_space : (f : Forest) (region : RegionId) (ps : List (SpaceId × RegionId)) → list_any (λ p. has_leaf region (view_of f p.0)) ps ≡ true
    → (s : SpaceId) × (has_leaf region (view_of f s) ≡ true)
some_space f region [] h = absurd (grind arith)
some_space f region (p ∷ ps) h = go (has_leaf region (view_of f p.0)) refl h (some_space f region ps)
  where
    go : (b : Bool) → has_leaf region (view_of f p.0) ≡ b → (b || list_any (λ p. has_leaf region (view_of f p.0)) ps) ≡ true
        → (list_any (λ p. has_leaf region (view_of f p.0)) ps ≡ true → (s : SpaceId) × (has_leaf region (view_of f s) ≡ true))
        → (s : SpaceId) × (has_leaf region (view_of f s) ≡ true)
    go true e h rest = (p.0, e)
    go false e h rest = rest h

any_space : (f : Forest) (region : RegionId) (s : SpaceId) (ps : List (SpaceId × RegionId)) (p : SpaceId × RegionId) → find (is_space s) ps ≡ Some p
    → has_leaf region (view_of f s) ≡ true → list_any (λ p. has_leaf region (view_of f p.0)) ps ≡ true
any_space f region s [] p e h = none_is_not_some p e
any_space f region s (q ∷ ps) p e h = go (is_space s q) refl e (any_space f region s ps p)
  where
    same_space : (x y : SpaceId) → x.0 ≡ y.0 → x ≡ y
    same_space x y e = ap (λ (n : ℕ). let z : SpaceId = record { 0 = n } in z) e

    go : (b : Bool) → is_space s q ≡ b → (if b then Some q else find (is_space s) ps) ≡ Some p
        → (find (is_space s) ps ≡ Some p → has_leaf region (view_of f s) ≡ true → list_any (λ p. has_leaf region (view_of f p.0)) ps ≡ true)
        → (has_leaf region (view_of f q.0) || list_any (λ p. has_leaf region (view_of f p.0)) ps) ≡ true
    go true i e rest = or_left _ _ (subst (λ (z : SpaceId). has_leaf region (view_of f z) ≡ true) (sym (same_space q.0 s (eqb-true _ _ i))) h)
    go false i e rest = or_right _ _ (rest e h)

view_leaf : (f : Forest) (s : SpaceId) (region : RegionId) → has_leaf region (view_of f s) ≡ true → LeafAt (look f s) 0 (0 + 2 ^ 64) region
unfolding view_of
view_leaf f s region h = ranges_leaf (look f s) (path_at f s) 0 (2 ^ 64) region h

leaf_view : (f : Forest) (s : SpaceId) (region : RegionId) (a : ℕ) → a < 2 ^ 64 → leaf_is region (look f s a) ≡ true → has_leaf region (view_of f s) ≡ true
unfolding view_of
leaf_view f s region a l h = leaf_ranges (look f s) (path_at f s) 0 (2 ^ 64) a region (omega arith) (omega arith) h

names_so : (f : Forest) (region : RegionId) → names f region ≡ true → Names f region
names_so f region h = let t = some_space f region f.spaces h in let v = view_leaf f t.0 region t.1 in let l = v.to in
    (t.0, v.address, omega arith, leaf_so region (look f t.0 v.address) v.is)

so_names : (f : Forest) (region : RegionId) → Names f region → names f region ≡ true
so_names f region n = let shown = leaf_view f n.0 region n.1 n.2 (so_leaf region (look f n.0 n.1) n.3) in
    go (find (is_space n.0) f.spaces) refl n.3 shown
  where
    go : (o : Option (SpaceId × RegionId)) → find (is_space n.0) f.spaces ≡ o
        → IsSomeAnd (spot_of (option_and_then (λ r. found_in f most_depth r n.1) (option_map (λ p. p.1) o))) (λ spot. spot.leaf ≡ region)
        → has_leaf region (view_of f n.0) ≡ true → names f region ≡ true
    go None e h shown = absurd h
    go (Some p) e h shown = any_space f region n.0 f.spaces p e shown

pub names_leaves : (f : Forest) (region : RegionId) → (names f region ≡ true → Names f region) × (Names f region → names f region ≡ true)
names_leaves f region = (names_so f region, so_names f region)
