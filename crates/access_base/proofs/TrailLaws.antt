-- Where trails lead, and that a chunk's addresses lie in its leaf.
use Rattle.std.proofs.Common.{◌≡◌, ℕ, zero, suc, ◌+◌, ◌<◌, ◌≤◌, ◌&&◌, ◌==◌, Bool, true, false, List, [], ◌∷◌, Option, Some, None}
use Rattle.std.proofs.Common.{if◌then◌else◌, refl, sym, ap, subst, ◌∙◌, arith}
use Rattle.std.specs.Prelude.{IsSomeAnd, IfSome}
use Rattle.std.proofs.lemmas.Bool.{eqb-true, and_parts}
use Rattle.mem_base.specs.declared.map.ids.SpaceId.{SpaceId}
use Rattle.mem_base.specs.declared.map.forests.Node.{Node}
use Rattle.mem_base.specs.declared.map.forests.Forest.{Forest}
use Rattle.mem_base.specs.declared.map.spots.Spot.{Spot}
use Rattle.mem_base.specs.declared.map.translations.Entry.{Entry}
use Rattle.mem_base.specs.declared.access.accesses.Target.{Target}
use Rattle.mem_base.specs.declared.access.accesses.Target.TheVariants.{Leaf, Unassigned}
use Rattle.mem_base.specs.lists.Booleans.{bool_eq}
use Rattle.mem_base.specs.lists.Runs.{Run, runs, put_before}
use Rattle.mem_base.specs.map.Limits.{most_translations}
use Rattle.mem_base.specs.map.Region.{node_of}
use Rattle.mem_base.specs.map.Attributes.{same_attrs}
use Rattle.mem_base.specs.map.Forest.{IsMade, IsClosedForest}
use Rattle.mem_base.specs.map.Search.{Found, found_at, look, spot_of}
use Rattle.mem_base.specs.access.Translations.{translates, used_at, translated_address}
use Rattle.mem_base.specs.access.Trails.{Hop, hop, Trail, trail, Onward, through, trail_at, trail_within, trail_of, is_next_spot}
use Rattle.mem_base.specs.access.Trails.{is_next_hop, are_next_hops, is_leaf, is_same_entry, shares_next, chunks, first_length}
use Rattle.generation.proofs.HandedOn.{IsClosedForest-made}
use Rattle.view_laws.proofs.NamingLaws.{names_leaves}
use Rattle.access_base.specs.Leaves.{IsTargetRun}
use Rattle.access_base.proofs.FoundLaws.{shown_inside, shown_below}

-- some address of some space shows the spot
abbrev IsShown : Forest → Spot → Type 0
IsShown f x = (s : SpaceId) × (a : ℕ) × (look f s a ≡ Some x)

pub no_leaf : (x : Spot) → Unassigned ≡ Leaf x → ⊥
no_leaf x e = cc

same_leaf : (x y : Spot) → Leaf x ≡ Leaf y → x ≡ y
same_leaf x y e = cc

-- the spot of the last search
abbrev last_spot : List Hop → Option Spot
last_spot [] = None
last_spot (h ∷ []) = Some h.spot
last_spot (h ∷ k ∷ hs) = last_spot (k ∷ hs)

-- a trail that ends in a leaf ends at the spot of its last search, which an address shows
abbrev EndsWell : Forest → Trail → Type 0
EndsWell f t = (x : Spot) → t.target ≡ Leaf x → (last_spot t.hops ≡ Some x) × IsShown f x

pub longer : (h : Hop) (hs : List Hop) (x : Spot) → last_spot hs ≡ Some x → last_spot (h ∷ hs) ≡ Some x
longer h [] x e = cc
longer h (k ∷ hs) x e = e

through_well : (f : Forest) (onward : Onward) (found : Found) (used : Option Entry) → ((s : SpaceId) (a : ℕ) → EndsWell f (onward s a))
    → EndsWell f (through (Some onward) found used)
through_well f onward found None h x e = absurd (no_leaf x e)
through_well f onward found (Some en) h x e =
    let t = h en.space (translated_address en found.0.offset) x e in
    (longer (hop found (Some en)) (onward en.space (translated_address en found.0.offset)).hops x t.0, t.1)

leaf_well : (f : Forest) (s : SpaceId) (a : ℕ) (found : Found) → found_at f s a ≡ Some found → EndsWell f (trail (hop found None ∷ []) (Leaf found.0))
leaf_well f s a found e x is = let same = same_leaf found.0 x is in (ap (λ (y : Spot). Some y) same, (s, a, ap spot_of e ∙ ap (λ (y : Spot). Some y) same))

ends_well : (f : Forest) (w : Bool) (left : ℕ) (s : SpaceId) (a : ℕ) → EndsWell f (trail_within f w left s a)
ends_well f w zero s a = go (found_at f s a) refl
  where
    go : (o : Option Found) → found_at f s a ≡ o → EndsWell f (trail_at f w None o)
    go None e = λ x is. absurd (no_leaf x is)
    go (Some found) e = test (translates f found.0.leaf)
      where
        test : (b : Bool) → EndsWell f (if b then through None found (used_at f w found.0.leaf found.0.offset) else trail (hop found None ∷ []) (Leaf found.0))
        test true = λ x is. absurd (no_leaf x is)
        test false = leaf_well f s a found e
ends_well f w (suc left) s a = go (found_at f s a) refl (ends_well f w left)
  where
    go : (o : Option Found) → found_at f s a ≡ o → ((s : SpaceId) (a : ℕ) → EndsWell f (trail_within f w left s a))
        → EndsWell f (trail_at f w (Some (trail_within f w left)) o)
    go None e h = λ x is. absurd (no_leaf x is)
    go (Some found) e h = test (translates f found.0.leaf)
      where
        test : (b : Bool) → EndsWell f
            (if b then through (Some (trail_within f w left)) found (used_at f w found.0.leaf found.0.offset) else trail (hop found None ∷ []) (Leaf found.0))
        test true = through_well f (trail_within f w left) found (used_at f w found.0.leaf found.0.offset) h
        test false = leaf_well f s a found e

-- neighbours

next_last : (xs ys : List Hop) (x : Spot) → are_next_hops xs ys ≡ true → last_spot xs ≡ Some x
    → (y : Spot) × (last_spot ys ≡ Some y) × (is_next_spot x y ≡ true)
next_last [] ys x e l = cc
next_last (h ∷ hs) [] x e l = cc
next_last (h ∷ []) (k ∷ []) x e l =
    let t = and_parts (is_next_hop h k) true e in
    let same : h.spot ≡ x = cc in
    let u = and_parts (is_next_spot h.spot k.spot && is_same_entry h.used k.used) _ t.0 in
    (k.spot, refl, subst (λ (z : Spot). is_next_spot z k.spot ≡ true) same (and_parts (is_next_spot h.spot k.spot) _ u.0).0)
next_last (h ∷ []) (k ∷ m ∷ ks) x e l = let t = and_parts (is_next_hop h k) false e in let bad : false ≡ true = t.1 in cc
next_last (h ∷ i ∷ hs) (k ∷ []) x e l = let t = and_parts (is_next_hop h k) false e in let bad : false ≡ true = t.1 in cc
next_last (h ∷ i ∷ hs) (k ∷ m ∷ ks) x e l =
    let t = and_parts (is_next_hop h k) (are_next_hops (i ∷ hs) (m ∷ ks)) e in next_last (i ∷ hs) (m ∷ ks) x t.1 l

-- the spot after another of one leaf
pub record IsNext (x y : Spot) : Type 0 where
  pub leaf : y.leaf ≡ x.leaf
  pub offset : y.offset ≡ x.offset + 1

is_next : (x y : Spot) → is_next_spot x y ≡ true → IsNext x y
is_next x y e =
    let t = and_parts ((x.leaf.0 == y.leaf.0) && same_attrs x.attrs y.attrs) (x.offset + 1 == y.offset) e in
    let u = and_parts (x.leaf.0 == y.leaf.0) (same_attrs x.attrs y.attrs) t.0 in
    let id : y.leaf.0 ≡ x.leaf.0 = sym (eqb-true x.leaf.0 y.leaf.0 u.0) in
    record { leaf = (λ i. record { 0 = id i }); offset = sym (eqb-true (x.offset + 1) y.offset t.1) }

next_target : (f : Forest) (w : Bool) (s : SpaceId) (a : ℕ) (x : Spot) → shares_next f w s a ≡ true → (trail_of f w s a).target ≡ Leaf x
    → (y : Spot) × ((trail_of f w s (a + 1)).target ≡ Leaf y) × IsNext x y
next_target f w s a x e is =
    let t : Trail = trail_of f w s a in
    let u : Trail = trail_of f w s (a + 1) in
    let p = and_parts (are_next_hops t.hops u.hops) (bool_eq (is_leaf t.target) (is_leaf u.target)) e in
    let l = ends_well f w most_translations s a x is in
    let n = next_last t.hops u.hops x p.0 l.0 in
    go u.target refl (subst (λ (z : Target). bool_eq (is_leaf z) (is_leaf u.target) ≡ true) is p.1) n.0 n.1 n.2
  where
    go : (v : Target) → (trail_of f w s (a + 1)).target ≡ v → bool_eq true (is_leaf v) ≡ true → (y : Spot)
        → last_spot (trail_of f w s (a + 1)).hops ≡ Some y → is_next_spot x y ≡ true
        → (y : Spot) × ((trail_of f w s (a + 1)).target ≡ Leaf y) × IsNext x y
    go Unassigned i b y l n = cc
    go (Leaf z) i b y l n =
        let m = ends_well f w most_translations s (a + 1) z i in
        let same : y ≡ z = some_same y z (sym l ∙ m.0) in
        (z, i, is_next x z (subst (λ (q : Spot). is_next_spot x q ≡ true) same n))
      where
        some_same : (p q : Spot) → Some p ≡ Some q → p ≡ q
        some_same p q e = cc

-- along a run

-- within the first run each number belongs to the next
pub together : (with_next : ℕ → Bool) (a n i : ℕ) → i + 1 < first_length (runs with_next a n) → with_next (a + i) ≡ true
together with_next a zero i l = absurd (omega (arith, l))
together with_next a (suc n) i l = go (with_next a) refl (runs with_next (a + 1) n) refl (together with_next (a + 1) n) i l
  where
    go : (b : Bool) → with_next a ≡ b → (rs : List Run) → runs with_next (a + 1) n ≡ rs
        → ((i : ℕ) → i + 1 < first_length (runs with_next (a + 1) n) → with_next (a + 1 + i) ≡ true)
        → (i : ℕ) → i + 1 < first_length (put_before b a rs) → with_next (a + i) ≡ true
    go false e rs q h i l = absurd (omega (arith, l))
    go true e [] q h i l = absurd (omega (arith, l))
    go true e (r ∷ rs) q h zero l = let at : a + 0 ≡ a = omega arith in ap with_next at ∙ e
    go true e (r ∷ rs) q h (suc i) l =
        let less : i + 1 < first_length (runs with_next (a + 1) n) = subst (λ qs. i + 1 < first_length qs) (sym q) (omega (arith, l)) in
        let at : a + suc i ≡ a + 1 + i = omega arith in ap with_next at ∙ h i less

-- the address a number of bytes further on leads that far on
along : (f : Forest) (w : Bool) (s : SpaceId) (a n : ℕ) (x : Spot) → (trail_of f w s a).target ≡ Leaf x → (i : ℕ) → i < first_length (chunks f w s a n)
    → (y : Spot) × ((trail_of f w s (a + i)).target ≡ Leaf y) × (y.leaf ≡ x.leaf) × (y.offset ≡ x.offset + i)
along f w s a n x is zero l = let at : a ≡ a + 0 = omega arith in (x, subst (λ b. (trail_of f w s b).target ≡ Leaf x) at is, refl, omega arith)
along f w s a n x is (suc i) l =
    let t = along f w s a n x is i (omega (arith, l)) in
    let on = together (shares_next f w s) a n i (omega (arith, l)) in
    let u = next_target f w s (a + i) t.0 on t.1 in
    let at : a + i + 1 ≡ a + suc i = omega arith in
    let offset : u.0.offset ≡ x.offset + suc i = let p : u.0.offset ≡ t.0.offset + 1 = u.2.offset in let q : t.0.offset
    ≡ x.offset + i = t.3 in omega (arith, p, q) in
    (u.0, subst (λ b. (trail_of f w s b).target ≡ Leaf u.0) at u.1, u.2.leaf ∙ t.2, offset)

-- the first chunk of some addresses lies in its leaf, which the forest names
pub chunk_inside : (f : Forest) → IsMade f → (w : Bool) (s : SpaceId) (a n c : ℕ) (target : Target) → target ≡ (trail_of f w s a).target
    → c ≡ first_length (chunks f w s a n) → 0 < c → IsTargetRun f target c
chunk_inside f made w s a n c Unassigned e l some = tt
chunk_inside f made w s a n zero (Leaf x) e l some = absurd (omega (arith, some))
chunk_inside f made w s a n (suc c) (Leaf x) e l some =
    let closed : IsClosedForest f = subst IsClosedForest made.made (IsClosedForest-made made.calls made.fitting) in
    let t = along f w s a n x (sym e) c (omega (arith, l)) in
    let shown = (ends_well f w most_translations s (a + c) t.0 t.1).1 in
    let inside = shown_inside f shown.0 shown.1 t.0 shown.2 in
    let first = (ends_well f w most_translations s a x (sym e)).1 in
    let below = shown_below f first.0 first.1 x closed first.2 in record {
      named = (names_leaves f x.leaf).1 (first.0, first.1, below, leads x (look f first.0 first.1) first.2);
      within = go (node_of f.nodes x.leaf) t.0 (ap (node_of f.nodes) t.2) t.3 inside;
    }
  where
    leads : (x : Spot) (o : Option Spot) → o ≡ Some x → IsSomeAnd o (λ spot. spot.leaf ≡ x.leaf)
    leads x None e = cc
    leads x (Some y) e = let same : y ≡ x = cc in ap (λ (z : Spot). z.leaf) same

    go : (o : Option Node) (y : Spot) → node_of f.nodes y.leaf ≡ o → y.offset ≡ x.offset + c → IsSomeAnd (node_of f.nodes y.leaf) (λ m. y.offset < m.size)
        → IfSome o (λ m. x.offset + suc c ≤ m.size)
    go None y i at h = tt
    go (Some m) y i at h =
        let l : y.offset < m.size = subst (λ o. IsSomeAnd o (λ m. y.offset < m.size)) i h in omega (arith, l, at)
