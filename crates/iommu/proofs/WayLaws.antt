-- The route from an address, by the stretch of what its first search finds.
use Rattle.std.proofs.Common.{◌≡◌, ℕ, zero, suc, ◌+◌, ◌<◌, ◌≤◌, Bool, true, false, [], ◌∷◌, Option, Some, None, sym, refl, ap, ◌∙◌, arith}
use Rattle.std.proofs.Common.{◌⊎◌, inl, inr}
use Rattle.std.specs.Prelude.{option_map, filter_map}
use Rattle.std.proofs.lemmas.Bool.{cases_lt}
use Rattle.mem_base.specs.declared.map.ids.SpaceId.{SpaceId}
use Rattle.mem_base.specs.declared.map.forests.Forest.{Forest}
use Rattle.mem_base.specs.declared.map.spots.Spot.{Spot}
use Rattle.mem_base.specs.declared.map.translations.Entry.{Entry}
use Rattle.mem_base.specs.declared.access.accesses.Target.TheVariants.{Leaf, Unassigned}
use Rattle.mem_base.specs.lists.Runs.{runs}
use Rattle.mem_base.specs.map.Search.{Found, found_at, look, path_of}
use Rattle.mem_base.specs.access.Translations.{translates, used_at, translated_address}
use Rattle.mem_base.specs.access.Trails.{Hop, hop, Trail, trail, begins_with, through, trail_at, trail_within, is_same_entry, is_next_trail, first_length}
use Rattle.iommu.specs.Ways.{further, IsStretch, way, shares_within, way_within, leads_through}
use Rattle.iommu.proofs.RunLaws.{narrowed, all_one}
use Rattle.iommu.proofs.FoundLaws.{some_found, none_found}
use Rattle.iommu.proofs.TrailLaws.{onward, trail_is, trails_part, leaf_trail, through_trail, same_ends, same_on, uses_part, at_next, shares_by}
use Rattle.iommu.proofs.TrailLaws.{AreNeighbours, neighbours}

unfolds : (f : Forest) (w : Bool) (left : ℕ) (s : SpaceId) (a n : ℕ) (t : Trail) (l : ℕ) → trail_within f w left s a ≡ t
    → first_length (runs (shares_within f w left s) a n) ≡ l → way_within f w left s a n ≡ way t.target l (filter_map (λ (h : Hop). h.used) t.hops)
unfolding way_within
unfolds f w left s a n t l p q =
    ap (λ (x : Trail). way x.target (first_length (runs (shares_within f w left s) a n)) (filter_map (λ (h : Hop). h.used) x.hops)) p
    ∙ ap (λ (x : ℕ). way t.target x (filter_map (λ (h : Hop). h.used) t.hops)) q

-- The length of a route that ends here. The first m' addresses find the same thing; of these the first m share the
-- route, and where others follow the m-th does not share it with the next.
ends_after : (f : Forest) (w : Bool) (left : ℕ) (s : SpaceId) (a m m' n : ℕ) (k : ℕ → Bool) (b : ℕ) → IsStretch (found_at f s) a m' n → 0 < m → m ≤ m'
    → ((i : ℕ) → i + 1 < m → shares_within f w left s (a + i) ≡ k (b + i))
    → ((i : ℕ) → i + 1 ≡ m → m < m' → shares_within f w left s (a + i) ≡ false)
    → first_length (runs (shares_within f w left s) a n) ≡ first_length (runs k b m)
ends_after f w left s a m m' n k b h l le same apart =
    let within = h.within in
    narrowed (shares_within f w left s) k m n a b l (omega arith) same (λ i e more. by i e more (cases_lt m m'))
  where
    by : (i : ℕ) → i + 1 ≡ m → m < n → (m < m') ⊎ (m' ≤ m) → shares_within f w left s (a + i) ≡ false
    by i e more (inl less) = apart i e less
    by i e more (inr all) =
        shares_by f w left s a i _ _ refl refl
        ∙ trails_part f w (onward f w left) (found_at f s (a + i)) (found_at f s (a + (i + 1))) (h.parts i (omega arith) (omega arith))

-- ---- where two neighbours share the route

leaf_shares : (f : Forest) (w : Bool) (left : ℕ) (s : SpaceId) (a i : ℕ) (x : Spot) → AreNeighbours f s a i x → translates f x.leaf ≡ false
    → shares_within f w left s (a + i) ≡ true
leaf_shares f w left s a i x k t =
    let o = onward f w left in
    let here : translates f k.here.0.leaf ≡ false = ap (λ (z : Spot). translates f z.leaf) k.here_spot ∙ t in
    let next : translates f k.next.0.leaf ≡ false = ap (λ (z : Spot). translates f z.leaf) k.next_spot ∙ t in
    shares_by f w left s a i (Some k.here) (Some k.next) k.here_is k.next_is
    ∙ ap (λ (t : Trail). is_next_trail t (trail_at f w o (Some k.next))) (leaf_trail f w o k.here here)
    ∙ ap (is_next_trail (trail (hop k.here None ∷ []) (Leaf k.here.0))) (leaf_trail f w o k.next next)
    ∙ same_ends k.here k.next (Leaf k.here.0) (Leaf k.next.0) k.joined refl

-- in an IOMMU region it depends on what is used at the two
through_shares : (f : Forest) (w : Bool) (left : ℕ) (s : SpaceId) (a i : ℕ) (x : Spot) (u v : Option Entry) → (k : AreNeighbours f s a i x)
    → translates f x.leaf ≡ true → used_at f w x.leaf (x.offset + i) ≡ u → used_at f w x.leaf (x.offset + (i + 1)) ≡ v
    → shares_within f w left s (a + i) ≡ is_next_trail (through (onward f w left) k.here u) (through (onward f w left) k.next v)
through_shares f w left s a i x u v k t p q =
    let o = onward f w left in
    let here : translates f k.here.0.leaf ≡ true = ap (λ (z : Spot). translates f z.leaf) k.here_spot ∙ t in
    let next : translates f k.next.0.leaf ≡ true = ap (λ (z : Spot). translates f z.leaf) k.next_spot ∙ t in
    let here_used : used_at f w k.here.0.leaf k.here.0.offset ≡ u = ap (λ (z : Spot). used_at f w z.leaf z.offset) k.here_spot ∙ p in
    let next_used : used_at f w k.next.0.leaf k.next.0.offset ≡ v = ap (λ (z : Spot). used_at f w z.leaf z.offset) k.next_spot ∙ q in
    shares_by f w left s a i (Some k.here) (Some k.next) k.here_is k.next_is
    ∙ ap (λ (t : Trail). is_next_trail t (trail_at f w o (Some k.next))) (through_trail f w o k.here u here here_used)
    ∙ ap (is_next_trail (through o k.here u)) (through_trail f w o k.next v next next_used)

-- the offset of the spot itself
here_at : (x : Spot) → x.offset + 0 ≡ x.offset
here_at x = omega arith

-- ---- routes

pub way_none : (f : Forest) (w : Bool) (left : ℕ) (s : SpaceId) (a m n : ℕ) → IsStretch (found_at f s) a m n → look f s a ≡ None
    → way_within f w left s a n ≡ way Unassigned m []
way_none f w left s a m n h e =
    unfolds f w left s a n (trail [] Unassigned) m (trail_is f w left s a ∙ ap (trail_at f w (onward f w left)) (none_found (found_at f s a) e))
    (ends_after f w left s a m m n (λ x. true) 0 h h.some (omega arith)
    (λ i l. shares_by f w left s a i None None (none i (omega arith)) (none (i + 1) l))
    (λ i p l. absurd (omega arith))
    ∙ all_one 0 m)
  where
    none : (i : ℕ) → i < m → found_at f s (a + i) ≡ None
    none i l = none_found (found_at f s (a + i)) (h.spots i l ∙ ap (option_map (further i)) e)

pub way_leaf : (f : Forest) (w : Bool) (left : ℕ) (s : SpaceId) (a m n : ℕ) (x : Spot) → IsStretch (found_at f s) a m n → look f s a ≡ Some x
    → translates f x.leaf ≡ false → way_within f w left s a n ≡ way (Leaf x) m []
way_leaf f w left s a m n x h e t =
    let o = onward f w left in
    let first : Found = (x, path_of (found_at f s a)) in
    unfolds f w left s a n (trail (hop first None ∷ []) (Leaf x)) m
    (trail_is f w left s a ∙ ap (trail_at f w o) (some_found (found_at f s a) x e) ∙ leaf_trail f w o first t)
    (ends_after f w left s a m m n (λ x. true) 0 h h.some (omega arith)
    (λ i l. leaf_shares f w left s a i x (neighbours f s a m n x h e i l) t)
    (λ i p l. absurd (omega arith))
    ∙ all_one 0 m)

pub way_last : (f : Forest) (w : Bool) (s : SpaceId) (a m n : ℕ) (x : Spot) → IsStretch (found_at f s) a m n → look f s a ≡ Some x
    → translates f x.leaf ≡ true → way_within f w zero s a n ≡ way Unassigned m []
way_last f w s a m n x h e t =
    let first : Found = (x, path_of (found_at f s a)) in
    unfolds f w zero s a n (trail (hop first None ∷ []) Unassigned) m
    (ap (trail_at f w None) (some_found (found_at f s a) x e) ∙ through_trail f w None first _ t refl)
    (ends_after f w zero s a m m n (λ x. true) 0 h h.some (omega arith)
    (λ i l.
    let k = neighbours f s a m n x h e i l in
    through_shares f w zero s a i x _ _ k t refl refl ∙ same_ends k.here k.next Unassigned Unassigned k.joined refl)
    (λ i p l. absurd (omega arith))
    ∙ all_one 0 m)

-- no translation is used at the first m offsets; where the stretch goes on, one is used after them
pub way_shut : (f : Forest) (w : Bool) (left : ℕ) (s : SpaceId) (a m m' n : ℕ) (x : Spot) → IsStretch (found_at f s) a m' n → look f s a ≡ Some x
    → translates f x.leaf ≡ true → 0 < m → m ≤ m'
    → ((i : ℕ) → i < m → used_at f w x.leaf (x.offset + i) ≡ None)
    → (m < m' → is_same_entry None (used_at f w x.leaf (x.offset + m)) ≡ false)
    → way_within f w (suc left) s a n ≡ way Unassigned m []
way_shut f w left s a m m' n x h e t l le shut apart =
    let o = trail_within f w left in
    let first : Found = (x, path_of (found_at f s a)) in
    let none : used_at f w x.leaf x.offset ≡ None = ap (used_at f w x.leaf) (sym (here_at x)) ∙ shut 0 l in
    unfolds f w (suc left) s a n (trail (hop first None ∷ []) Unassigned) m
    (ap (trail_at f w (Some o)) (some_found (found_at f s a) x e) ∙ through_trail f w (Some o) first None t none)
    (ends_after f w (suc left) s a m m' n (λ x. true) 0 h l le
    (λ i l.
    let k = neighbours f s a m' n x h e i (omega arith) in
    through_shares f w (suc left) s a i x None None k t (shut i (omega arith)) (shut (i + 1) l)
    ∙ same_ends k.here k.next Unassigned Unassigned k.joined refl)
    (λ i p more.
    let k = neighbours f s a m' n x h e i (omega arith) in
    through_shares f w (suc left) s a i x None _ k t (shut i (omega arith)) refl
    ∙ uses_part o k.here k.next None _ k.joined (ap (λ (j : ℕ). is_same_entry None (used_at f w x.leaf (x.offset + j))) p ∙ apart more))
    ∙ all_one 0 m)

leads_on : (f : Forest) (w : Bool) (left : ℕ) (q : Entry) (b m : ℕ) →
    way (trail_within f w left q.space b).target (first_length (runs (shares_within f w left q.space) b m))
    (q ∷ filter_map (λ (h : Hop). h.used) (trail_within f w left q.space b).hops)
    ≡ leads_through q (way_within f w left q.space b m)
unfolding way_within
leads_on f w left q b m = refl

-- one translation is used at the first m offsets, and another or none after them; the addresses that it gives follow
-- one another
pub way_open : (f : Forest) (w : Bool) (left : ℕ) (s : SpaceId) (a m m' n b : ℕ) (x : Spot) (q : Entry) → IsStretch (found_at f s) a m' n
    → look f s a ≡ Some x → translates f x.leaf ≡ true → 0 < m → m ≤ m'
    → ((i : ℕ) → i < m → used_at f w x.leaf (x.offset + i) ≡ Some q)
    → (m < m' → is_same_entry (Some q) (used_at f w x.leaf (x.offset + m)) ≡ false)
    → ((i : ℕ) → i < m → translated_address q (x.offset + i) ≡ b + i)
    → way_within f w (suc left) s a n ≡ leads_through q (way_within f w left q.space b m)
way_open f w left s a m m' n b x q h e t l le uses apart goes =
    let o = trail_within f w left in
    let first : Found = (x, path_of (found_at f s a)) in
    let there : b + 0 ≡ b = omega arith in
    let used : used_at f w x.leaf x.offset ≡ Some q = ap (used_at f w x.leaf) (sym (here_at x)) ∙ uses 0 l in
    let to : translated_address q x.offset ≡ b = ap (translated_address q) (sym (here_at x)) ∙ goes 0 l ∙ there in
    unfolds f w (suc left) s a n (begins_with (hop first (Some q)) (o q.space b)) (first_length (runs (shares_within f w left q.space) b m))
    (ap (trail_at f w (Some o)) (some_found (found_at f s a) x e) ∙ through_trail f w (Some o) first (Some q) t used
    ∙ ap (λ (z : ℕ). begins_with (hop first (Some q)) (o q.space z)) to)
    (ends_after f w (suc left) s a m m' n (shares_within f w left q.space) b h l le (λ i l. shared i l) (λ i p more. apart_at i p more))
    ∙ leads_on f w left q b m
  where
    shared : (i : ℕ) → i + 1 < m → shares_within f w (suc left) s (a + i) ≡ shares_within f w left q.space (b + i)
    shared i l =
        let o = trail_within f w left in
        let k = neighbours f s a m' n x h e i (omega arith) in
        let here : translated_address q k.here.0.offset ≡ b + i =
        ap (λ (z : Spot). translated_address q z.offset) k.here_spot ∙ goes i (omega arith) in
        let next : translated_address q k.next.0.offset ≡ b + i + 1 =
        ap (λ (z : Spot). translated_address q z.offset) k.next_spot ∙ goes (i + 1) l ∙ sym (at_next b i) in
        through_shares f w (suc left) s a i x (Some q) (Some q) k t (uses i (omega arith)) (uses (i + 1) l)
        ∙ same_on k.here k.next q (o q.space (translated_address q k.here.0.offset)) (o q.space (translated_address q k.next.0.offset)) k.joined
        ∙ ap (λ (z : ℕ). is_next_trail (o q.space z) (o q.space (translated_address q k.next.0.offset))) here
        ∙ ap (λ (z : ℕ). is_next_trail (o q.space (b + i)) (o q.space z)) next

    apart_at : (i : ℕ) → i + 1 ≡ m → m < m' → shares_within f w (suc left) s (a + i) ≡ false
    apart_at i p more =
        let k = neighbours f s a m' n x h e i (omega arith) in
        through_shares f w (suc left) s a i x (Some q) _ k t (uses i (omega arith)) refl
        ∙ uses_part (trail_within f w left) k.here k.next (Some q) _ k.joined
        (ap (λ (j : ℕ). is_same_entry (Some q) (used_at f w x.leaf (x.offset + j))) p ∙ apart more)
