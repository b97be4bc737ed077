-- The searches of addresses that share a route, hop by hop: what they find, and that they stay in the pages of the translations.
use Rattle.std.proofs.Common.{◌≡◌, ℕ, zero, suc, ◌+◌, ◌-◌, ◌^◌, ◌<◌, ◌≤◌, ◌&&◌, ◌||◌, not, ◌==◌, min, Bool, true, false, List, [], ◌∷◌, Option, Some, None}
use Rattle.std.proofs.Common.{◌⊎◌, inl, inr, if◌then◌else◌, refl, sym, ap, subst, ◌∙◌, arith}
use Rattle.std.specs.Prelude.{bit_and, unwrap_or, option_map}
use Rattle.std.proofs.lemmas.Bool.{eqb-true, cases_lt, and_parts}
use Rattle.std.proofs.lemmas.Nat.{and_mask}
use Rattle.mem_base.specs.declared.map.ids.RegionId.{RegionId}
use Rattle.mem_base.specs.declared.map.ids.SpaceId.{SpaceId}
use Rattle.mem_base.specs.declared.map.forests.Node.{Node}
use Rattle.mem_base.specs.declared.map.forests.Forest.{Forest}
use Rattle.mem_base.specs.declared.map.spots.Spot.{Spot}
use Rattle.mem_base.specs.declared.map.translations.Entry.{Entry}
use Rattle.mem_base.specs.declared.access.accesses.Target.{Target}
use Rattle.mem_base.specs.declared.access.accesses.Target.TheVariants.{Leaf, Unassigned}
use Rattle.mem_base.specs.lists.Booleans.{bool_eq}
use Rattle.mem_base.specs.lists.Every.{Every}
use Rattle.mem_base.specs.map.Region.{node_of}
use Rattle.mem_base.specs.map.Entries.{AreEntries}
use Rattle.mem_base.specs.map.Forest.{IsRegion, IsClosedForest}
use Rattle.mem_base.specs.map.Search.{Found, found_at}
use Rattle.mem_base.specs.views.Flattened.{same_path}
use Rattle.mem_base.proofs.ForestLaws.{every_node_of}
use Rattle.mem_base.specs.access.Translations.{translates, entries_of, translation_at, if_permitted, used_at, translated_address}
use Rattle.mem_base.specs.access.Trails.{Hop, hop, Trail, trail, Onward, through, trail_at, trail_within, trail_of, is_next_spot, is_same_entry, is_next_hop}
use Rattle.mem_base.specs.access.Trails.{are_next_hops, is_leaf, shares_next}
use Rattle.iommu.specs.Ways.{further}
use Rattle.iommu.specs.Pages.{ArePages}
use Rattle.iommu.proofs.FoundLaws.{IsAfter, is_after}
use Rattle.iommu.proofs.PageLaws.{IsPage, IsIn, are_pages, in_page}
use Rattle.iommu.proofs.TableLaws.{found_past}
use Rattle.iommu.proofs.HopLaws.{IsUsed, is_used}
use Rattle.mem_base.specs.access.CorePlans as core
use Rattle.access_base.proofs.TrailLaws.{no_leaf, longer}
use Rattle.mem_base.proofs.BoolLaws.{bool_same, number_itself}

-- each translation that a hop uses is the one of its spot

abbrev pub IsOwnHop : Forest → Bool → Hop → Type 0
IsOwnHop f w h = (e : Entry) → h.used ≡ Some e → used_at f w h.spot.leaf h.spot.offset ≡ Some e

-- the spot of the last hop
abbrev pub last_spot : List Hop → Option Spot
last_spot [] = None
last_spot (h ∷ []) = Some h.spot
last_spot (h ∷ k ∷ hs) = last_spot (k ∷ hs)

-- what holds of each trail
pub record IsOwnTrail (f : Forest) (w : Bool) (t : Trail) : Type 0 where
  pub own : Every (IsOwnHop f w) t.hops
  pub ends : (x : Spot) → t.target ≡ Leaf x → last_spot t.hops ≡ Some x

same_leaf : (x y : Spot) → Leaf x ≡ Leaf y → Some x ≡ Some y
same_leaf x y e = cc

unused : (f : Forest) (w : Bool) (found : Found) → IsOwnHop f w (hop found None)
unused f w found e is = absurd (no_entry e is)
  where
    no_entry : (e : Entry) → None ≡ Some e → ⊥
    no_entry e is = cc

shut : (f : Forest) (w : Bool) (found : Found) → IsOwnTrail f w (trail (hop found None ∷ []) Unassigned)
shut f w found = record { own = (unused f w found, tt); ends = λ x e. absurd (no_leaf x e) }

at_leaf : (f : Forest) (w : Bool) (found : Found) → IsOwnTrail f w (trail (hop found None ∷ []) (Leaf found.0))
at_leaf f w found = record { own = (unused f w found, tt); ends = λ x e. same_leaf found.0 x e }

opened : (f : Forest) (w : Bool) (onward : Onward) (found : Found) (u : Option Entry) → used_at f w found.0.leaf found.0.offset ≡ u
    → ((s : SpaceId) (a : ℕ) → IsOwnTrail f w (onward s a)) → IsOwnTrail f w (through (Some onward) found u)
opened f w onward found None is h = shut f w found
opened f w onward found (Some e) is h =
    let t = h e.space (translated_address e found.0.offset) in record {
      own = (λ y q. is ∙ q, t.own);
      ends = λ x q. longer (hop found (Some e)) (onward e.space (translated_address e found.0.offset)).hops x (t.ends x q);
    }

pub own_trail : (f : Forest) (w : Bool) (left : ℕ) (s : SpaceId) (a : ℕ) → IsOwnTrail f w (trail_within f w left s a)
own_trail f w zero s a = go (found_at f s a)
  where
    go : (o : Option Found) → IsOwnTrail f w (trail_at f w None o)
    go None = record { own = tt; ends = λ x e. absurd (no_leaf x e) }
    go (Some found) = test (translates f found.0.leaf)
      where
        test : (b : Bool) → IsOwnTrail f w
            (if b then through None found (used_at f w found.0.leaf found.0.offset) else trail (hop found None ∷ []) (Leaf found.0))
        test true = shut f w found
        test false = at_leaf f w found
own_trail f w (suc left) s a = go (found_at f s a) (own_trail f w left)
  where
    go : (o : Option Found) → ((s : SpaceId) (a : ℕ) → IsOwnTrail f w (trail_within f w left s a))
        → IsOwnTrail f w (trail_at f w (Some (trail_within f w left)) o)
    go None h = record { own = tt; ends = λ x e. absurd (no_leaf x e) }
    go (Some found) h = test (translates f found.0.leaf)
      where
        test : (b : Bool) → IsOwnTrail f w
            (if b then through (Some (trail_within f w left)) found (used_at f w found.0.leaf found.0.offset) else trail (hop found None ∷ []) (Leaf found.0))
        test true = opened f w (trail_within f w left) found (used_at f w found.0.leaf found.0.offset) refl h
        test false = at_leaf f w found

-- hops of two addresses of one route

pub record IsAlong (n : ℕ) (x y : Hop) : Type 0 where
  pub spot : y.spot ≡ further n x.spot
  pub used : is_same_entry x.used y.used ≡ true

abbrev pub AreAlong : ℕ → List Hop → List Hop → Type 0
AreAlong n [] [] = Unit {0}
AreAlong n (x ∷ xs) (y ∷ ys) = IsAlong n x y × AreAlong n xs ys
AreAlong n _ _ = ⊥

same_itself : (u : Option Entry) → is_same_entry u u ≡ true
same_itself None = refl
same_itself (Some e) = number_itself e.iova

pub along_itself : (hs : List Hop) → AreAlong 0 hs hs
along_itself [] = tt
along_itself (h ∷ hs) =
    let at : h.spot.offset ≡ h.spot.offset + 0 = omega arith in
    (record { spot = (λ i. record { leaf = h.spot.leaf; offset = at i; attrs = h.spot.attrs }); used = same_itself h.used }, along_itself hs)

same_both : (u v x : Option Entry) → is_same_entry u v ≡ true → is_same_entry v x ≡ true → is_same_entry u x ≡ true
same_both None None x p q = q
same_both None (Some v) x p q = cc
same_both (Some u) None x p q = cc
same_both (Some u) (Some v) None p q = cc
same_both (Some u) (Some v) (Some x) p q = ap (λ n. n == x.iova) (eqb-true u.iova v.iova p) ∙ q

next_hop : (n m : ℕ) (x y z : Hop) → m ≡ n + 1 → IsAlong n x y → is_next_hop y z ≡ true → IsAlong m x z
next_hop n m x y z is h e =
    let t = and_parts (is_next_spot y.spot z.spot && is_same_entry y.used z.used) (not y.spot.attrs.unmergeable || same_path y.path z.path) e in
    let u = and_parts (is_next_spot y.spot z.spot) (is_same_entry y.used z.used) t.0 in
    let both_true : (is_next_spot y.spot z.spot && (not y.spot.attrs.unmergeable || same_path y.path z.path)) ≡ true = (λ i. u.0 i && t.1 i) in
    let after : IsAfter (y.spot, y.path) (z.spot, z.path) = is_after (y.spot, y.path) (z.spot, z.path) both_true in
    let leaf : z.spot.leaf ≡ x.spot.leaf = after.leaf ∙ ap (λ (q : Spot). q.leaf) h.spot in
    let attrs : z.spot.attrs ≡ x.spot.attrs = after.attrs ∙ ap (λ (q : Spot). q.attrs) h.spot in
    let p : y.spot.offset + 1 ≡ z.spot.offset = after.offset in
    let q : y.spot.offset ≡ x.spot.offset + n = ap (λ (q : Spot). q.offset) h.spot in
    let offset : z.spot.offset ≡ x.spot.offset + m = omega (arith, p, q, is) in
    record {
      spot = (λ i. record { leaf = leaf i; offset = offset i; attrs = attrs i });
      used = same_both x.used y.used z.used h.used u.1;
    }

next_hops : (n m : ℕ) (xs ys zs : List Hop) → m ≡ n + 1 → AreAlong n xs ys → are_next_hops ys zs ≡ true → AreAlong m xs zs
next_hops n m [] [] [] is h e = tt
next_hops n m [] [] (z ∷ zs) is h e = cc
next_hops n m [] (y ∷ ys) zs is h e = absurd h
next_hops n m (x ∷ xs) [] zs is h e = absurd h
next_hops n m (x ∷ xs) (y ∷ ys) [] is h e = cc
next_hops n m (x ∷ xs) (y ∷ ys) (z ∷ zs) is h e =
    let t = and_parts (is_next_hop y z) (are_next_hops ys zs) e in (next_hop n m x y z is h.0 t.0, next_hops n m xs ys zs is h.1 t.1)

-- two addresses of one route
pub record AreOnRoute (n : ℕ) (t u : Trail) : Type 0 where
  pub hops : AreAlong n t.hops u.hops
  pub ends : is_leaf t.target ≡ is_leaf u.target

pub on_route : (f : Forest) (w : Bool) (s : SpaceId) (a c : ℕ) → ((i : ℕ) → i + 1 < c → shares_next f w s (a + i) ≡ true) → (i : ℕ) → i < c
    → AreOnRoute i (trail_of f w s a) (trail_of f w s (a + i))
on_route f w s a c shared zero l =
    let at : a ≡ a + 0 = omega arith in
    subst (λ b. AreOnRoute 0 (trail_of f w s a) (trail_of f w s b)) at (record { hops = along_itself (trail_of f w s a).hops; ends = refl })
on_route f w s a c shared (suc i) l =
    let h = on_route f w s a c shared i (omega (arith, l)) in
    let at : a + i + 1 ≡ a + suc i = omega arith in
    let e = and_parts (are_next_hops (trail_of f w s (a + i)).hops (trail_of f w s (a + i + 1)).hops)
    (bool_eq (is_leaf (trail_of f w s (a + i)).target) (is_leaf (trail_of f w s (a + i + 1)).target)) (shared i (omega (arith, l))) in
    let more : suc i ≡ i + 1 = omega arith in
    subst (λ b. AreOnRoute (suc i) (trail_of f w s a) (trail_of f w s b)) at (record {
      hops = next_hops i (suc i) (trail_of f w s a).hops (trail_of f w s (a + i)).hops (trail_of f w s (a + i + 1)).hops more h.hops e.0;
      ends = h.ends ∙ bool_same (is_leaf (trail_of f w s (a + i)).target) (is_leaf (trail_of f w s (a + i + 1)).target) e.1;
    })

last_along : (n : ℕ) (xs ys : List Hop) (x : Spot) → AreAlong n xs ys → last_spot xs ≡ Some x → last_spot ys ≡ Some (further n x)
last_along n [] ys x h e = cc
last_along n (k ∷ ks) [] x h e = absurd h
last_along n (k ∷ []) (m ∷ []) x h e =
    let same : k.spot ≡ x = cc in ap (λ (q : Spot). let o : Option Spot = Some q in o) (h.0.spot ∙ ap (further n) same)
last_along n (k ∷ []) (m ∷ p ∷ ms) x h e = absurd h.1
last_along n (k ∷ l ∷ ks) (m ∷ []) x h e = absurd h.1
last_along n (k ∷ l ∷ ks) (m ∷ p ∷ ms) x h e = last_along n (l ∷ ks) (p ∷ ms) x h.1 e

-- where the first of them leads to a leaf, the n-th leads to the spot n bytes further on
pub leads_along : (f : Forest) (w : Bool) (n : ℕ) (t u : Trail) (x : Spot) → IsOwnTrail f w t → IsOwnTrail f w u → AreOnRoute n t u → t.target ≡ Leaf x
    → u.target ≡ Leaf (further n x)
leads_along f w n t u x own other h e = go u.target refl (sym (ap is_leaf e) ∙ h.ends)
  where
    some_same : (p q : Spot) → Some p ≡ Some q → Leaf p ≡ Leaf q
    some_same p q e = cc

    go : (v : Target) → u.target ≡ v → true ≡ is_leaf v → u.target ≡ Leaf (further n x)
    go Unassigned is l = cc
    go (Leaf z) is l = is ∙ some_same z (further n x) (sym (other.ends z is) ∙ last_along n t.hops u.hops x h.hops (own.ends x e))

-- pages

pub record IsTable (es : List Entry) : Type 0 where
  pub order : AreEntries es
  pub pages : ArePages es

table : (f : Forest) → IsClosedForest f → (r : RegionId) → IsTable (entries_of f r)
table f closed r = go (node_of f.nodes r) refl
  where
    go : (o : Option Node) → node_of f.nodes r ≡ o → IsTable (unwrap_or (option_map (λ (m : Node). m.entries) o) [])
    go None e = record { order = tt; pages = tt }
    go (Some n) e =
        let region : IsRegion f.nodes n = (every_node_of (IsRegion f.nodes) f.nodes r n e closed.regions).0 in
        record { order = region.entries; pages = region.pages }

-- the bytes from an offset on that lie in its page
left_in_page : (e : Entry) → IsPage e → (o : ℕ) → e.iova ≤ o → o ≤ e.iova + e.mask → bit_and o e.mask ≡ o - e.iova
left_in_page e p o l u =
    let is : e.mask ≡ 2 ^ p.power - 1 = let q : e.mask + 1 ≡ 2 ^ p.power = p.size in omega (arith, q) in
    let at : IsIn e p o = in_page e p o l u in ap (bit_and o) is ∙ and_mask o p.power ∙ at.rest

-- as many bytes as the hops go along stay in the page of the first
hop_page : (f : Forest) (closed : IsClosedForest f) (w : Bool) (n left : ℕ) (x y : Hop) → IsOwnHop f w x → IsOwnHop f w y → IsAlong n x y
    → n + 1 ≤ left → n + 1 ≤ core.in_page x.used x.spot.offset left
hop_page f closed w n left x y own other h l = go x.used refl y.used refl h.used
  where
    es : List Entry
    es = entries_of f x.spot.leaf

    tables : IsTable es
    tables = table f closed x.spot.leaf

    go : (u : Option Entry) → x.used ≡ u → (v : Option Entry) → y.used ≡ v → is_same_entry u v ≡ true → n + 1 ≤ core.in_page u x.spot.offset left
    go None p v q e = l
    go (Some d) p None q e = cc
    go (Some d) p (Some g) q e =
        let leaf : y.spot.leaf ≡ x.spot.leaf = ap (λ (z : Spot). z.leaf) h.spot in
        let at : y.spot.offset ≡ x.spot.offset + n = ap (λ (z : Spot). z.offset) h.spot in
        let same : d.iova ≡ g.iova = eqb-true d.iova g.iova e in
        let first : IsUsed es w x.spot.offset d = is_used es w x.spot.offset d tables.pages (own d p) in
        let last_used : if_permitted w (translation_at es (x.spot.offset + n)) ≡ Some g =
        (λ i. if_permitted w (translation_at (entries_of f (sym leaf i)) (sym at i))) ∙ other g q in
        let last : IsUsed es w (x.spot.offset + n) g = is_used es w (x.spot.offset + n) g tables.pages last_used in
        inside d g same first last (cases_lt (d.iova + d.mask) (x.spot.offset + n))
      where
        inside : (d g : Entry) → d.iova ≡ g.iova → IsUsed es w x.spot.offset d → IsUsed es w (x.spot.offset + n) g
            → (d.iova + d.mask < x.spot.offset + n) ⊎ (x.spot.offset + n ≤ d.iova + d.mask) → n + 1 ≤ min left (d.mask + 1 - bit_and x.spot.offset d.mask)
        inside d g same first last (inl past) =
            let b = found_past es x.spot.offset (x.spot.offset + n) d g tables.order (are_pages es tables.pages) first.found past last.found in
            absurd (omega (arith, same, b))
        inside d g same first last (inr within) =
            let low : d.iova ≤ x.spot.offset = first.low in
            let high : x.spot.offset ≤ d.iova + d.mask = first.high in
            let bits : bit_and x.spot.offset d.mask ≡ x.spot.offset - d.iova = left_in_page d first.page x.spot.offset low high in
            let fits : n + 1 ≤ d.mask + 1 - (x.spot.offset - d.iova) = omega (arith, low, within) in
            let there : n + 1 ≤ d.mask + 1 - bit_and x.spot.offset d.mask = subst (λ b. n + 1 ≤ d.mask + 1 - b) (sym bits) fits in
            omega (arith, l, there)

pub hops_pages : (f : Forest) (closed : IsClosedForest f) (w : Bool) (n left : ℕ) (xs ys : List Hop) → Every (IsOwnHop f w) xs → Every (IsOwnHop f w) ys
    → AreAlong n xs ys → n + 1 ≤ left → n + 1 ≤ core.in_pages xs left
hops_pages f closed w n left [] ys own other h l = l
hops_pages f closed w n left (x ∷ xs) [] own other h l = absurd h
hops_pages f closed w n left (x ∷ xs) (y ∷ ys) own other h l =
    hops_pages f closed w n (core.in_page x.used x.spot.offset left) xs ys own.1 other.1 h.1 (hop_page f closed w n left x y own.0 other.0 h.0 l)
