-- How neighbouring trails share a route, hop by hop.
use Rattle.std.proofs.Common.{◌≡◌, ℕ, zero, suc, ◌+◌, ◌<◌, Bool, true, false, not, ◌&&◌, ◌||◌, List, [], ◌∷◌, Option, Some, None}
use Rattle.std.proofs.Common.{sym, refl, ap, ◌∙◌, cond, arith}
use Rattle.std.specs.Prelude.{option_map}
use Rattle.std.proofs.lemmas.Bool.{false≢true, and_parts}
use Rattle.mem_base.specs.declared.map.ids.SpaceId.{SpaceId}
use Rattle.mem_base.specs.declared.map.forests.Forest.{Forest}
use Rattle.mem_base.specs.declared.map.spots.Spot.{Spot}
use Rattle.mem_base.specs.declared.map.translations.Entry.{Entry}
use Rattle.mem_base.specs.declared.access.accesses.Target.{Target}
use Rattle.mem_base.specs.declared.access.accesses.Target.TheVariants.{Leaf, Unassigned}
use Rattle.mem_base.specs.lists.Booleans.{bool_eq}
use Rattle.mem_base.specs.map.Search.{Found, found_at, spot_of, path_of}
use Rattle.mem_base.specs.views.Flattened.{same_path}
use Rattle.mem_base.specs.access.Translations.{translates, used_at, translated_address}
use Rattle.mem_base.specs.access.Trails.{Hop, hop, Trail, trail, Onward, begins_with, through, trail_at, trail_within, is_next_spot, is_next_hop}
use Rattle.mem_base.specs.access.Trails.{is_same_entry, is_leaf, is_next_trail}
use Rattle.iommu.specs.Ways.{further, is_next_found, joins, IsStretch, shares_within}
use Rattle.iommu.proofs.FoundLaws.{some_found}
use Rattle.mem_base.proofs.BoolLaws.{number_itself}

-- how a trail goes on from a translation, where `left` of them may still be used
abbrev pub onward : Forest → Bool → ℕ → Option Onward
onward f w zero = None
onward f w (suc left) = Some (trail_within f w left)

pub trail_is : (f : Forest) (w : Bool) (left : ℕ) (s : SpaceId) (a : ℕ) → trail_within f w left s a ≡ trail_at f w (onward f w left) (found_at f s a)
trail_is f w zero s a = refl
trail_is f w (suc left) s a = refl

-- ---- hops

three : (a b c : Bool) → a ≡ true → c ≡ true → ((a && b) && c) ≡ b
three true true c p q = q
three true false c p q = refl
three false b c p q = absurd (false≢true p)

apart_three : (a b c : Bool) → (a && c) ≡ false → ((a && b) && c) ≡ false
apart_three true true c e = e
apart_three true false c e = refl
apart_three false b c e = refl

-- two hops that find a spot and the byte after it are neighbours where they use the same
next_hop : (x y : Found) (u v : Option Entry) → is_next_found x y ≡ true → is_next_hop (hop x u) (hop y v) ≡ is_same_entry u v
next_hop x y u v e =
    let k = and_parts (is_next_spot x.0 y.0) (not x.0.attrs.unmergeable || same_path x.1 y.1) e in
    three (is_next_spot x.0 y.0) (is_same_entry u v) (not x.0.attrs.unmergeable || same_path x.1 y.1) k.0 k.1

apart_hop : (x y : Found) (u v : Option Entry) → is_next_found x y ≡ false → is_next_hop (hop x u) (hop y v) ≡ false
apart_hop x y u v e = apart_three (is_next_spot x.0 y.0) (is_same_entry u v) (not x.0.attrs.unmergeable || same_path x.1 y.1) e

-- where the first search finds something, the first hop is at it
record BeginsAt (x : Found) (t : Trail) : Type 0 where
  used : Option Entry
  rest : List Hop
  hops : t.hops ≡ hop x used ∷ rest

begins_through : (o : Option Onward) (x : Found) (u : Option Entry) → BeginsAt x (through o x u)
begins_through None x u = record { used = None; rest = []; hops = refl }
begins_through (Some o) x None = record { used = None; rest = []; hops = refl }
begins_through (Some o) x (Some e) = record { used = Some e; rest = (o e.space (translated_address e x.0.offset)).hops; hops = refl }

begins_at : (f : Forest) (w : Bool) (o : Option Onward) (x : Found) → BeginsAt x (trail_at f w o (Some x))
begins_at f w o x = by (translates f x.0.leaf)
  where
    by : (b : Bool) → BeginsAt x (cond b (through o x (used_at f w x.0.leaf x.0.offset)) (trail (hop x None ∷ []) (Leaf x.0)))
    by true = begins_through o x (used_at f w x.0.leaf x.0.offset)
    by false = record { used = None; rest = []; hops = refl }

-- trails part where what the first searches find does
parted : (x y : Found) (t u : Trail) → BeginsAt x t → BeginsAt y u → is_next_found x y ≡ false → is_next_trail t u ≡ false
parted x y t u p q apart = let h = apart_hop x y p.used q.used apart in rw (p.hops, q.hops, h) refl

parted_none : (y : Found) (t u : Trail) → t.hops ≡ [] → BeginsAt y u → is_next_trail t u ≡ false
parted_none y t u p q = rw (p, q.hops) refl

none_parted : (x : Found) (t u : Trail) → BeginsAt x t → u.hops ≡ [] → is_next_trail t u ≡ false
none_parted x t u p q = rw (p.hops, q) refl

pub trails_part : (f : Forest) (w : Bool) (o : Option Onward) (x y : Option Found) → joins x y ≡ false
    → is_next_trail (trail_at f w o x) (trail_at f w o y) ≡ false
trails_part f w o None None apart = absurd (false≢true (sym apart))
trails_part f w o None (Some y) apart = parted_none y (trail [] Unassigned) (trail_at f w o (Some y)) refl (begins_at f w o y)
trails_part f w o (Some x) None apart = none_parted x (trail_at f w o (Some x)) (trail [] Unassigned) (begins_at f w o x) refl
trails_part f w o (Some x) (Some y) apart = parted x y _ _ (begins_at f w o x) (begins_at f w o y) apart

-- a leaf of another kind ends the trail
pub leaf_trail : (f : Forest) (w : Bool) (o : Option Onward) (x : Found) → translates f x.0.leaf ≡ false
    → trail_at f w o (Some x) ≡ trail (hop x None ∷ []) (Leaf x.0)
leaf_trail f w o x e = ap (λ (b : Bool). cond b (through o x (used_at f w x.0.leaf x.0.offset)) (trail (hop x None ∷ []) (Leaf x.0))) e

-- an IOMMU region leads through what is used there
pub through_trail : (f : Forest) (w : Bool) (o : Option Onward) (x : Found) (u : Option Entry) → translates f x.0.leaf ≡ true
    → used_at f w x.0.leaf x.0.offset ≡ u → trail_at f w o (Some x) ≡ through o x u
through_trail f w o x u e h =
    ap (λ (b : Bool). cond b (through o x (used_at f w x.0.leaf x.0.offset)) (trail (hop x None ∷ []) (Leaf x.0))) e ∙ ap (through o x) h

-- two ends without a translation
pub same_ends : (x y : Found) (t u : Target) → is_next_found x y ≡ true → bool_eq (is_leaf t) (is_leaf u) ≡ true
    → is_next_trail (trail (hop x None ∷ []) t) (trail (hop y None ∷ []) u) ≡ true
same_ends x y t u p q = let h = next_hop x y None None p in rw (h, q) refl

-- the same translation on the way of two neighbours
pub same_on : (x y : Found) (e : Entry) (t u : Trail) → is_next_found x y ≡ true
    → is_next_trail (begins_with (hop x (Some e)) t) (begins_with (hop y (Some e)) u) ≡ is_next_trail t u
same_on x y e t u p = let h = next_hop x y (Some e) (Some e) p ∙ number_itself e.iova in rw h refl

through_hops : (o : Onward) (x : Found) (u : Option Entry) → (rest : List Hop) × ((through (Some o) x u).hops ≡ hop x u ∷ rest)
through_hops o x None = ([], refl)
through_hops o x (Some e) = ((o e.space (translated_address e x.0.offset)).hops, refl)

-- two translations, or one beside none, part the trails
pub uses_part : (o : Onward) (x y : Found) (u v : Option Entry) → is_next_found x y ≡ true → is_same_entry u v ≡ false
    → is_next_trail (through (Some o) x u) (through (Some o) y v) ≡ false
uses_part o x y u v n e =
    let p = (through_hops o x u).1 in
    let q = (through_hops o y v).1 in
    let h = next_hop x y u v n ∙ e in
    rw (p, q, h) refl

-- ---- one address of a stretch and the next

pub at_next : (a i : ℕ) → a + i + 1 ≡ a + (i + 1)
at_next a i = omega arith

-- whether two neighbours share the route, by what the searches find at them
pub shares_by : (f : Forest) (w : Bool) (left : ℕ) (s : SpaceId) (a i : ℕ) (x y : Option Found) → found_at f s (a + i) ≡ x → found_at f s (a + (i + 1)) ≡ y
    → shares_within f w left s (a + i) ≡ is_next_trail (trail_at f w (onward f w left) x) (trail_at f w (onward f w left) y)
shares_by f w left s a i x y p q =
    let o = onward f w left in
    let first : trail_within f w left s (a + i) ≡ trail_at f w o x = trail_is f w left s (a + i) ∙ ap (trail_at f w o) p in
    let second : trail_within f w left s (a + i + 1) ≡ trail_at f w o y =
    ap (trail_within f w left s) (at_next a i) ∙ trail_is f w left s (a + (i + 1)) ∙ ap (trail_at f w o) q in
    ap (λ (t : Trail). is_next_trail t (trail_within f w left s (a + i + 1))) first ∙ ap (is_next_trail (trail_at f w o x)) second

-- what is found at an address of a stretch that begins with a spot, and at the next address
pub record AreNeighbours (f : Forest) (s : SpaceId) (a i : ℕ) (x : Spot) : Type 0 where
  pub here : Found
  pub next : Found
  pub here_is : found_at f s (a + i) ≡ Some here
  pub next_is : found_at f s (a + (i + 1)) ≡ Some next
  pub here_spot : here.0 ≡ further i x
  pub next_spot : next.0 ≡ further (i + 1) x
  pub joined : is_next_found here next ≡ true

pub neighbours : (f : Forest) (s : SpaceId) (a m n : ℕ) (x : Spot) → IsStretch (found_at f s) a m n → spot_of (found_at f s a) ≡ Some x → (i : ℕ)
    → i + 1 < m
    → AreNeighbours f s a i x
neighbours f s a m n x h e i l =
    let p = some_found (found_at f s (a + i)) (further i x) (h.spots i (omega arith) ∙ ap (option_map (further i)) e) in
    let q = some_found (found_at f s (a + (i + 1))) (further (i + 1) x) (h.spots (i + 1) l ∙ ap (option_map (further (i + 1))) e) in
    record {
      here = (further i x, path_of (found_at f s (a + i)));
      next = (further (i + 1) x, path_of (found_at f s (a + (i + 1))));
      here_is = p;
      next_is = q;
      here_spot = refl;
      next_spot = refl;
      joined = sym (ap (λ (o : Option Found). joins o (found_at f s (a + (i + 1)))) p
          ∙ ap (joins (Some (further i x, path_of (found_at f s (a + i))))) q) ∙ h.joined i l;
    }
