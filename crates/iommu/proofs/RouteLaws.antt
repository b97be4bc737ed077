-- A whole route: the translations that are used so far, and the way that is left.
use Rattle.std.proofs.Common.{◌≡◌, ℕ, suc, ◌+◌, ◌-◌, ◌*◌, ◌^◌, ◌<◌, ◌≤◌, Bool, List, [], ◌∷◌, ◌++◌, length, sym, refl, ap, ◌∙◌, arith}
use Rattle.std.proofs.lemmas.Nat.{mul-le}
use Rattle.mem_base.specs.declared.map.ids.SpaceId.{SpaceId}
use Rattle.mem_base.specs.declared.map.forests.Forest.{Forest}
use Rattle.mem_base.specs.declared.map.translations.Entry.{Entry}
use Rattle.mem_base.specs.declared.access.accesses.Target.{Target}
use Rattle.mem_base.specs.access.Trails.{Route, route_of}
use Rattle.iommu.specs.Probes.{IsBoundOfAll}
use Rattle.iommu.specs.Ways.{way, way_within, leads_through}
use Rattle.mem_base.specs.map.Limits.{most_translations}

-- a route by the translations that are used first, and the route from there on
abbrev pub after : List Entry → Route → Route
after [] r = r
after (e ∷ es) r = leads_through e (after es r)

after_more : (es : List Entry) (e : Entry) (r : Route) → after (es ++ e ∷ []) r ≡ after es (leads_through e r)
after_more [] e r = refl
after_more (x ∷ xs) e r = ap (leads_through x) (after_more xs e r)

after_end : (es : List Entry) (t : Target) (n : ℕ) → after es (way t n []) ≡ way t n es
after_end [] t n = refl
after_end (x ∷ xs) t n = ap (leads_through x) (after_end xs t n)

length_more : (es : List Entry) (e : Entry) → length (es ++ e ∷ []) ≡ length es + 1
length_more [] e = refl
length_more (x ∷ xs) e = let k = length_more xs e in omega arith

-- after i hops these translations were used, and the whole route is the one that is left after them
pub record IsOnTheWay (f : Forest) (w : Bool) (s0 : SpaceId) (a0 n0 : ℕ) (used : List Entry) (i : ℕ) (s : SpaceId) (a n : ℕ) : Type 0 where
  pub left : ℕ
  pub all : i + left ≡ 8
  pub count : length used ≡ i
  pub some : 0 < n
  pub narrowed : n ≤ n0
  pub within : a + n ≤ 2 ^ 64
  pub route : way_within f w 8 s0 a0 n0 ≡ after used (way_within f w left s a n)

whole : (f : Forest) (w : Bool) (s : SpaceId) (a n : ℕ) → route_of f w s a n ≡ way_within f w 8 s a n
unfolding way_within
whole f w s a n = refl

pub begins : (f : Forest) (w : Bool) (s : SpaceId) (a n : ℕ) (used : List Entry) → used ≡ [] → 0 < n → a + n ≤ 2 ^ 64 → IsOnTheWay f w s a n used 0 s a n
begins f w s a n used e l k = record {
  left = 8;
  all = refl;
  count = ap (λ (es : List Entry). length es) e;
  some = l;
  narrowed = omega arith;
  within = k;
  route = ap (λ (es : List Entry). after es (way_within f w 8 s a n)) (sym e);
}

-- a hop that ends the route
pub ended : (f : Forest) (w : Bool) (s0 : SpaceId) (a0 n0 : ℕ) (used : List Entry) (i : ℕ) (s : SpaceId) (a n : ℕ) (to : Target) (m : ℕ)
    → IsOnTheWay f w s0 a0 n0 used i s a n → i < 8 → ((left : ℕ) → way_within f w (suc left) s a n ≡ way to m [])
    → route_of f w s0 a0 n0 ≡ way to m used
ended f w s0 a0 n0 used i s a n to m h l e =
    let all = h.all in
    let at : h.left ≡ suc (h.left - 1) = omega arith in
    whole f w s0 a0 n0 ∙ h.route ∙ ap (λ (k : ℕ). after used (way_within f w k s a n)) at ∙ ap (after used) (e (h.left - 1)) ∙ after_end used to m

-- the last search ends it
pub ended_last : (f : Forest) (w : Bool) (s0 : SpaceId) (a0 n0 : ℕ) (used : List Entry) (i : ℕ) (s : SpaceId) (a n : ℕ) (to : Target) (m : ℕ)
    → IsOnTheWay f w s0 a0 n0 used i s a n → 8 ≤ i → way_within f w 0 s a n ≡ way to m [] → route_of f w s0 a0 n0 ≡ way to m used
ended_last f w s0 a0 n0 used i s a n to m h l e =
    let all = h.all in
    let at : h.left ≡ 0 = omega arith in
    whole f w s0 a0 n0 ∙ h.route ∙ ap (λ (k : ℕ). after used (way_within f w k s a n)) at ∙ ap (after used) e ∙ after_end used to m

-- a hop that leads on
pub went_on : (f : Forest) (w : Bool) (s0 : SpaceId) (a0 n0 : ℕ) (used : List Entry) (i : ℕ) (s : SpaceId) (a n : ℕ) (q : Entry) (b m : ℕ)
    (more : List Entry) → more ≡ used ++ q ∷ [] → IsOnTheWay f w s0 a0 n0 used i s a n → i < 8
    → ((left : ℕ) → way_within f w (suc left) s a n ≡ leads_through q (way_within f w left q.space b m))
    → (0 < m) × (m ≤ n) × (b + m ≤ 2 ^ 64) → IsOnTheWay f w s0 a0 n0 more (i + 1) q.space b m
went_on f w s0 a0 n0 used i s a n q b m more g h l e lead =
    let all = h.all in
    let count : length used ≡ i = h.count in
    let at : h.left ≡ suc (h.left - 1) = omega arith in
    record {
      left = h.left - 1;
      all = omega arith;
      count = ap (λ (es : List Entry). length es) g ∙ length_more used q ∙ ap (λ (k : ℕ). k + 1) count;
      some = lead.0;
      narrowed = let a = lead.1 in let b = h.narrowed in omega arith;
      within = lead.2;
      route =
          h.route ∙ ap (λ (k : ℕ). after used (way_within f w k s a n)) at ∙ ap (after used) (e (h.left - 1))
          ∙ sym (after_more used q (way_within f w (h.left - 1) q.space b m))
          ∙ ap (λ (es : List Entry). after es (way_within f w (h.left - 1) q.space b m)) (sym g);
    }

-- ---- probes

-- after i hops there were at most i look-ups
abbrev pub AreProbesOf : Forest → ℕ → ℕ → ℕ → Type 0
AreProbesOf f i before now = (k : ℕ) → IsBoundOfAll f k → now ≤ before + i * k

pub no_probes : (f : Forest) (before : ℕ) → AreProbesOf f 0 before before
no_probes f before k b = omega arith

pub more_probes : (f : Forest) (i before now next : ℕ) → AreProbesOf f i before now → ((k : ℕ) → IsBoundOfAll f k → next ≤ now + k)
    → AreProbesOf f (i + 1) before next
more_probes f i before now next h e k b =
    let x = h k b in
    let y = e k b in
    let z : (i + 1) * k ≡ i * k + k = grind arith in
    omega arith

pub all_probes : (f : Forest) (i before now next : ℕ) → i ≤ most_translations → AreProbesOf f i before now → ((k : ℕ) → IsBoundOfAll f k → next ≤ now + k)
    → (k : ℕ) → IsBoundOfAll f k → next ≤ before + (most_translations + 1) * k
all_probes f i before now next l h e k b =
    let x = h k b in
    let y = e k b in
    let z : i * k ≤ most_translations * k = mul-le i k most_translations k l (omega arith) in
    omega arith
