-- What the first fit gives is free: it lies in the pool and meets no place.
use Rattle.std.proofs.Common.{◌≡◌, ◌⊎◌, ℕ, zero, suc, ◌+◌, ◌-◌, ◌<◌, ◌≤◌, Bool, true, false, ◌&&◌, ◌||◌, List, [], ◌∷◌, ◌++◌, refl, subst}
use Rattle.std.proofs.Common.{inl, inr, arith, if◌then◌else◌, Some, None, ⊎_elim}
use Rattle.std.specs.Prelude.{find, option_map, nat_le, nat_lt, ◌==◌}
use Rattle.std.specs.List.{list_any}
use Rattle.std.proofs.lemmas.Bool.{cases_lt, leb-true, le-leb, lt-ltb, not-true, and_from}
use Rattle.mem_base.specs.declared.map.ids.RegionId.{RegionId}
use Rattle.mem_base.specs.declared.access.cells.Place.{Place}
use Rattle.mem_base.specs.lists.Booleans.{bool_eq}
use Rattle.mem_base.specs.lists.Every.{Every}
use Rattle.mem_base.specs.access.PlacesByRegion.{place_in}
use Rattle.mem_base.specs.lists.Runs.{Run, runs, put_before}
use Rattle.mem_base.specs.access.Places.{past, is_free, is_as_free, holes, first_fit, notifiers_place}
use Rattle.mem_base.proofs.EveryLaws.{both as both_each}
use Rattle.view_laws.specs.Cuts.{IsRun, AreRuns}
use Rattle.view_laws.proofs.Tests.{none_is_not_some, same_number, same_place}
use Rattle.view_laws.proofs.CutLaws.{Begins, begins, longest}
use Rattle.view_laws.proofs.SortedLaws.{every_filter}
use Rattle.mem_base.proofs.BoolLaws.{true_is_not_false}

-- runs end where the numbers do

abbrev EndBy : ℕ → List Run → Type 0
EndBy end rs = Every (λ r. r.start + r.length ≤ end) rs

within_put : (b : Bool) (a end : ℕ) (rs : List Run) → Begins (a + 1) rs → a + 1 ≤ end → EndBy end rs → EndBy end (put_before b a rs)
within_put true a end [] h l k = (l, tt)
within_put true a end (r ∷ rs) h l k = (let m = k.0 in omega arith, k.1)
within_put false a end rs h l k = (l, k)

within : (with_next : ℕ → Bool) (a n end : ℕ) → a + n ≤ end → EndBy end (runs with_next a n)
within with_next a zero end l = tt
within with_next a (suc n) end l = within_put (with_next a) a end (runs with_next (a + 1) n) (begins with_next (a + 1) n) (omega arith)
    (within with_next (a + 1) n end (omega arith))

each_run : (with_next : ℕ → Bool) (rs : List Run) → AreRuns with_next rs → Every (IsRun with_next) rs
each_run with_next [] h = tt
each_run with_next (r ∷ rs) h = (h.0, each_run with_next rs h.2)

-- a hole lies in the pool, and each of its words is free
pub record IsHole (pool_words : ℕ) (places : List Place) (h : Run) : Type 0 where
  pub inside : h.start + h.length ≤ pool_words
  pub free : (i : ℕ) → i < h.length → is_free places (h.start + i) ≡ true

next_free : (places : List Place) (w : ℕ) → is_free places w ≡ true → is_as_free places w ≡ true → is_free places (w + 1) ≡ true
next_free places w h e = subst (λ (b : Bool). bool_eq b (is_free places (w + 1)) ≡ true) h e

all_free : (places : List Place) (h : Run) → IsRun (is_as_free places) h → is_free places h.start ≡ true → (i : ℕ) → i < h.length
    → is_free places (h.start + i) ≡ true
all_free places h k f zero l = subst (λ (z : ℕ). is_free places z ≡ true) (let e : h.start ≡ h.start + 0 = omega arith in e) f
all_free places h k f (suc i) l = subst (λ (z : ℕ). is_free places z ≡ true) (let e : h.start + i + 1 ≡ h.start + suc i = omega arith in e)
    (next_free places (h.start + i) (all_free places h k f i (omega arith)) (k.together i (omega arith)))

pub are_holes : (pool_words : ℕ) (places : List Place) → Every (IsHole pool_words places) (holes pool_words places)
unfolding holes
are_holes pool_words places =
    every_filter (λ h. (h.start + h.length ≤ pool_words) × IsRun (is_as_free places) h) (IsHole pool_words places) (λ h. is_free places h.start)
    (runs (is_as_free places) 0 pool_words)
    (λ h f k. record { inside = k.0; free = all_free places h k.1 f })
    (both_each (λ h. h.start + h.length ≤ pool_words) (IsRun (is_as_free places)) (runs (is_as_free places) 0 pool_words)
    (within (is_as_free places) 0 pool_words pool_words (omega arith))
    (each_run (is_as_free places) (runs (is_as_free places) 0 pool_words) (longest (is_as_free places) 0 pool_words)))

-- what is found first has at least the words asked for
found_hole : (n pool_words : ℕ) (places : List Place) (hs : List Run) → Every (IsHole pool_words places) hs → (s : ℕ) → option_map (λ h. h.start)
    (find (λ h. nat_le n h.length) hs) ≡ Some s
    → (h : Run) × IsHole pool_words places h × (n ≤ h.length) × (h.start ≡ s)
found_hole n pool_words places [] k s e = none_is_not_some s e
found_hole n pool_words places (h ∷ hs) k s e = go (nat_le n h.length) refl e (found_hole n pool_words places hs k.1 s)
  where
    go : (b : Bool) → nat_le n h.length ≡ b → option_map (λ h. h.start) (if b then Some h else find (λ h. nat_le n h.length) hs) ≡ Some s
        → (option_map (λ h. h.start) (find (λ h. nat_le n h.length) hs) ≡ Some s → (h : Run) × IsHole pool_words places h × (n ≤ h.length) × (h.start ≡ s))
        → (h : Run) × IsHole pool_words places h × (n ≤ h.length) × (h.start ≡ s)
    go true f e rest = (h, k.0, leb-true _ _ f, same_number h.start s e)
    go false f e rest = rest e

-- where the first fit is
pub record Fits (pool_words n s : ℕ) (places : List Place) : Type 0 where
  pub inside : s + n ≤ pool_words
  pub free : (i : ℕ) → i < n → is_free places (s + i) ≡ true

pub fits : (pool_words n s : ℕ) (places : List Place) → first_fit pool_words places n ≡ Some s → Fits pool_words n s places
fits pool_words n s places e = let t = found_hole n pool_words places (holes pool_words places) (are_holes pool_words places) s e in
    let l = t.2 in let h = t.1.inside in let same = t.3 in record {
      inside = omega arith;
      free = λ i m. subst (λ (z : ℕ). is_free places (z + i) ≡ true) same (t.1.free i (omega arith));
    }

-- free words meet no place that has words

abbrev is_at : Place → ℕ → Bool
is_at p w = nat_le p.start w && nat_lt w (past p)

no_overlap : (s n : ℕ) (p : Place) → 0 < n → 0 < p.words → ((i : ℕ) → i < n → is_at p (s + i) ≡ false) → (s + n ≤ p.start) ⊎ (p.start + p.words ≤ s)
no_overlap s n p some m free = ⊎_elim
    (λ below. ⊎_elim
    (λ meets. true_is_not_false (is_at p (s + (p.start - s))) (at (p.start - s) (omega arith) (omega arith)) (free (p.start - s) (omega arith)))
    (λ past. inl past)
    (cases_lt p.start (s + n)))
    (λ above. ⊎_elim
    (λ meets. true_is_not_false (is_at p (s + 0)) (at 0 (omega arith) (omega arith)) (free 0 some))
    (λ past. inr past)
    (cases_lt s (p.start + p.words)))
    (cases_lt s p.start)
  where
    at : (i : ℕ) → p.start ≤ s + i → s + i < p.start + p.words → is_at p (s + i) ≡ true
    at i l m = and_from _ _ (le-leb p.start (s + i) l) (lt-ltb (s + i) (p.start + p.words) m)

none_of_any : {A : Type 0} (test : A → Bool) (x : A) (xs : List A) → list_any test (x ∷ xs) ≡ false → (test x ≡ false) × (list_any test xs ≡ false)
none_of_any test x xs h = go (test x) refl h
  where
    go : (b : Bool) → test x ≡ b → (b || list_any test xs) ≡ false → (test x ≡ false) × (list_any test xs ≡ false)
    go true e h = absurd (grind arith)
    go false e h = (e, h)

clear_of : (pool_words n s : ℕ) (places : List Place) → 0 < n → s + n ≤ pool_words
    → ((i : ℕ) → i < n → list_any (λ p. is_at p (s + i)) places ≡ false) → Every (λ p. 0 < p.words) places
    → (r : RegionId) (q : Place) → place_in (places ++ notifiers_place pool_words ∷ []) r ≡ Some q → (s + n ≤ q.start) ⊎ (q.start + q.words ≤ s)
clear_of pool_words n s [] some l free k r q is = go ((notifiers_place pool_words).region.0 == r.0) is
  where
    go : (b : Bool) → (if b then Some (notifiers_place pool_words) else None) ≡ Some q → (s + n ≤ q.start) ⊎ (q.start + q.words ≤ s)
    go true e = subst (λ (z : Place). (s + n ≤ z.start) ⊎ (z.start + z.words ≤ s)) (same_place _ q e) (inl l)
    go false e = none_is_not_some q e
clear_of pool_words n s (p ∷ ps) some l free k r q is =
    go (p.region.0 == r.0) (clear_of pool_words n s ps some l (λ i m. (none_of_any (λ p. is_at p (s + i)) p ps (free i m)).1) k.1 r q) is
  where
    go : (b : Bool) → (place_in (ps ++ notifiers_place pool_words ∷ []) r ≡ Some q → (s + n ≤ q.start) ⊎ (q.start + q.words ≤ s))
        → (if b then Some p else place_in (ps ++ notifiers_place pool_words ∷ []) r) ≡ Some q → (s + n ≤ q.start) ⊎ (q.start + q.words ≤ s)
    go true rest e = subst (λ (z : Place). (s + n ≤ z.start) ⊎ (z.start + z.words ≤ s)) (same_place p q e)
        (no_overlap s n p some k.0 (λ i m. (none_of_any (λ p. is_at p (s + i)) p ps (free i m)).0))
    go false rest e = rest e

-- the first fit is clear of all places
pub clear : (pool_words n s : ℕ) (places : List Place) → 0 < n → Fits pool_words n s places → Every (λ p. 0 < p.words) places
    → (r : RegionId) (q : Place) → place_in (places ++ notifiers_place pool_words ∷ []) r ≡ Some q → (s + n ≤ q.start) ⊎ (q.start + q.words ≤ s)
clear pool_words n s places some f k r q is = clear_of pool_words n s places some f.inside (λ i l. not-true _ (f.free i l)) k r q is
