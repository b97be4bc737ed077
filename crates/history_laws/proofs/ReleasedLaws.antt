-- A reap releases just the dropped regions that no held generation names.
use Rattle.std.proofs.Common.{◌≡◌, ◌⊎◌, ℕ, zero, suc, ◌+◌, ◌-◌, ◌<◌, ◌≤◌, min, eq-eqb, Bool, true, false, ◌&&◌, ◌||◌, List, [], ◌∷◌, length}
use Rattle.std.proofs.Common.{take, get_or, set, map, sym, refl, ap, ◌∙◌, subst, inl, inr, arith, length-set, get_or-set_other}
use Rattle.std.proofs.Common.{get_or-set_same, Option, Some, None}
use Rattle.std.specs.Prelude.{slice_get, nat_le, not, ◌==◌, Contains, IsSomeAnd}
use Rattle.std.specs.List.{list_any, range_with_len}
use Rattle.std.proofs.lemmas.Bool.{leb-true, le-leb, leb-false, eqb-true, and_parts, and_from, or_left, or_right, not-true, not_from_false}
use mathlib.Core.Logic.{dite}
use native.Mathlib.Decide.{ℕ_discrete}
use Rattle.mem_base.specs.declared.map.ids.RegionId.{RegionId}
use Rattle.mem_base.specs.map.PassIds.{PassId}
use Rattle.mem_base.specs.declared.map.forests.Forest.{Forest}
use Rattle.mem_base.specs.declared.access.cells.Place.{Place}
use Rattle.mem_base.specs.declared.machine.events.Event.TheVariants as events
use Rattle.mem_base.specs.lists.Every.{Every}
use Rattle.mem_base.specs.views.Naming.{names}
use Rattle.mem_base.specs.machine.Passes.{pass_of}
use Rattle.mem_base.specs.machine.Generations.{Generation, Generations, PassTrack, nothing_known, known_of, known_after_sweep, lowest_after}
use Rattle.mem_base.specs.machine.Generations.{pin_word, is_held, generation_of, least_lowest}
use Rattle.mem_base.specs.machine.Publishing.{current_forest, forest_in}
use Rattle.mem_base.specs.machine.Reaps.{Writer, is_named, is_among, released, reaped}
use Rattle.mem_base.specs.machine.Orders.{sweeps}
use Rattle.mem_base.specs.machine.World.{World, world_after, opening}
use Rattle.mem_base.specs.machine.History.{PureEntry, after_entries, run_events, IsLegal}
use Rattle.view_laws.proofs.SortedLaws.{filter_out, filter_in}
use Rattle.view_laws.specs.Named.{Names}
use Rattle.history_laws.specs.Released.{HeldNames, ReleasesUnnamed, AreFoundFree}
use Rattle.view_laws.proofs.Tests.{none_is_not_some}
use Rattle.view_laws.proofs.LiveLaws.{In}
use Rattle.view_laws.proofs.LiveMembers.{contained, one_of}
use Rattle.view_laws.proofs.NamingLaws.{names_leaves}
use Rattle.history_laws.proofs.OrderLaws.{order}
use Rattle.mem_base.proofs.PassTurnLaws.{least_within}
use Rattle.std.proofs.lemmas.Option.{same_Some}
use Rattle.mem_base.proofs.BoolLaws.{true_is_not_false}

-- a test that holds of one of the first elements of a list

record Found {A : Type 0} (test : A → Bool) (m : ℕ) (xs : List A) : Type 0 where
  at : ℕ
  below : at < m
  item : A
  there : slice_get xs at ≡ Some item
  passes : test item ≡ true

found : {A : Type 0} (test : A → Bool) (m : ℕ) (xs : List A) → list_any test (take m xs) ≡ true → Found test m xs
found test zero xs h = absurd (grind arith)
found test (suc m) [] h = absurd (grind arith)
found test (suc m) (x ∷ xs) h = go (test x) refl h (found test m xs)
  where
    go : (b : Bool) → test x ≡ b → (b || list_any test (take m xs)) ≡ true → (list_any test (take m xs) ≡ true → Found test m xs) → Found test (suc m) (x ∷ xs)
    go true e h rest = record { at = 0; below = omega arith; item = x; there = refl; passes = e }
    go false e h rest = let t = rest h in let l = t.below in record { at = suc t.at; below = omega arith; item = t.item; there = t.there; passes = t.passes }

any_there : {A : Type 0} (test : A → Bool) (m : ℕ) (xs : List A) (i : ℕ) (x : A) → i < m → slice_get xs i ≡ Some x → test x ≡ true
    → list_any test (take m xs) ≡ true
any_there test zero xs i x l e h = absurd (omega arith)
any_there test (suc m) [] i x l e h = none_is_not_some x e
any_there test (suc m) (z ∷ xs) zero x l e h = or_left (test z) _ (subst (λ y. test y ≡ true) (sym (same_Some z x e)) h)
any_there test (suc m) (z ∷ xs) (suc i) x l e h = or_right (test z) _ (any_there test m xs i x (omega arith) e h)

-- the numbers that are held go from the least lowest one to the current one

least_reached : (c n : ℕ) (ks : List PassTrack) → list_any (λ k. nat_le k.lowest n) ks ≡ true → least_lowest c ks ≤ n
least_reached c n [] h = absurd (grind arith)
least_reached c n (k ∷ ks) h = go (nat_le k.lowest n) refl h (least_reached c n ks)
  where
    go : (b : Bool) → nat_le k.lowest n ≡ b → (b || list_any (λ k. nat_le k.lowest n) ks) ≡ true
        → (list_any (λ k. nat_le k.lowest n) ks ≡ true → least_lowest c ks ≤ n) → min k.lowest (least_lowest c ks) ≤ n
    go true e h rest = let l = leb-true _ _ e in omega arith
    go false e h rest = let l = rest h in omega arith

reached_least : (c n : ℕ) (ks : List PassTrack) → least_lowest c ks ≤ n → n < c → list_any (λ k. nat_le k.lowest n) ks ≡ true
reached_least c n [] l m = absurd (omega arith)
reached_least c n (k ∷ ks) l m = go (nat_le k.lowest n) refl (λ low. reached_least c n ks low m)
  where
    go : (b : Bool) → nat_le k.lowest n ≡ b → (least_lowest c ks ≤ n → list_any (λ k. nat_le k.lowest n) ks ≡ true)
        → (b || list_any (λ k. nat_le k.lowest n) ks) ≡ true
    go true e rest = refl
    go false e rest = let far = leb-false _ _ e in rest (omega arith)

held_near : (g : Generations) (n : ℕ) → is_held g n ≡ true → (n ≤ g.current) × (least_lowest g.current g.passes ≤ n)
held_near g n h = go (n == g.current) refl h
  where
    go : (b : Bool) → (n == g.current) ≡ b → (b || nat_le n g.current && list_any (λ k. nat_le k.lowest n) g.passes) ≡ true
        → (n ≤ g.current) × (least_lowest g.current g.passes ≤ n)
    go true e h = let s = eqb-true n g.current e in let l = least_within g.current g.passes in (omega arith, omega arith)
    go false e h = let p = and_parts _ _ h in (leb-true _ _ p.0, least_reached g.current n g.passes p.1)

near_held : (g : Generations) (n : ℕ) → n ≤ g.current → least_lowest g.current g.passes ≤ n → is_held g n ≡ true
near_held g n l m = go (n == g.current) refl
  where
    go : (b : Bool) → (n == g.current) ≡ b → (b || nat_le n g.current && list_any (λ k. nat_le k.lowest n) g.passes) ≡ true
    go true e = refl
    go false e = and_from _ _ (le-leb n g.current l) (reached_least g.current n g.passes m (lower e))
      where
        lower : (n == g.current) ≡ false → n < g.current
        lower e = dite (ℕ_discrete n g.current) (λ same. true_is_not_false (n == g.current) (itself same) e) (λ other. omega arith)
          where
            itself : n ≡ g.current → (n == g.current) ≡ true
            itself same = grind arith

generation_at : (g : Generations) (n : ℕ) → n ≤ g.current → generation_of g n ≡ slice_get g.kept (g.current - n)
generation_at g n l = rw (le-leb n g.current l) refl

pub held_named : (g : Generations) (region : RegionId) → is_named g region ≡ true → HeldNames g region
held_named g region h =
    let low = least_within g.current g.passes in
    let t = found (λ (x : Generation). names x.forest region) (g.current + 1 - least_lowest g.current g.passes) g.kept h in
    let b = t.below in let n = g.current - t.at in
    let back : g.current - n ≡ t.at = omega arith in
    let got : generation_of g n ≡ Some t.item = generation_at g n (omega arith) ∙ ap (λ (i : ℕ). slice_get g.kept i) back ∙ t.there in (
      n,
      near_held g n (omega arith) (omega arith),
      subst (λ (o : Option Generation). IsSomeAnd o (λ x. Names x.forest region)) (sym got)
          ((names_leaves t.item.forest region).0 t.passes),
    )

pub named_held : (g : Generations) (region : RegionId) → HeldNames g region → is_named g region ≡ true
named_held g region k = let near = held_near g k.0 k.1 in go (generation_of g k.0) refl k.2 near
  where
    go : (o : Option Generation) → generation_of g k.0 ≡ o → IsSomeAnd o (λ x. Names x.forest region)
        → (k.0 ≤ g.current) × (least_lowest g.current g.passes ≤ k.0) → is_named g region ≡ true
    go None e never near = absurd never
    go (Some x) e some near = let l = near.0 in let m = near.1 in
        any_there (λ (x : Generation). names x.forest region) (g.current + 1 - least_lowest g.current g.passes) g.kept (g.current - k.0) x
        (omega arith) (sym (generation_at g k.0 near.0) ∙ e) ((names_leaves x.forest region).1 some)

in_of : {A : Type 0} (x : A) (xs : List A) → Contains xs x → In x xs
in_of x xs c = one_of x xs c.0 c.1 c.2

-- what is released, by the test
released_by_test : (h : Writer) (region : RegionId)
    → (Contains (released h) region → Contains h.desk.dropped region × (is_named h.generations region ≡ false)) ×
    (Contains h.desk.dropped region × (is_named h.generations region ≡ false) → Contains (released h) region)
released_by_test h region =
    let test : RegionId → Bool = λ r. not (is_named h.generations r) in (
      λ c. let t = filter_in test region h.desk.dropped (in_of region (released h) c) in
          (contained region h.desk.dropped t.0, not-true (is_named h.generations region) t.1),
      λ c. contained region (released h)
          (filter_out test region h.desk.dropped (in_of region h.desk.dropped c.0) (not_from_false (is_named h.generations region) c.1)),
    )

-- the test whether a region is among some
region_among : (rs : List RegionId) (r : RegionId) → is_among rs r ≡ true → In r rs
region_among [] r h = absurd (grind arith)
region_among (x ∷ xs) r h = go (x.0 == r.0) refl h (region_among xs r)
  where
    go : (b : Bool) → (x.0 == r.0) ≡ b → (b || is_among xs r) ≡ true → (is_among xs r ≡ true → In r xs) → (r ≡ x) ⊎ In r xs
    go true e h rest = let s = eqb-true _ _ e in inl (λ i. record { 0 = sym s i })
    go false e h rest = inr (rest h)

among_region : (rs : List RegionId) (r : RegionId) → In r rs → is_among rs r ≡ true
among_region [] r m = absurd m
among_region (x ∷ xs) r (inl e) = or_left (x.0 == r.0) _ (eq-eqb x.0 r.0 (ap (λ (z : RegionId). z.0) (sym e)))
among_region (x ∷ xs) r (inr m) = or_right (x.0 == r.0) _ (among_region xs r m)

among_not : (rs : List RegionId) (r : RegionId) → (In r rs → ⊥) → is_among rs r ≡ false
among_not rs r never = go (is_among rs r) refl
  where
    go : (b : Bool) → is_among rs r ≡ b → b ≡ false
    go true e = absurd (never (region_among rs r e))
    go false e = refl

unnamed : (g : Generations) (region : RegionId) → (HeldNames g region → ⊥) → is_named g region ≡ false
unnamed g region never = go (is_named g region) refl
  where
    go : (b : Bool) → is_named g region ≡ b → b ≡ false
    go true e = absurd (never (held_named g region e))
    go false e = refl

pub releases_unnamed : (h : Writer) → ReleasesUnnamed h
releases_unnamed h = let g = h.generations in record {
  members = λ region. let t = released_by_test h region in (
    λ c. let p = t.0 c in (p.0, λ k. true_is_not_false (is_named g region) (named_held g region k) p.1),
    λ p. t.1 (p.0, unnamed g region p.1),
  );
  still_dropped = λ region. (
    λ c. let t = filter_in (is_named g) region h.desk.dropped (in_of region (reaped h).dropped c) in
        (contained region h.desk.dropped t.0, held_named g region t.1),
    λ p. contained region (reaped h).dropped (filter_out (is_named g) region h.desk.dropped (in_of region h.desk.dropped p.0) (named_held g region p.1)),
  );
  places = λ p. let test : Place → Bool = λ p. not (is_among (released h) p.region) in (
    λ c. let t = filter_in test p h.desk.places (in_of p (reaped h).places c) in (
      contained p h.desk.places t.0,
      λ k. true_is_not_false (is_among (released h) p.region)
          (among_region (released h) p.region (in_of p.region (released h) k)) (not-true (is_among (released h) p.region) t.1),
    ),
    λ k. contained p (reaped h).places
        (filter_out test p h.desk.places (in_of p h.desk.places k.0)
        (not_from_false (is_among (released h) p.region) (among_not (released h) p.region (λ m. k.1 (contained p.region (released h) m))))),
  );
}

-- passes in a row
abbrev pub ids : ℕ → ℕ → List PassId
ids a n = map (λ n. record { 0 = n }) (range_with_len a n)

-- a sweep of every pass

-- where the last sweep found nothing, the lowest number is the current one
abbrev IsNear : ℕ → PassTrack → Type 0
IsNear c k = k.found ≡ None → k.lowest ≡ c

swept_near : (c : ℕ) (k : PassTrack) (word : ℕ) → IsNear c (known_after_sweep c k word)
swept_near c k word e = ap (λ (o : Option ℕ). lowest_after c k.lowest o) e

record Near (v w : World) : Type 0 where
  current : w.writer.generations.current ≡ v.writer.generations.current
  kept : w.writer.generations.kept ≡ v.writer.generations.kept
  passes : length w.writer.generations.passes ≡ length v.writer.generations.passes
  near : (i : ℕ) → i < length w.writer.generations.passes → IsNear w.writer.generations.current (get_or w.writer.generations.passes i nothing_known)

abbrev swept_by : World → ℕ → ℕ → World
swept_by w a n = (run_events w (map (λ pass. events.Sweep pass) (ids a n))).world

sweeps_near : (w : World) (a n : ℕ) → a + n ≡ length w.writer.generations.passes
    → ((i : ℕ) → i < a → IsNear w.writer.generations.current (get_or w.writer.generations.passes i nothing_known)) → Near w (swept_by w a n)
sweeps_near w a zero e h = record { current = refl; kept = refl; passes = refl; near = λ i l. h i (omega arith) }
sweeps_near w a (suc n) e h =
    let v : PassId = record { 0 = a } in let g = w.writer.generations in
    let k = known_after_sweep g.current (known_of g v) (pin_word (pass_of w.passes v).announced) in
    let m = world_after w (events.Sweep v) in
    let same : length m.writer.generations.passes ≡ length g.passes = length-set g.passes a k in
    let t = sweeps_near m (a + 1) n (omega arith)
    (λ i l. dite (ℕ_discrete i a)
    (λ s. subst (λ (z : ℕ). IsNear g.current (get_or (set g.passes a k) z nothing_known)) (sym s)
    (subst (λ (y : PassTrack). IsNear g.current y) (sym (get_or-set_same g.passes a k nothing_known (omega arith)))
    (swept_near g.current (known_of g v) (pin_word (pass_of w.passes v).announced))))
    (λ other. subst (λ (y : PassTrack). IsNear g.current y) (sym (get_or-set_other g.passes a i k nothing_known other)) (h i (omega arith)))) in record {
      current = t.current;
      kept = t.kept;
      passes = t.passes ∙ same;
      near = t.near;
    }

-- where each lowest number is the current one, that one alone is held
least_current : (c : ℕ) (ks : List PassTrack) → Every (λ k. k.found ≡ None) ks → ((i : ℕ) → i < length ks → IsNear c (get_or ks i nothing_known))
    → least_lowest c ks ≡ c
least_current c [] free near = refl
least_current c (k ∷ ks) free near = let l = near 0 (omega arith) free.0 in let m = least_current c ks free.1 (λ i l. near (suc i) (omega arith)) in omega arith

current_alone : (g : Generations) (region : RegionId) → least_lowest g.current g.passes ≡ g.current → 0 < length g.kept → is_named g region
    ≡ names (current_forest g) region
current_alone g region least some =
    let one : g.current + 1 - least_lowest g.current g.passes ≡ 1 = (let l = least in omega arith) in
    ap (λ (n : ℕ). list_any (λ (x : Generation). names x.forest region) (take n g.kept)) one ∙ go g.kept some
  where
    or_nothing : (b : Bool) → (b || false) ≡ b
    or_nothing true = refl
    or_nothing false = refl

    go : (xs : List Generation) → 0 < length xs → list_any (λ (x : Generation). names x.forest region) (take 1 xs) ≡ names (forest_in xs) region
    go [] l = absurd (omega arith)
    go (x ∷ xs) l = or_nothing (names x.forest region)

pub free_passes_release_all : (pool_words passes : ℕ) (xs : List PureEntry) → IsLegal pool_words passes xs →
    let w = after_entries (opening pool_words passes) xs in
    let h = (run_events w (sweeps w.writer.generations)).world.writer in
    AreFoundFree h.generations → (region : RegionId) →
    (Contains (released h) region → Contains h.desk.dropped region × (Names (current_forest h.generations) region → ⊥))
    × (Contains h.desk.dropped region × (Names (current_forest h.generations) region → ⊥) → Contains (released h) region)
free_passes_release_all pool_words passes xs legal free region =
    let w = after_entries (opening pool_words passes) xs in
    let m = (run_events w (sweeps w.writer.generations)).world in
    let g = m.writer.generations in
    let t = sweeps_near w 0 (length w.writer.generations.passes) (omega arith) (λ i l. absurd (omega arith)) in
    let kept = (order pool_words passes xs legal).kept in
    let some : 0 < length g.kept = subst (λ (ks : List Generation). 0 < length ks) (sym t.kept) (omega arith) in
    let alone = current_alone g region (least_current g.current g.passes free t.near) some in
    let by = released_by_test m.writer region in (
      λ c. let p = by.0 c in (p.0, λ n. true_is_not_false (is_named g region) (alone ∙ (names_leaves (current_forest g) region).1 n) p.1),
      λ p. by.1 (p.0, alone ∙ go (current_forest g) (names (current_forest g) region) refl p.1),
    )
  where
    go : (f : Forest) (b : Bool) → names f region ≡ b → (Names f region → ⊥) → b ≡ false
    go f true e never = absurd (never ((names_leaves f region).0 e))
    go f false e never = refl
