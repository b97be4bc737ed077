-- A reap keeps the cells and the words that back them together, and the places of held generations.
use Rattle.std.proofs.Common.{◌≡◌, ℕ, eqb, ne_eqb, eq-eqb, Bool, true, false, ◌||◌, List, [], ◌∷◌, ◌++◌, sym, refl, ◌∙◌, subst, if◌then◌else◌, Some, None}
use Rattle.std.specs.Prelude.{filter, not, ◌^◌, ◌-◌}
use Rattle.std.specs.List.{list_any}
use Rattle.std.proofs.lemmas.Bool.{eqb-true, or_right, not_from_false, not_from_true}
use Rattle.mem_base.specs.declared.map.ids.RegionId.{RegionId}
use Rattle.mem_base.specs.declared.access.cells.Place.{Place}
use Rattle.mem_base.specs.declared.machine.events.Event.TheVariants as events
use Rattle.mem_base.specs.lists.Every.{Every}
use Rattle.mem_base.specs.access.PlacesByRegion.{place_in}
use Rattle.mem_base.specs.views.Naming.{names}
use Rattle.mem_base.specs.access.Places.{is_notifiers, notifiers_place}
use Rattle.mem_base.specs.machine.Generations.{Generation, held_generations}
use Rattle.mem_base.specs.machine.Desk.{places_of}
use Rattle.mem_base.specs.machine.Reaps.{Writer, is_named, released, is_among}
use Rattle.mem_base.specs.machine.World.{World, possible, world_after}
use Rattle.mem_base.proofs.EveryLaws.{weaker, both}
use Rattle.view_laws.proofs.Tests.{none_is_not_some, same_region}
use Rattle.history_laws.proofs.OrderLaws.{order_after}
use Rattle.turn_laws.proofs.Coupled.{Stands, AllStand, IsWhole, Coupled}
use Rattle.turn_laws.proofs.Replaced.{fewer, kept_place, no_cells}
use Rattle.view_laws.proofs.SortedLaws.{every_filter}
use Rattle.mem_base.proofs.BoolLaws.{true_is_not_false}

-- what one of these generations names, some of them names
each_in : (xs : List Generation) → Every (λ x. (r : RegionId) → names x.forest r ≡ true → list_any (λ (y : Generation). names y.forest r) xs ≡ true) xs
each_in [] = tt
each_in (x ∷ xs) = (
  λ r h. rw h refl,
  weaker (λ y. (r : RegionId) → names y.forest r ≡ true → list_any (λ (z : Generation). names z.forest r) xs ≡ true)
      (λ y. (r : RegionId) → names y.forest r ≡ true → (names x.forest r || list_any (λ (z : Generation). names z.forest r) xs) ≡ true)
      (λ y f r h. or_right (names x.forest r) _ (f r h)) xs (each_in xs),
)

-- a region that does not pass the test is not among those that do
not_among : (test : RegionId → Bool) (rs : List RegionId) (r : RegionId) → test r ≡ false → is_among (filter test rs) r ≡ false
not_among test [] r h = refl
not_among test (q ∷ qs) r h = go (test q) refl (not_among test qs r h)
  where
    go : (b : Bool) → test q ≡ b → is_among (filter test qs) r ≡ false → is_among (if b then q ∷ filter test qs else filter test qs) r ≡ false
    go true e rest = rw (ne_eqb q.0 r.0 (λ z. true_is_not_false (test r) (subst (λ (y : RegionId). test y ≡ true) (same_region q r z) e) h)) rest
    go false e rest = rest

none_among : (test : RegionId → Bool) (rs : List RegionId) (r : RegionId) → is_notifiers r ≡ true → Every (λ q. is_notifiers q ≡ false) rs
    → is_among (filter test rs) r ≡ false
none_among test [] r h e = refl
none_among test (q ∷ qs) r h e = go (test q) (none_among test qs r h e.1)
  where
    go : (b : Bool) → is_among (filter test qs) r ≡ false → is_among (if b then q ∷ filter test qs else filter test qs) r ≡ false
    go true rest = rw (ne_eqb q.0 r.0
        (λ z. true_is_not_false (is_notifiers r) h (subst (λ (y : RegionId). is_notifiers y ≡ false) (same_region q r z) e.0))) rest
    go false rest = rest

every_kept : (P : Place → Type 0) (kept : RegionId → Bool) (ps : List Place) (np : Place) → kept np.region ≡ true → Every P (ps ++ np ∷ [])
    → Every (λ p. (kept p.region ≡ true) × P p) (filter (λ p. kept p.region) ps ++ np ∷ [])
every_kept P kept [] np h e = ((h, e.0), tt)
every_kept P kept (p ∷ ps) np h e = go (kept p.region) refl (every_kept P kept ps np h e.1)
  where
    go : (b : Bool) → kept p.region ≡ b → Every (λ p. (kept p.region ≡ true) × P p) (filter (λ p. kept p.region) ps ++ np ∷ [])
        → Every (λ p. (kept p.region ≡ true) × P p) ((if b then p ∷ filter (λ p. kept p.region) ps else filter (λ p. kept p.region) ps) ++ np ∷ [])
    go true is rest = ((is, e.0), rest)
    go false is rest = rest

abbrev kept_by : Writer → RegionId → Bool
kept_by h r = not (is_among (released h) r)

abbrev left : Writer → List Place
left h = filter (λ p. kept_by h p.region) h.desk.places ++ notifiers_place h.desk.pool_words ∷ []

held_kept : (h : Writer) (r : RegionId) → is_named h.generations r ≡ true → kept_by h r ≡ true
held_kept h r e = not_from_false _ (not_among (λ q. not (is_named h.generations q)) h.desk.dropped r (not_from_true _ e))

notifier_kept : (h : Writer) (r : RegionId) → Every (λ q. is_notifiers q ≡ false) h.desk.dropped → is_notifiers r ≡ true → kept_by h r ≡ true
notifier_kept h r low e = not_from_false _ (none_among (λ q. not (is_named h.generations q)) h.desk.dropped r e low)

named_kept : (h : Writer) → Every (λ q. is_notifiers q ≡ false) h.desk.dropped → (x : Generation) (r : RegionId)
    → (names x.forest r ≡ true → is_named h.generations r ≡ true) → (is_notifiers r || names x.forest r) ≡ true → kept_by h r ≡ true
named_kept h low x r f named = go (is_notifiers r) refl named
  where
    go : (b : Bool) → is_notifiers r ≡ b → (b || names x.forest r) ≡ true → kept_by h r ≡ true
    go true y z = notifier_kept h r low y
    go false y z = held_kept h r (f z)

whole_left : (h : Writer) (p : Place) → kept_by h p.region ≡ true → IsWhole (places_of h.desk) p → IsWhole (left h) p
whole_left h p is s = record {
  stands = kept_place (kept_by h) h.desk.places (notifiers_place h.desk.pool_words ∷ []) p.region is
      ∙ s.stands;
  some = s.some;
  wide = s.wide;
  marks = s.marks;
  notifiers = s.notifiers;
}

-- only the notifiers' place stands after those of regions
after_all : (n : ℕ) (r : RegionId) (q : Place) → place_in (notifiers_place n ∷ []) r ≡ Some q → is_notifiers r ≡ true
after_all n r q is = go (eqb (2 ^ 32 - 1) r.0) refl is
  where
    go : (b : Bool) → eqb (2 ^ 32 - 1) r.0 ≡ b → (if b then Some (notifiers_place n) else None) ≡ Some q → is_notifiers r ≡ true
    go true e x = eq-eqb r.0 (2 ^ 32 - 1) (sym (eqb-true _ _ e))
    go false e x = none_is_not_some q x

-- a reap
pub reaps : (w : World) (words : List ℕ) → Coupled w words → possible w events.Reap ≡ true → Coupled (world_after w events.Reap) words
reaps w words k may = let h = w.writer in let d = w.writer.desk in let xs = held_generations w.writer.generations in record {
  backed = fewer (kept_by h) d.places (notifiers_place d.pool_words ∷ []) d.unfilled w.blocks words
      (λ r q is. notifier_kept h r k.low (after_all d.pool_words r q is)) k.backed;
  held = weaker (λ x. AllStand (places_of d) d.unfilled x × ((r : RegionId) → names x.forest r ≡ true → is_named h.generations r ≡ true))
      (AllStand (left h) d.unfilled)
      (λ x t. weaker (Stands (places_of d) d.unfilled x) (Stands (left h) d.unfilled x)
      (λ p s. record {
        whole = whole_left h p (named_kept h k.low x p.region (t.1 p.region) s.named) s.whole;
        named = s.named;
        filled = s.filled;
      }) x.places t.0) xs
      (both (AllStand (places_of d) d.unfilled) (λ x. (r : RegionId) → names x.forest r ≡ true → is_named h.generations r ≡ true) xs k.held (each_in xs));
  whole = weaker (λ p. (kept_by h p.region ≡ true) × IsWhole (places_of d) p) (IsWhole (left h)) (λ p t. whole_left h p t.0 t.1) (left h)
      (every_kept (IsWhole (places_of d)) (kept_by h) d.places (notifiers_place d.pool_words)
      (notifier_kept h (notifiers_place d.pool_words).region k.low refl) k.whole);
  low = every_filter (λ r. is_notifiers r ≡ false) (λ r. is_notifiers r ≡ false) (is_named h.generations) d.dropped (λ r x e. e) k.low;
  still = k.still;
  bare = λ r none. no_cells w.blocks (left h) r none;
  order = order_after w k.order events.Reap _ may refl;
}
