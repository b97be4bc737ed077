-- The places that a generation shows are just those of its forest.
use Rattle.std.proofs.Common.{◌≡◌, ◌⊎◌, ℕ, zero, suc, ◌+◌, ◌<◌, ◌≤◌, eq-eqb, Bool, true, false, List, [], ◌∷◌, ◌++◌, sym, refl, ap, ◌∙◌}
use Rattle.std.proofs.Common.{subst, inl, inr, arith, if◌then◌else◌, Option, Some, None}
use Rattle.std.specs.Prelude.{◌==◌, ◌-◌, ◌<◌, nat_le, option_map, option_and_then, IsSome, IsSomeAnd}
use Rattle.std.specs.Option.{option_or}
use Rattle.std.proofs.lemmas.Bool.{eqb-true}
use Rattle.mem_base.specs.declared.map.ids.RegionId.{RegionId}
use Rattle.mem_base.specs.declared.map.forests.Node.{Node}
use Rattle.mem_base.specs.declared.map.forests.Forest.{Forest}
use Rattle.mem_base.specs.declared.map.kinds.Kind.{Kind}
use Rattle.mem_base.specs.declared.map.kinds.Kind.TheVariants.{Container, Alias}
use Rattle.mem_base.specs.declared.access.cells.Place.{Place}
use Rattle.mem_base.specs.map.Limits.{most_depth}
use Rattle.mem_base.specs.map.Region.{IsAscending, node_of}
use Rattle.mem_base.specs.map.Order.{children_of}
use Rattle.mem_base.specs.map.Search.{Found, Search, passed, itself, first_of_children, inside, at_node, found_in, root_of}
use Rattle.mem_base.specs.access.PlacesByRegion.{notifiers, place_in}
use Rattle.mem_base.specs.access.Places.{extent_of, place_from, past, is_notifiers, notifiers_place}
use Rattle.mem_base.specs.access.EditionPlaces.{IsRegionPlace, IsNotifiersPlace, HasPlace, ArePlacesApart, ArePlacesOf}
use Rattle.mem_base.specs.views.Naming.{names, shows_events}
use Rattle.mem_base.specs.machine.Desk.{is_shown_place, shown_places}
use Rattle.mem_base.proofs.ForestLaws.{id_of, node_of-itself}
use Rattle.map_laws.proofs.PairLaws.{pairs_push}
use Rattle.view_laws.proofs.Tests.{none_is_not_some, same_region}
use Rattle.view_laws.proofs.LiveLaws.{In, every_in}
use Rattle.view_laws.proofs.SortedLaws.{each_in, append_in, append_left, append_right, filter_in, filter_out}
use Rattle.view_laws.proofs.NamingLaws.{names_leaves}
use Rattle.history_laws.specs.BackedForests.{BacksForest}
use Rattle.mem_base.proofs.SortingLaws.{pairs_filter}
use Rattle.std.proofs.lemmas.Option.{same_Some}
use Rattle.mem_base.proofs.BoolLaws.{true_is_not_false}

-- the leaf of what a search finds is a region of the forest

abbrev LeafThere : List Node → Option Found → Type 0
LeafThere nodes None = Unit {0}
LeafThere nodes (Some x) = IsSome (node_of nodes x.0.leaf)

passed_there : (nodes : List Node) (n : Node) (o : Option Found) → LeafThere nodes o → LeafThere nodes (option_map (passed n) o)
passed_there nodes n None h = tt
passed_there nodes n (Some x) h = h

itself_there : (nodes : List Node) (n : Node) (global : Bool) (k : Kind) (a : ℕ) → IsSome (node_of nodes n.id) → LeafThere nodes (itself global k n a)
itself_there nodes n global Container a h = tt
itself_there nodes n global (Alias target offset) a h = tt
itself_there nodes n global _ a h = h

or_there : (nodes : List Node) (o p : Option Found) → LeafThere nodes o → LeafThere nodes p → LeafThere nodes (option_or o p)
or_there nodes None p h k = k
or_there nodes (Some x) p h k = h

if_there : (nodes : List Node) (b : Bool) (o : Option Found) → LeafThere nodes o → LeafThere nodes (if b then o else None)
if_there nodes true o h = h
if_there nodes false o h = tt

children_there : (nodes : List Node) (below : Search) → ((r : RegionId) (b : ℕ) → LeafThere nodes (below r b)) → (cs : List Node) (a : ℕ)
    → LeafThere nodes (first_of_children below cs a)
children_there nodes below h [] a = tt
children_there nodes below h (c ∷ cs) a =
    or_there nodes (if nat_le c.offset a then below c.id (a - c.offset) else None) (first_of_children below cs a)
    (if_there nodes (nat_le c.offset a) (below c.id (a - c.offset)) (h c.id (a - c.offset))) (children_there nodes below h cs a)

inside_there : (f : Forest) (below : Search) → ((r : RegionId) (b : ℕ) → LeafThere f.nodes (below r b)) → (k : Kind) (n : Node) (a : ℕ)
    → IsSome (node_of f.nodes n.id) → LeafThere f.nodes (inside f below k n a)
inside_there f below h (Alias target offset) n a e = h target (a + offset)
inside_there f below h k n a e = or_there f.nodes (first_of_children below (children_of f.nodes n.id) a) (itself f.global n.kind n a)
    (children_there f.nodes below h (children_of f.nodes n.id) a) (itself_there f.nodes n f.global n.kind a e)

some_of_equal : {A : Type 0} (o : Option A) (x : A) → o ≡ Some x → IsSome o
some_of_equal None x e = none_is_not_some x e
some_of_equal (Some y) x e = refl

found_there : (f : Forest) (depth : ℕ) (r : RegionId) (a : ℕ) → LeafThere f.nodes (found_in f depth r a)
unfolding found_in
found_there f zero r a = tt
found_there f (suc depth) r a = go (node_of f.nodes r) refl (found_there f depth)
  where
    go : (o : Option Node) → node_of f.nodes r ≡ o → ((r : RegionId) (b : ℕ) → LeafThere f.nodes (found_in f depth r b))
        → LeafThere f.nodes (option_and_then (λ n. at_node f (found_in f depth) n a) o)
    go None e h = tt
    go (Some n) e h =
        let here : node_of f.nodes n.id ≡ Some n = ap (λ (q : RegionId). node_of f.nodes q) (id_of f.nodes r n e) ∙ e in
        if_there f.nodes _ (option_map (passed n) (inside f (found_in f depth) n.kind n a))
        (passed_there f.nodes n (inside f (found_in f depth) n.kind n a)
        (inside_there f (found_in f depth) h n.kind n a (some_of_equal (node_of f.nodes n.id) n here)))

-- so a region that a forest names is there
named_there : (f : Forest) (region : RegionId) → names f region ≡ true → IsSome (node_of f.nodes region)
named_there f region h = let t = (names_leaves f region).0 h in go t.0 t.1 (root_of f t.0) refl t.3
  where
    at : (o : Option Found) → LeafThere f.nodes o → IsSomeAnd (option_map (λ p. p.0) o) (λ spot. spot.leaf ≡ region) → IsSome (node_of f.nodes region)
    at None h k = absurd k
    at (Some x) h k = subst (λ (q : RegionId). IsSome (node_of f.nodes q)) k h

    go : (s : _) (a : ℕ) (o : Option RegionId) → root_of f s ≡ o
        → IsSomeAnd (option_map (λ p. p.0) (option_and_then (λ r. found_in f most_depth r a) o)) (λ spot. spot.leaf ≡ region) → IsSome (node_of f.nodes region)
    go s a None e k = absurd k
    go s a (Some r) e k = at (found_in f most_depth r a) (found_there f most_depth r a) k

-- places in a list

pub place_some : (ps : List Place) (p : Place) → In p ps → IsSome (place_in ps p.region)
place_some [] p m = absurd m
place_some (q ∷ qs) p (inl e) = go (q.region.0 == p.region.0) (eq-eqb q.region.0 p.region.0 (ap (λ (x : Place). x.region.0) (sym e)))
  where
    go : (b : Bool) → b ≡ true → IsSome (if b then Some q else place_in qs p.region)
    go true h = refl
    go false h = absurd (grind arith)
place_some (q ∷ qs) p (inr m) = go (q.region.0 == p.region.0) (place_some qs p m)
  where
    go : (b : Bool) → IsSome (place_in qs p.region) → IsSome (if b then Some q else place_in qs p.region)
    go true h = refl
    go false h = h

pub place_of_region : (ps : List Place) (r : RegionId) (q : Place) → place_in ps r ≡ Some q → In q ps × (q.region ≡ r)
place_of_region [] r q e = none_is_not_some q e
place_of_region (p ∷ ps) r q e = go (p.region.0 == r.0) refl e (place_of_region ps r q)
  where
    go : (b : Bool) → (p.region.0 == r.0) ≡ b → (if b then Some p else place_in ps r) ≡ Some q → (place_in ps r ≡ Some q → In q ps × (q.region ≡ r))
        → In q (p ∷ ps) × (q.region ≡ r)
    go true h e rest = let same = same_Some p q e in
        (inl (sym same), subst (λ (x : Place). x.region ≡ r) same (same_region p.region r (eqb-true _ _ h)))
    go false h e rest = let t = rest e in (inr t.0, t.1)

pub some_is : {A : Type 0} (o : Option A) → IsSome o → (x : A) × (o ≡ Some x)
some_is None h = absurd (grind arith)
some_is (Some x) h = (x, refl)

-- what a generation of a forest shows

module _ (pool_words : ℕ) (f : Forest) (places : List Place) (up : IsAscending f.nodes) (k : BacksForest pool_words f places) where
  abbrev np : Place
  np = notifiers_place pool_words

  abbrev all : List Place
  all = places ++ np ∷ []

  regions_own : (p : Place) → In p places → is_notifiers p.region ≡ false
  regions_own p m = (every_in (λ (q : Place). (is_notifiers q.region ≡ false) × (0 < q.words) × (past q ≤ pool_words)) p places k.inside m).0

  -- a region's place is shown where the forest names the region
  shown_if_named : (p : Place) → In p places → is_shown_place f p ≡ names f p.region
  shown_if_named p m = ap (λ (b : Bool). if b then shows_events f else names f p.region) (regions_own p m)

  region_place : (p : Place) → In p places → is_shown_place f p ≡ true → IsRegionPlace pool_words f p
  region_place p m shown =
      let named : names f p.region ≡ true = sym (shown_if_named p m) ∙ shown in
      let there = some_is (node_of f.nodes p.region) (named_there f p.region named) in
      let fits = every_in (λ (q : Place). (n : Node) → node_of f.nodes q.region ≡ Some n → q ≡ place_from q.region q.start
      (extent_of n.kind n.size)) p places k.fits m in
      let own = every_in (λ (q : Place). (is_notifiers q.region ≡ false) × (0 < q.words) × (past q ≤ pool_words)) p places k.inside m in record {
        named = named;
        fits = subst (λ (o : Option Node). IsSomeAnd o (λ n. p ≡ place_from p.region p.start (extent_of n.kind n.size))) (sym there.1) (fits there.0 there.1);
        nonempty = own.1;
        within = own.2;
      }

  each : (p : Place) → In p (shown_places f all) → IsRegionPlace pool_words f p ⊎ IsNotifiersPlace pool_words f p
  each p m = let t = filter_in (is_shown_place f) p all m in go (append_in p places (np ∷ []) t.0) t.1
    where
      go : In p places ⊎ In p (np ∷ []) → is_shown_place f p ≡ true → IsRegionPlace pool_words f p ⊎ IsNotifiersPlace pool_words f p
      go (inl l) shown = inl (region_place p l shown)
      go (inr (inl e)) shown = inr (subst (λ (q : Place). is_shown_place f q ≡ true) e shown, e)
      go (inr (inr l)) shown = absurd l

  has_place : (n : Node) → In n f.nodes → HasPlace f (shown_places f all) n
  has_place n m named some =
      let here : node_of f.nodes n.id ≡ Some n = every_in (λ (c : Node). node_of f.nodes c.id ≡ Some c) n f.nodes (node_of-itself f.nodes up) m in
      let t = some_is (place_in places n.id) (k.regions n.id n here some) in
      let q = place_of_region places n.id t.0 t.1 in
      let shown : is_shown_place f t.0 ≡ true = shown_if_named t.0 q.0 ∙ ap (names f) q.1 ∙ named in
      subst (λ (r : RegionId). IsSome (place_in (shown_places f all) r)) q.1
      (place_some (shown_places f all) t.0 (filter_out (is_shown_place f) t.0 all (append_left t.0 places (np ∷ []) q.0) shown))

  notifiers_apart : (p : Place) → In p places → ArePlacesApart p np
  notifiers_apart p m =
      let own = every_in (λ (q : Place). (is_notifiers q.region ≡ false) × (0 < q.words) × (past q ≤ pool_words)) p places k.inside m in
      (λ e. true_is_not_false (is_notifiers p.region) (eq-eqb p.region.0 notifiers.0 e) own.0, inl own.2)

  pub shown_are_its_own : ArePlacesOf pool_words f (shown_places f all)
  shown_are_its_own = record {
    each = each_in (λ p. IsRegionPlace pool_words f p ⊎ IsNotifiersPlace pool_words f p) (shown_places f all) each;
    regions = each_in (HasPlace f (shown_places f all)) f.nodes has_place;
    notifying = λ shows. place_some (shown_places f all) np (filter_out (is_shown_place f) np all (append_right np places (np ∷ []) (inl refl)) shows);
    apart = pairs_filter ArePlacesApart (is_shown_place f) all
        (pairs_push ArePlacesApart places np (each_in (λ p. ArePlacesApart p np) places notifiers_apart) k.apart);
  }
