-- What the calls of a backed desk leave of it.
use Rattle.std.proofs.Common.{◌≡◌, ℕ, ◌+◌, ◌<◌, ◌≤◌, ◌==◌, ◌^◌, Bool, true, false, not, List, [], ◌∷◌, ◌++◌, Option, Some, None, Ok, Err}
use Rattle.std.proofs.Common.{◌≢◌, refl, sym, ap, subst, ◌∙◌}
use Rattle.std.proofs.lemmas.Bool.{eqb-true, eqb-false, not-false, and_parts}
use Rattle.std.proofs.Common.{arith, ne_eqb, eq-eqb, append-nil, length, filter, ◌-◌, ◌%◌}
use Rattle.std.specs.Prelude.{◌&&◌, if◌then◌else◌, is_none, is_some, IsSome, nat_le, Result, IfOk, IfErr, OnErr, ◌↔◌}
use Rattle.std.proofs.Common.{inl}
use Rattle.std.proofs.lemmas.Bool.Decides.{nat_tests}
use Rattle.std.proofs.lemmas.List.{length-append, append_assoc}
use Rattle.std.proofs.lemmas.List.Edits.{insert-append_right}
use Rattle.std.proofs.lemmas.List.Elements.{filter-append}
use Rattle.mem_base.specs.declared.map.kinds.Kind.TheVariants.{Ram, Rom, RomDevice, Io}
use Rattle.mem_base.specs.declared.map.kinds.Device.{Device}
use Rattle.mem_base.specs.declared.map.refusals.Which.TheVariants as which
use Rattle.mem_base.specs.declared.map.refusals.Refusal.TheVariants.{Memory}
use Rattle.mem_base.specs.declared.map.ids.RegionId.{RegionId}
use Rattle.mem_base.specs.declared.map.forests.Node.{Node}
use Rattle.mem_base.specs.declared.map.forests.Forest.{Forest}
use Rattle.mem_base.specs.declared.map.kinds.Kind.{Kind}
use Rattle.mem_base.specs.declared.map.calls.Call.{Call}
use Rattle.mem_base.specs.declared.map.calls.Call.TheVariants as calls
use Rattle.mem_base.specs.declared.map.refusals.Refusal.{Refusal}
use Rattle.mem_base.specs.declared.map.refusals.Refusal.TheVariants.{NoBacking}
use Rattle.mem_base.specs.declared.access.cells.Place.{Place}
use Rattle.mem_base.specs.declared.views.listening.Listener.{Listener}
use Rattle.mem_base.specs.lists.Every.{Every}
use Rattle.mem_base.specs.map.Limits.{most_made, most_regions, page_size, most_bytes, most_registers}
use Rattle.mem_base.specs.map.Kinds.{device_of}
use Rattle.mem_base.specs.map.Devices.{is_good_device, is_access_size}
use Rattle.mem_base.specs.map.Region.{node_of}
use Rattle.mem_base.specs.map.Refusals.{refuse_if, bad_size, or_refused}
use Rattle.mem_base.specs.map.TableRefusals.{bad_device, no_more_calls, at_limit}
use Rattle.mem_base.specs.map.Changes.{changed}
use Rattle.mem_base.specs.map.Calls.{after, counted, refusals, refusal_of, is_quiet, answer_of}
use Rattle.mem_base.specs.declared.map.calls.Applied.{Applied}
use Rattle.mem_base.specs.declared.map.calls.Applied.TheVariants.{Made, Done}
use Rattle.mem_base.specs.access.PlacesByRegion.{place_in}
use Rattle.mem_base.specs.access.EditionPlaces.{ArePlacesApart}
use Rattle.mem_base.specs.map.Forest.{IsMade}
use Rattle.mem_base.specs.access.Places.{Extent, extent_of, words_of, place_from, first_fit, extent, is_notifiers, notifiers_place, past}
use Rattle.std.specs.declared.cmp.Ordering.{Ordering}
use Rattle.std.specs.declared.cmp.Ordering.TheVariants.{Less, Equal, Greater}
use Rattle.std.specs.Ordering.{nat_cmp, is_eq}
use Rattle.std.specs.List.{remove, insert}
use Rattle.mem_base.specs.lists.Sorting.{place_of}
use Rattle.mem_base.proofs.PlaceLaws.{Rises, remove-place_of, filter-absent}
use Rattle.mem_base.proofs.EveryLaws.{weaker, every_push, every_filter}
use Rattle.mem_base.proofs.ForestLaws.{known_below}
use Rattle.mem_base.proofs.EntryLaws.{nat_is}
use Rattle.map_laws.proofs.PairLaws.{pairs_push}
use Rattle.map_laws.proofs.RefusalLaws.{each_none, refuse_if-none}
use Rattle.map_laws.proofs.SizeLaws.{size_whole}
use Rattle.view_laws.proofs.Tests.{none_is_not_some}
use Rattle.view_laws.proofs.LiveLaws.{every_in}
use Rattle.history_laws.proofs.PlaceLaws.{place_of_region}
use Rattle.map_laws.proofs.CallLaws.{after-accepted}
use Rattle.history_laws.specs.BackedForests.{BacksForest}
use Rattle.history_laws.proofs.BackLaws.{makes, backs_after, without_words, with_words}
use Rattle.generation.specs.Published.{AscendByRegion}
use Rattle.transact.proofs.MadeLaws.{closed_made, ordered_made}
use Rattle.backing_pool.specs.Backing.{Backing}
use Rattle.backing_pool.proofs.PlaceLaws.{all_stay, not_found}
use Rattle.backing_pool.proofs.PoolLaws.{some_words}
use Rattle.transact.specs.Backed.{extent_made, words_made, no_backing, new_places, places_for, backing_at, backing_after}
use Rattle.transact.specs.Backed.{BackedState, backed_state, IsBackedDesk, IsOfBackedDesk, forest_at, refusal_at}
use Rattle.transact.specs.Desks.{DeskState}
use Rattle.transact.specs.Preparing.{Readied, readied}
use Rattle.transact.specs.Commits.{IsStep}
use Rattle.transact.specs.declared.prepared.Step.{Step}
use Rattle.transact.specs.declared.prepared.Step.TheVariants.{Inner, Empty, Ready}
use Rattle.transact.specs.Backed.{by_region, is_place_of, without, backing_without, all_places}
use Rattle.transact.specs.Preparing.{AreDeskPlaces}
use Rattle.transact.proofs.PlacedLaws.{makes_none}
use Rattle.history_laws.proofs.Idles.{first_none}
use Rattle.mem_base.proofs.SortingLaws.{pairs_filter}

-- the places back a forest, in order of their regions, each of a region that was made
pub record Backs (f : Forest) (b : Backing) : Type 0 where
  pub backs : BacksForest b.pool_words f b.places
  pub ascending : AscendByRegion b.places
  pub made_before : Every (λ p. p.region.0 < f.made) b.places

-- a call that makes no region leaves their number, and makes no words
made_same : (f : Forest) (call : Call) → makes call ≡ false → (changed f call).made ≡ f.made
made_same f (calls.Region kind size) h = absurd (grind arith)
made_same f _ h = refl

none_made : (call : Call) → makes call ≡ false → extent_made call ≡ None
none_made (calls.Region kind size) h = absurd (grind arith)
none_made _ h = refl

-- the same places
pub same_backing : (f : Forest) (b : Backing) (call : Call) → new_places b (record { 0 = f.made }) (extent_made call) ≡ [] → backing_after f b call ≡ b
same_backing f b call e = ap (λ (ps : List Place). backing_at b.pool_words (b.places ++ ps)) e ∙ ap (backing_at b.pool_words) (append-nil b.places)

plain : (f g : Forest) (b : Backing) (call : Call) → after f call ≡ Ok g → makes call ≡ false → Backs f b → Backs g (backing_after f b call)
plain f g b call e h k =
    let same = same_backing f b call (ap (new_places b (record { 0 = f.made })) (none_made call h)) in
    let counts : g.made ≡ f.made = ap (λ (x : Forest). x.made) (after-accepted f g call e).1 ∙ made_same f call h in
    subst (Backs g) (sym same) (record {
      backs = backs_after b.pool_words f g call b.places e h k.backs;
      ascending = k.ascending;
      made_before = subst (λ n. Every (λ p. p.region.0 < n) b.places) (sym counts) k.made_before;
    })

module _ (f g : Forest) (b : Backing) (kind : Kind) (size : ℕ) (whole : IsMade f) (e : after f (calls.Region kind size) ≡ Ok g) (k : Backs f b) where
  abbrev id_made : RegionId
  id_made = record { 0 = f.made }

  few : f.made ≤ most_made
  few = (closed_made f whole).few_made

  below : (q : RegionId) (n : Node) → node_of f.nodes q ≡ Some n → q.0 < f.made
  below q n h = known_below f q (ordered_made f whole) (ap (λ (o : Option Node). is_some o) h)

  is_forest : counted (changed f (calls.Region kind size)) ≡ g
  is_forest = sym (after-accepted f g (calls.Region kind size) e).1

  counts : g.made ≡ f.made + 1
  counts = ap (λ (x : Forest). x.made) (sym is_forest)

  later : Every (λ p. p.region.0 < g.made) b.places
  later = weaker (λ p. p.region.0 < f.made) (λ p. p.region.0 < g.made) (λ p l. let c = counts in omega arith) b.places k.made_before

  wordless : words_of (extent_of kind size) ≡ 0 → Backs g b
  wordless none = record {
    backs = subst (λ (z : Forest). BacksForest b.pool_words z b.places) is_forest
        (without_words b.pool_words f b.places few below k.made_before k.backs kind size none);
    ascending = k.ascending;
    made_before = later;
  }

  wordy : (start : ℕ) → 0 < words_of (extent_of kind size) → first_fit b.pool_words b.places (words_of (extent_of kind size)) ≡ Some start
      → Backs g (backing_at b.pool_words (b.places ++ place_from id_made start (extent_of kind size) ∷ []))
  wordy start some fit = record {
    backs = subst (λ (z : Forest). BacksForest b.pool_words z (b.places ++ place_from id_made start (extent_of kind size) ∷ [])) is_forest
        (with_words b.pool_words f b.places few below k.made_before k.backs kind size start some fit);
    ascending = pairs_push (λ (p q : Place). p.region.0 < q.region.0) b.places (place_from id_made start (extent_of kind size)) k.made_before k.ascending;
    made_before = every_push (λ p. p.region.0 < g.made) b.places (place_from id_made start (extent_of kind size)) later (let c = counts in omega arith);
  }

  region_called : no_backing b (calls.Region kind size) ≡ None → Backs g (backing_after f b (calls.Region kind size))
  region_called fits = go (words_of (extent_of kind size) == 0) refl
    where
      at : (o : Option ℕ) → first_fit b.pool_words b.places (words_of (extent_of kind size)) ≡ o → 0 < words_of (extent_of kind size)
          → refuse_if (not false && is_none o) (NoBacking (words_of (extent_of kind size))) ≡ None
          → Backs g (backing_at b.pool_words (b.places ++ places_for b id_made (extent_of kind size) o))
      at None fit some h = absurd (grind arith)
      at (Some start) fit some h = wordy start some fit

      go : (t : Bool) → (words_of (extent_of kind size) == 0) ≡ t → Backs g (backing_after f b (calls.Region kind size))
      go true t = subst (Backs g) (sym (same_backing f b (calls.Region kind size) (rw t refl))) (wordless (eqb-true _ _ t))
      go false t =
          subst (Backs g) (rw t refl)
          (at (first_fit b.pool_words b.places (words_of (extent_of kind size))) refl
          (let ne : words_of (extent_of kind size) ≡ 0 → ⊥ = eqb-false _ _ t in omega arith)
          (subst (λ (z : Bool). refuse_if (not z && is_none (first_fit b.pool_words b.places (words_of (extent_of kind size))))
          (NoBacking (words_of (extent_of kind size))) ≡ None) t fits))

-- what an accepted call leaves
pub called : (f g : Forest) (b : Backing) (call : Call) → IsMade f → after f call ≡ Ok g → no_backing b call ≡ None → Backs f b
    → Backs g (backing_after f b call)
called f g b (calls.Region kind size) whole e fits k = region_called f g b kind size whole e k fits
called f g b (calls.Space space root) whole e fits k = plain f g b (calls.Space space root) e refl k
called f g b (calls.Add parent offset child priority) whole e fits k = plain f g b (calls.Add parent offset child priority) e refl k
called f g b (calls.Del parent child) whole e fits k = plain f g b (calls.Del parent child) e refl k
called f g b (calls.Move child offset) whole e fits k = plain f g b (calls.Move child offset) e refl k
called f g b (calls.Resize region size) whole e fits k = plain f g b (calls.Resize region size) e refl k
called f g b (calls.Retarget alias offset) whole e fits k = plain f g b (calls.Retarget alias offset) e refl k
called f g b (calls.Enable region on) whole e fits k = plain f g b (calls.Enable region on) e refl k
called f g b (calls.Readonly region on) whole e fits k = plain f g b (calls.Readonly region on) e refl k
called f g b (calls.Nonvolatile region on) whole e fits k = plain f g b (calls.Nonvolatile region on) e refl k
called f g b (calls.Unmergeable region on) whole e fits k = plain f g b (calls.Unmergeable region on) e refl k
called f g b (calls.Romd region on) whole e fits k = plain f g b (calls.Romd region on) e refl k
called f g b (calls.Log region client on) whole e fits k = plain f g b (calls.Log region client on) e refl k
called f g b (calls.Global on) whole e fits k = plain f g b (calls.Global on) e refl k
called f g b (calls.Map region iova size space translated perm) whole e fits k = plain f g b (calls.Map region iova size space translated perm) e refl k
called f g b (calls.Unmap region iova) whole e fits k = plain f g b (calls.Unmap region iova) e refl k
called f g b (calls.Event region event) whole e fits k = plain f g b (calls.Event region event) e refl k
called f g b (calls.Unevent region offset size matched value) whole e fits k = plain f g b (calls.Unevent region offset size matched value) e refl k
called f g b (calls.Drop region) whole e fits k = plain f g b (calls.Drop region) e refl k

-- what the place that is given back leaves

place_in-without : (ps : List Place) (region q : RegionId) → (q.0 ≡ region.0 → ⊥) → place_in (without ps region) q ≡ place_in ps q
place_in-without [] region q ne = refl
place_in-without (p ∷ ps) region q ne = go (p.region.0 == region.0) refl (place_in-without ps region q ne)
  where
    go : (b : Bool) → (p.region.0 == region.0) ≡ b → place_in (without ps region) q ≡ place_in ps q
        → place_in (if not b then p ∷ without ps region else without ps region) q ≡ place_in (p ∷ ps) q
    go true t ih = let s = eqb-true _ _ t in rw (ne_eqb p.region.0 q.0 (λ e. ne (sym e ∙ s))) ih
    go false t ih = ap (λ (o : Option Place). if p.region.0 == q.0 then Some p else o) ih

pub released : (f : Forest) (b : Backing) (region : RegionId) → node_of f.nodes region ≡ None → Backs f b → Backs f (backing_without b region)
released f b region gone k = record {
  backs = record {
    regions = λ q n e some. subst (λ (o : Option Place). IsSome o) (sym (place_in-without b.places region q (λ same. apart q n e same)))
        (k.backs.regions q n e some);
    fits = every_filter _ (λ p. not (is_place_of region p)) b.places k.backs.fits;
    inside = every_filter _ (λ p. not (is_place_of region p)) b.places k.backs.inside;
    apart = pairs_filter ArePlacesApart (λ p. not (is_place_of region p)) b.places k.backs.apart;
  };
  ascending = pairs_filter (λ (p q : Place). p.region.0 < q.region.0) (λ p. not (is_place_of region p)) b.places k.ascending;
  made_before = every_filter (λ p. p.region.0 < f.made) (λ p. not (is_place_of region p)) b.places k.made_before;
}
  where
    apart : (q : RegionId) (n : Node) → node_of f.nodes q ≡ Some n → q.0 ≡ region.0 → ⊥
    apart q n e same = none_is_not_some n (sym gone ∙ subst (λ (r : RegionId). node_of f.nodes r ≡ Some n) (λ i. record { 0 = same i }) e)

by_region-is : (region : RegionId) (p : Place) → is_place_of region p ≡ is_eq (by_region region p)
by_region-is region p = nat_is p.region.0 region.0

region_order : Place → Place → Ordering
region_order p q = nat_cmp p.region.0 q.region.0

-- so the place of a region is found by halving, and taken out there
pub rises : (region : RegionId) (ps : List Place) → AscendByRegion ps → Rises (by_region region) ps
rises region [] h = tt
rises region (p ∷ ps) h = (
  λ k. weaker (λ q. p.region.0 < q.region.0) (λ q. by_region region q ≡ Greater) (λ q l. greater p q k l) ps h.0,
  rises region ps h.1,
)
  where
    greater : (p q : Place) → by_region region p ≢ Less → p.region.0 < q.region.0 → by_region region q ≡ Greater
    greater p q k l = go (nat_cmp p.region.0 region.0) refl
      where
        go : (o : Ordering) → nat_cmp p.region.0 region.0 ≡ o → by_region region q ≡ Greater
        go Less e = absurd (k e)
        go Equal e = grind (arith, nat_tests, e)
        go Greater e = grind (arith, nat_tests, e)

pub taken_out : (region : RegionId) (ps : List Place) (at : ℕ) → AscendByRegion ps → place_of (by_region region) ps ≡ Ok at → remove ps at ≡ without ps region
taken_out region ps at h e = remove-place_of (by_region region) (is_place_of region) (by_region-is region) ps at (rises region ps h) e

pub absent : (region : RegionId) (ps : List Place) (at : ℕ) → AscendByRegion ps → place_of (by_region region) ps ≡ Err at → without ps region ≡ ps
absent region ps at h e = filter-absent (by_region region) (is_place_of region) (by_region-is region) ps at (rises region ps h) e

-- the list of all places without one of them
pub all_without : (b : Backing) (region : RegionId) → is_notifiers region ≡ false → all_places (backing_without b region) ≡ without (all_places b) region
all_without b region other = sym (filter-append (λ p. not (is_place_of region p)) b.places (notifiers_place b.pool_words ∷ [])
    ∙ rw (ne_eqb (2 ^ 32 - 1) region.0 (λ e. eqb-false _ _ other (sym e))) refl)

-- the notifiers' place comes after those of all regions
pub all_ascend : (f : Forest) (b : Backing) → IsMade f → Backs f b → AscendByRegion (all_places b)
all_ascend f b whole k = pairs_push (λ (p q : Place). p.region.0 < q.region.0) b.places (notifiers_place b.pool_words)
    (weaker (λ p. p.region.0 < f.made) (λ p. p.region.0 < 2 ^ 32 - 1) (λ p l. let few = (closed_made f whole).few_made in omega arith) b.places k.made_before)
    k.ascending

pub desk_places : (f : Forest) (b : Backing) → IsMade f → Backs f b → AreDeskPlaces f (all_places b)
desk_places f b whole k = record {
  pool_words = b.pool_words;
  regions = b.places;
  parts = refl;
  backs = k.backs;
  ascending = all_ascend f b whole k;
}

-- a new region

pub unplaced : (ps : List Place) (r : RegionId) → Every (λ p. p.region.0 < r.0) ps → place_in ps r ≡ None
unplaced [] r h = refl
unplaced (p ∷ ps) r h = rw (ne_eqb p.region.0 r.0 (λ e. let l = h.0 in omega arith)) (unplaced ps r h.1)

-- what a region that may be made is like
pub record MayBeMade (f : Forest) (kind : Kind) (size : ℕ) : Type 0 where
  pub sized : bad_size kind size ≡ None
  pub device : bad_device (device_of kind) ≡ None
  pub few : f.made < most_made

pub may_be_made : (f : Forest) (kind : Kind) (size : ℕ) → refusal_of f (calls.Region kind size) ≡ None → MayBeMade f kind size
may_be_made f kind size e =
    let each = each_none (refusals f (calls.Region kind size) ++ no_more_calls f ∷ []) e in record {
      sized = each.1.0;
      device = each.1.1.0;
      few = let t = refuse_if-none _ _ (first_none (at_limit which.Made most_made f.made) (at_limit which.Regions most_regions (length f.nodes))
          each.1.1.1.1.0) in grind (arith, nat_tests);
    }

-- its bytes are whole pages and not too many, and its registers are few
pub bytes_fit : (kind : Kind) (size bytes regs : ℕ) → bad_size kind size ≡ None → bad_device (device_of kind) ≡ None → extent bytes regs ≡ extent_of kind size
    → (bytes % page_size ≡ 0) × (bytes ≤ most_bytes) × (regs ≤ most_registers)
bytes_fit kind size bytes regs s d e = go kind s d (ap (λ (x : Extent). x.bytes) e) (ap (λ (x : Extent). x.regs) e)
  where
    few : (device : Device) → bad_device (Some device) ≡ None → device.regs ≤ most_registers
    few device h =
        let good : is_good_device device ≡ true = not-false _ (refuse_if-none _ _ h) in
        let o = device.ops in
        let t = (and_parts (is_access_size o.valid_min && is_access_size o.valid_max && is_access_size o.impl_min && is_access_size o.impl_max
        && nat_le o.valid_min o.valid_max && nat_le o.impl_min o.impl_max && nat_le 1 device.regs) (nat_le device.regs most_registers) good).1 in
        grind (arith, nat_tests)

    go : (k : Kind) → bad_size k size ≡ None → bad_device (device_of k) ≡ None → bytes ≡ (extent_of k size).bytes → regs ≡ (extent_of k size).regs
        → (bytes % page_size ≡ 0) × (bytes ≤ most_bytes) × (regs ≤ most_registers)
    go Ram s d x y = let p = size_whole Ram size s refl in (ap (λ n. n % page_size) x ∙ p.1, omega (arith, p.2), omega arith)
    go Rom s d x y = let p = size_whole Rom size s refl in (ap (λ n. n % page_size) x ∙ p.1, omega (arith, p.2), omega arith)
    go (RomDevice device) s d x y = let p = size_whole (RomDevice device) size s refl in let r = few device d in
        (ap (λ n. n % page_size) x ∙ p.1, omega (arith, p.2), omega arith)
    go (Io device) s d x y = let r = few device d in (ap (λ n. n % page_size) x, omega arith, omega arith)
    go k s d x y = (ap (λ n. n % page_size) x, omega arith, omega arith)

-- of a desk

pub backs_of : (s : BackedState) (made : ℕ) (all : List Place) → IsBackedDesk s made all → Backs (forest_at s) s.backing
backs_of s made all k = record { backs = k.backs; ascending = k.ascending; made_before = k.made_before }

pub desk_of : (s : BackedState) (made : ℕ) (all : List Place) → made ≡ (forest_at s).made → all ≡ all_places s.backing → Backs (forest_at s) s.backing
    → IsBackedDesk s made all
desk_of s made all counts lists k = record { counted = counts; listed = lists; backs = k.backs; ascending = k.ascending; made_before = k.made_before }

-- what a change prepares
pub ready_change : (s : BackedState) (call : Call) (listeners : List Listener) (p : Readied) → s.desk.state.depth ≡ 0 → is_quiet call ≡ false
    → after (forest_at s) call ≡ Ok p.generation.forest
    → p ≡ readied s.desk.current p.generation.forest (all_places s.backing) listeners (Some call) → Backs (forest_at s) s.backing → IsOfBackedDesk s p
ready_change s call listeners p outside change e same k = record {
  of_desk = record {
    number = ap (λ (r : Readied). r.generation.number) same;
    source = inl (outside, (call, ap (λ (r : Readied). r.call) same, e));
  };
  same_made = ap (λ (x : Forest). x.made) (after-accepted (forest_at s) p.generation.forest call e).1 ∙ made_same (forest_at s) call (makes_none call change);
  backs = backs_after s.backing.pool_words (forest_at s) p.generation.forest call s.backing.places e (makes_none call change) k.backs;
}

pub ready_result : (s : BackedState) (call : Call) (listeners : List Listener) (r : Result Readied Refusal) → s.desk.state.depth ≡ 0 → is_quiet call ≡ false
    → IfOk r (λ p. after (forest_at s) call ≡ Ok p.generation.forest)
    → IfOk r (λ p. p ≡ readied s.desk.current p.generation.forest (all_places s.backing) listeners (Some call)) → Backs (forest_at s) s.backing
    → IfOk r (IsOfBackedDesk s)
ready_result s call listeners (Ok p) outside change e same k = ready_change s call listeners p outside change e same k
ready_result s call listeners (Err why) outside change e same k = tt

-- a commit that publishes nothing, or only prepares, leaves the forest
pub step_forest : (old new : DeskState) (places : List Place) (listeners : List Listener) (step : Step) → IsStep old places listeners new step
    → new.state.forest ≡ old.state.forest
step_forest old new places listeners Inner h = ap (λ (d : DeskState). d.state.forest) h.1
step_forest old new places listeners Empty h = ap (λ (d : DeskState). d.state.forest) h.2
step_forest old new places listeners (Ready p) h = ap (λ (d : DeskState). d.state.forest) h.2

pub commit_forest : (old new : DeskState) (places : List Place) (listeners : List Listener) (r : Result Step Refusal) → IfOk r (IsStep old places listeners new)
    → OnErr r (new ≡ old) → new.state.forest ≡ old.state.forest
commit_forest old new places listeners (Ok step) h k = step_forest old new places listeners step h
commit_forest old new places listeners (Err why) h k = ap (λ (d : DeskState). d.state.forest) k

-- a region with words that was made

pub made_more : (f g : Forest) (kind : Kind) (size : ℕ) → after f (calls.Region kind size) ≡ Ok g → g.made ≡ f.made + 1
made_more f g kind size e = ap (λ (x : Forest). x.made) (after-accepted f g (calls.Region kind size) e).1

abbrev id_of_next : Forest → RegionId
id_of_next f = record { 0 = f.made }

some_words_made : (kind : Kind) (size bytes regs : ℕ) → bad_size kind size ≡ None → bad_device (device_of kind) ≡ None → extent bytes regs ≡ extent_of kind size
    → 0 < bytes + regs → 0 < words_of (extent_of kind size)
some_words_made kind size bytes regs s d e some =
    subst (λ (x : Extent). 0 < words_of x) e (some_words bytes regs (bytes_fit kind size bytes regs s d e).0 some)

pub taken_backing : (f : Forest) (b : Backing) (kind : Kind) (size : ℕ) (p : Place) → 0 < words_of (extent_of kind size)
    → first_fit b.pool_words b.places (words_of (extent_of kind size)) ≡ Some p.start → p ≡ place_from (id_of_next f) p.start (extent_of kind size)
    → backing_after f b (calls.Region kind size) ≡ backing_at b.pool_words (b.places ++ p ∷ [])
taken_backing f b kind size p some fit is =
    let no : (words_of (extent_of kind size) == 0) ≡ false = ne_eqb _ _ (λ e. omega arith) in
    rw (no, fit) (ap (λ (q : Place). backing_at b.pool_words (b.places ++ q ∷ [])) (sym is))

pub fits_backing : (b : Backing) (kind : Kind) (size start : ℕ) → first_fit b.pool_words b.places (words_of (extent_of kind size)) ≡ Some start
    → no_backing b (calls.Region kind size) ≡ None
fits_backing b kind size start fit = rw fit (go (not (words_of (extent_of kind size) == 0)))
  where
    go : (t : Bool) → refuse_if (t && false) (NoBacking (words_of (extent_of kind size))) ≡ None
    go true = refl
    go false = refl

pub inserted : (xs : List Place) (n p : Place) (all : List Place) (at : ℕ) → all ≡ xs ++ n ∷ [] → at ≡ length all - 1
    → insert all at p ≡ (xs ++ p ∷ []) ++ n ∷ []
inserted xs n p all at e l =
    let long : length all ≡ length xs + 1 = ap length e ∙ length-append xs (n ∷ []) in
    let there : at ≡ length xs = omega arith in
    ap (λ zs. insert zs at p) e ∙ ap (λ i. insert (xs ++ n ∷ []) i p) there ∙ insert-append_right xs (n ∷ []) (length xs) (length xs) p refl (omega arith)
    ∙ ap (λ i. xs ++ insert (n ∷ []) i p) (let z : length xs - length xs ≡ 0 = omega arith in z) ∙ sym (append_assoc xs (p ∷ []) (n ∷ []))

pub given_back : (places : List Place) (region : RegionId) (p : Place) → Every (λ q. q.region.0 < region.0) places → p.region ≡ region
    → without (places ++ p ∷ []) region ≡ places
given_back places region p before is =
    filter-append (λ q. not (is_place_of region q)) places (p ∷ [])
    ∙ ap (λ ps. ps ++ filter (λ q. not (is_place_of region q)) (p ∷ [])) (all_stay region places
    (weaker (λ q. q.region.0 < region.0) (λ q. q.region.0 ≢ region.0) (λ q l e. omega arith) places before))
    ∙ rw (eq-eqb p.region.0 region.0 (ap (λ (r : RegionId). r.0) is)) (append-nil places)

pub refused_result : (s : BackedState) (kind : Kind) (size bytes regs : ℕ) (r : Result Place Refusal) → refusal_of (forest_at s) (calls.Region kind size) ≡ None
    → (bad_size kind size ≡ None → extent bytes regs ≡ extent_of kind size) → 0 < bytes + regs
    → ((why : Refusal) → why ≢ Memory → (r ≡ Err why) ↔ ((why ≡ NoBacking (words_of (extent bytes regs)))
    × (first_fit s.backing.pool_words s.backing.places (words_of (extent bytes regs)) ≡ None)))
    → IfErr r (λ why. why ≢ Memory → refusal_at s (calls.Region kind size) ≡ Some why)
refused_result s kind size bytes regs (Ok p) none e some h = tt
refused_result s kind size bytes regs (Err why) none e some h = λ other.
    let may = may_be_made (forest_at s) kind size none in
    let same = e may.sized in
    let t = (h why other).0 refl in
    let fit : first_fit s.backing.pool_words s.backing.places (words_of (extent_of kind size)) ≡ None =
    subst (λ (x : Extent). first_fit s.backing.pool_words s.backing.places (words_of x) ≡ None) same t.1 in
    let words = some_words_made kind size bytes regs may.sized may.device same some in
    let no : (words_of (extent_of kind size) == 0) ≡ false = ne_eqb _ _ (λ z. omega arith) in
    rw (none, no, fit) (ap (λ (w : Refusal). Some w) (ap (λ (x : Extent). NoBacking (words_of x)) (sym same) ∙ sym t.0))

-- what it leaves of the desk
pub desk_made : (s t : BackedState) (kind : Kind) (size bytes regs made at : ℕ) (p : Place) (all : List Place) → IsBackedDesk s made all → IsMade (forest_at s)
    → refusal_of (forest_at s) (calls.Region kind size) ≡ None → (bad_size kind size ≡ None → extent bytes regs ≡ extent_of kind size) → 0 < bytes + regs
    → after (forest_at s) (calls.Region kind size) ≡ Ok (forest_at t) → p ≡ place_from (record { 0 = made }) p.start (extent bytes regs)
    → first_fit s.backing.pool_words s.backing.places (words_of (extent bytes regs)) ≡ Some p.start
    → t.backing ≡ backing_at s.backing.pool_words (s.backing.places ++ p ∷ []) → at ≡ length all - 1
    → IsBackedDesk t (made + 1) (insert all at p) × (no_backing s.backing (calls.Region kind size) ≡ None)
    × (t.backing ≡ backing_after (forest_at s) s.backing (calls.Region kind size))
desk_made s t kind size bytes regs made at p all k whole none e some done is fit back last =
    let call = calls.Region kind size in
    let may = may_be_made (forest_at s) kind size none in
    let same = e may.sized in
    let words = some_words_made kind size bytes regs may.sized may.device same some in
    let free : first_fit s.backing.pool_words s.backing.places (words_of (extent_of kind size)) ≡ Some p.start =
    subst (λ (x : Extent). first_fit s.backing.pool_words s.backing.places (words_of x) ≡ Some p.start) same fit in
    let its : p ≡ place_from (id_of_next (forest_at s)) p.start (extent_of kind size) =
    is ∙ ap (λ (x : Extent). place_from (record { 0 = made }) p.start x) same
    ∙ ap (λ (n : ℕ). place_from (record { 0 = n }) p.start (extent_of kind size)) k.counted in
    let fits = fits_backing s.backing kind size p.start free in
    let taken = taken_backing (forest_at s) s.backing kind size p words free its in
    let backing : t.backing ≡ backing_after (forest_at s) s.backing call = back ∙ sym taken in (
      desk_of t (made + 1) (insert all at p)
          (ap (λ n. n + 1) k.counted ∙ sym (made_more (forest_at s) (forest_at t) kind size done))
          (inserted s.backing.places (notifiers_place s.backing.pool_words) p all at k.listed last ∙ ap all_places (sym back))
          (subst (Backs (forest_at t)) (sym backing) (called (forest_at s) (forest_at t) s.backing call whole done fits (backs_of s made all k))),
      fits,
      backing,
    )

-- a call that makes no words

same_err : (x y : Refusal) → (let r : Result Forest Refusal = Err x in r) ≡ Err y → x ≡ y
same_err x y h = cc

pub after_refused : (f : Forest) (call : Call) (why : Refusal) → after f call ≡ Err why → refusal_of f call ≡ Some why
after_refused f call why e = go (refusal_of f call) refl
  where
    go : (o : Option Refusal) → refusal_of f call ≡ o → refusal_of f call ≡ Some why
    go None h = absurd (let no : Ok (counted (changed f call)) ≡ Err why = subst (λ (o : Option Refusal). or_refused o (counted (changed f call)) ≡ Err why) h e in cc)
    go (Some w) h =
        let is : Err w ≡ after f call = sym (subst (λ (o : Option Refusal). or_refused o (counted (changed f call)) ≡ Err w) (sym h) refl) in
        h ∙ ap (λ (x : Refusal). Some x) (same_err w why (is ∙ e))

pub refused_plain : (s : BackedState) (call : Call) (r : Result Applied Refusal) → IfErr r (λ why. why ≢ Memory → after (forest_at s) call ≡ Err why)
    → IfErr r (λ why. why ≢ Memory → refusal_at s call ≡ Some why)
refused_plain s call (Ok x) h = tt
refused_plain s call (Err why) h = λ other. rw (after_refused (forest_at s) call why (h other)) refl

pub fits_wordless : (b : Backing) (call : Call) → words_made (extent_made call) ≡ 0 → no_backing b call ≡ None
fits_wordless b call none = rw none refl

pub same_wordless : (f : Forest) (b : Backing) (call : Call) → words_made (extent_made call) ≡ 0 → backing_after f b call ≡ b
same_wordless f b call none = same_backing f b call (go (extent_made call) none)
  where
    go : (o : Option Extent) → words_made o ≡ 0 → new_places b (record { 0 = f.made }) o ≡ []
    go None h = refl
    go (Some x) h = rw h refl

-- how many regions were made after it
abbrev pub made_after : ℕ → Applied → ℕ
made_after made (Made region) = region.0 + 1
made_after made Done = made

number_made : (f : Forest) (call : Call) → made_after f.made (answer_of f call) ≡ (changed f call).made
number_made f (calls.Region kind size) = refl
number_made f _ = refl

pub counts_after : (f g : Forest) (call : Call) (x : Applied) → after f call ≡ Ok g → x ≡ answer_of f call → made_after f.made x ≡ g.made
counts_after f g call x e a = ap (made_after f.made) a ∙ number_made f call ∙ sym (ap (λ (y : Forest). y.made) (after-accepted f g call e).1)

pub few_after : (f g : Forest) (call : Call) (region : RegionId) → IsMade g → after f call ≡ Ok g → Made region ≡ answer_of f call → region.0 + 1 ≤ most_made
few_after f g call region whole e a =
    let counts = counts_after f g call (Made region) e a in let few = (closed_made g whole).few_made in omega arith

pub plain_desk : (s t : BackedState) (call : Call) (x : Applied) (made : ℕ) (all : List Place) → IsBackedDesk s made all → IsMade (forest_at s)
    → words_made (extent_made call) ≡ 0 → after (forest_at s) call ≡ Ok (forest_at t) → x ≡ answer_of (forest_at s) call → t.backing ≡ s.backing
    → IsBackedDesk t (made_after made x) all
plain_desk s t call x made all k whole none e a same =
    let stays = same_wordless (forest_at s) s.backing call none in
    desk_of t (made_after made x) all (ap (λ n. made_after n x) k.counted ∙ counts_after (forest_at s) (forest_at t) call x e a)
    (k.listed ∙ ap all_places (sym same))
    (subst (Backs (forest_at t)) (stays ∙ sym same)
    (called (forest_at s) (forest_at t) s.backing call whole e (fits_wordless s.backing call none) (backs_of s made all k)))

pub not_region : (call : Call) → ((kind : Kind) (size : ℕ) → call ≢ calls.Region kind size) → words_made (extent_made call) ≡ 0
not_region (calls.Region kind size) h = absurd (h kind size refl)
not_region _ h = refl

-- the desk when a region was released
pub desk_released : (s : BackedState) (made : ℕ) (all : List Place) (region : RegionId) (p : Place) → IsBackedDesk s made all → IsMade (forest_at s)
    → node_of (forest_at s).nodes region ≡ None → place_in s.backing.places region ≡ Some p
    → IsBackedDesk (backed_state s.desk (backing_without s.backing region)) made (without all region)
desk_released s made all region p k whole gone there =
    let found = place_of_region s.backing.places region p there in
    let other : is_notifiers region ≡ false =
    subst (λ (r : RegionId). is_notifiers r ≡ false) found.1
    (every_in (λ q. (is_notifiers q.region ≡ false) × (0 < q.words) × (past q ≤ s.backing.pool_words)) p s.backing.places k.backs.inside found.0).0 in
    desk_of (backed_state s.desk (backing_without s.backing region)) made (without all region) k.counted
    (ap (λ ps. without ps region) k.listed ∙ sym (all_without s.backing region other))
    (released (forest_at s) s.backing region gone (backs_of s made all k))

pub none_released : (s : BackedState) (made : ℕ) (all : List Place) (region : RegionId) → IsBackedDesk s made all → place_in s.backing.places region ≡ None
    → IsBackedDesk (backed_state s.desk (backing_without s.backing region)) made all
none_released s made all region k none =
    let stay : without s.backing.places region ≡ s.backing.places = all_stay region s.backing.places (not_found region s.backing.places none) in
    subst (λ (ps : List Place). IsBackedDesk (backed_state s.desk (backing_at s.backing.pool_words ps)) made all) (sym stay) k

pub ascends : (s : BackedState) (made : ℕ) (all : List Place) → IsBackedDesk s made all → IsMade (forest_at s) → AscendByRegion all
ascends s made all k whole = subst AscendByRegion (sym k.listed) (all_ascend (forest_at s) s.backing whole (backs_of s made all k))
