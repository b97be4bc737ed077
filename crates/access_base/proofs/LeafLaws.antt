-- Laws of the places of leaves, and of what answers there.
use Rattle.std.proofs.Common.{◌≡◌, ℕ, ◌/◌, ◌^◌, ◌<◌, ◌≤◌, ◌-◌, ◌==◌, not, Bool, true, false, List, [], ◌∷◌, length}
use Rattle.std.proofs.Common.{Option, Some, None, ◌⊎◌, inl, inr, refl, sym, ap, subst, ◌∙◌, if◌then◌else◌, arith}
use Rattle.std.specs.Prelude.{is_some, IsSome, IsSomeAnd, IfSome, option_map, find, unwrap_or}
use Rattle.std.proofs.lemmas.Bool.{eqb-true, lt-ltb}
use Rattle.std.proofs.lemmas.Bool.Decides.{nat_tests}
use Rattle.mem_base.specs.declared.map.ids.RegionId.{RegionId}
use Rattle.mem_base.specs.declared.map.spots.Spot.{Spot}
use Rattle.mem_base.specs.declared.map.kinds.Kind.{Kind}
use Rattle.mem_base.specs.declared.map.kinds.Kind.TheVariants.{Container, Ram, Rom, RomDevice, Io, Iommu, Alias, Reserve, Host}
use Rattle.mem_base.specs.declared.map.kinds.Device.{Device}
use Rattle.mem_base.specs.declared.map.forests.Node.{Node}
use Rattle.mem_base.specs.declared.map.forests.Forest.{Forest}
use Rattle.mem_base.specs.declared.access.cells.Place.{Place}
use Rattle.mem_base.specs.lists.Every.{Every}
use Rattle.mem_base.specs.map.Kinds.{has_bytes, device_of}
use Rattle.mem_base.specs.map.Limits.{notifier_count}
use Rattle.mem_base.specs.map.Devices.{is_good_device}
use Rattle.mem_base.specs.map.Region.{node_of, of_region}
use Rattle.mem_base.specs.map.Refusals.{bad_size}
use Rattle.mem_base.specs.map.TableRefusals.{bad_device, bad_event}
use Rattle.mem_base.specs.declared.map.ioevents.Ioevent.{Ioevent}
use Rattle.mem_base.specs.map.Events.{is_good_event}
use Rattle.mem_base.specs.map.Forest.{IsMade, IsRegion, IsOrderedForest, IsClosedForest}
use Rattle.mem_base.specs.views.Naming.{names, shows_events}
use Rattle.mem_base.specs.views.LiveEvents.{events_of}
use Rattle.mem_base.specs.access.PlacesByRegion.{notifiers, place_in}
use Rattle.mem_base.specs.access.Places.{extent_of, words_of, place_from, is_data_or_register}
use Rattle.mem_base.specs.access.EditionPlaces.{IsRegionPlace, IsNotifiersPlace, HasPlace, IsEdition}
use Rattle.mem_base.specs.access.AccessSteps.{Transfer, unanswered}
use Rattle.mem_base.specs.access.DeviceAccess.{fits, notifier_of}
use Rattle.mem_base.specs.access.Access.{at_leaf}
use Rattle.mem_base.proofs.ForestLaws.{every_node_of, id_of}
use Rattle.generation.proofs.HandedOn.{refuse_if-none, size_whole, IsOrderedForest-made, IsClosedForest-made}
use Rattle.view_laws.proofs.NamingLaws.{names_leaves}
use Rattle.view_laws.proofs.ShownEvents.{events_shown}
use Rattle.access_cut.specs.Conditions.{IsGood}
use Rattle.access_cut.proofs.Good.{some_registers}
use Rattle.generation.specs.Published.{Published}
use Rattle.view_laws.proofs.Tests.{same_region}

-- what holds of each place holds of the one that is found, and it is of the region
found_place : (P : Place → Type 0) (ps : List Place) (r : RegionId) (q : Place) → Every P ps → place_in ps r ≡ Some q → P q × (q.region ≡ r)
found_place P [] r q h e = cc
found_place P (p ∷ ps) r q h e = go (p.region.0 == r.0) refl e (found_place P ps r q h.1)
  where
    go : (b : Bool) → (p.region.0 == r.0) ≡ b → (if b then Some p else place_in ps r) ≡ Some q
        → (place_in ps r ≡ Some q → P q × (q.region ≡ r)) → P q × (q.region ≡ r)
    go true t e rest = let is : p ≡ q = cc in subst (λ x. P x × (x.region ≡ r)) is (h.0, same_region p.region r (eqb-true p.region.0 r.0 t))
    go false t e rest = rest e

module _ (g : Published) (k : IsEdition g.forest g.places) where
  abbrev f : Forest
  f = g.forest

  abbrev places : List Place
  places = g.places

  pub closed : IsClosedForest f
  closed = subst IsClosedForest k.made.made (IsClosedForest-made k.made.calls k.made.fitting)

  pub ordered : IsOrderedForest f
  ordered = subst IsOrderedForest k.made.made (IsOrderedForest-made k.made.calls)

  -- no region is the owner of the notifiers
  not_notifiers : (r : RegionId) (n : Node) → node_of f.nodes r ≡ Some n → r ≡ notifiers → ⊥
  not_notifiers r n is e =
      let made = (every_node_of (λ n. n.id.0 < f.made) f.nodes r n is ordered.made_before).0 in
      let id : n.id.0 ≡ 2 ^ 32 - 1 = ap (λ (x : RegionId). x.0) (id_of f.nodes r n is ∙ e) in
      let few : f.made ≤ 4294967294 = closed.few_made in
      omega (arith, made, id, few)

  -- the notifiers' place has a word for each notifier
  pub notifiers_found : (p : Place) → place_in places notifiers ≡ Some p
      → (place_in places p.region ≡ Some p) × (p.region ≡ notifiers) × ((number : ℕ) → number < notifier_count → is_data_or_register p number ≡ true)
  notifiers_found p found =
      let t = found_place (λ p. IsRegionPlace k.pool_words f p ⊎ IsNotifiersPlace k.pool_words f p) places notifiers p k.places_of.each found in
      (ap (place_in places) t.1 ∙ found, t.1, go t.0 t.1)
    where
      no_region : (o : Option Node) → node_of f.nodes p.region ≡ o → p.region ≡ notifiers
          → IsSomeAnd o (λ n. p ≡ place_from p.region p.start (extent_of n.kind n.size)) → ⊥
      no_region None e is h = h
      no_region (Some n) e is h = not_notifiers p.region n e is

      go : IsRegionPlace k.pool_words f p ⊎ IsNotifiersPlace k.pool_words f p → p.region ≡ notifiers
          → (number : ℕ) → number < notifier_count → is_data_or_register p number ≡ true
      go (inl h) is number l = absurd (no_region (node_of f.nodes p.region) refl is h.fits)
      go (inr h) is number l = ap (λ (x : Place). is_data_or_register x number) h.1 ∙ lt-ltb number notifier_count l

  -- a place without registers is of a region
  pub region_there : (r : RegionId) (p : Place) → place_in places r ≡ Some p → p.regs ≡ 0 → node_of f.nodes r ≡ None → ⊥
  region_there r p found none gone =
      let t = found_place (λ p. IsRegionPlace k.pool_words f p ⊎ IsNotifiersPlace k.pool_words f p) places r p k.places_of.each found in
      go t.0 t.1
    where
      count : (m : ℕ) → m ≡ notifier_count → m ≡ 0 → ⊥
      count m many none = omega (arith, many, none)

      nowhere : (o : Option Node) → o ≡ None → IsSomeAnd o (λ n. p ≡ place_from p.region p.start (extent_of n.kind n.size)) → ⊥
      nowhere None e h = h
      nowhere (Some m) e h = cc

      go : IsRegionPlace k.pool_words f p ⊎ IsNotifiersPlace k.pool_words f p → p.region ≡ r → ⊥
      go (inl h) e = nowhere (node_of f.nodes p.region) (ap (node_of f.nodes) e ∙ gone) h.fits
      go (inr h) e = count p.regs (ap (λ (x : Place). x.regs) h.1) none

  module _ (r : RegionId) (n : Node) (is : node_of f.nodes r ≡ Some n) where
    pub region : IsRegion f.nodes n
    region = (every_node_of (IsRegion f.nodes) f.nodes r n is closed.regions).0

    -- a place of the region is that of its kind and size
    pub leaf_place : (p : Place) → place_in places r ≡ Some p → (p.region ≡ r) × (p ≡ place_from p.region p.start (extent_of n.kind n.size))
    leaf_place p found =
        let t = found_place (λ p. IsRegionPlace k.pool_words f p ⊎ IsNotifiersPlace k.pool_words f p) places r p k.places_of.each found in
        (t.1, go t.0 t.1)
      where
        fits : (o : Option Node) → o ≡ Some n → IsSomeAnd o (λ n. p ≡ place_from p.region p.start (extent_of n.kind n.size))
            → p ≡ place_from p.region p.start (extent_of n.kind n.size)
        fits None e h = cc
        fits (Some m) e h = let same : m ≡ n = cc in subst (λ (x : Node). p ≡ place_from p.region p.start (extent_of x.kind x.size)) same h

        go : IsRegionPlace k.pool_words f p ⊎ IsNotifiersPlace k.pool_words f p → p.region ≡ r → p ≡ place_from p.region p.start (extent_of n.kind n.size)
        go (inl h) e = fits (node_of f.nodes p.region) (ap (node_of f.nodes) e ∙ is) h.fits
        go (inr h) e = absurd (not_notifiers r n is (sym e ∙ ap (λ (x : Place). x.region) h.1))

    -- it has words
    leaf_words : (p : Place) → place_in places r ≡ Some p → 0 < p.words
    leaf_words p found =
        let t = found_place (λ p. IsRegionPlace k.pool_words f p ⊎ IsNotifiersPlace k.pool_words f p) places r p k.places_of.each found in
        go t.0 t.1
      where
        go : IsRegionPlace k.pool_words f p ⊎ IsNotifiersPlace k.pool_words f p → p.region ≡ r → 0 < p.words
        go (inl h) e = h.nonempty
        go (inr h) e = absurd (not_notifiers r n is (sym e ∙ ap (λ (x : Place). x.region) h.1))

    -- words, where there are bytes or registers
    pub bytes_words : (kind : Kind) (size : ℕ) → bad_size kind size ≡ None → has_bytes kind ≡ true → 0 < words_of (extent_of kind size)
    bytes_words kind size none bytes =
        let t = size_whole kind size none bytes in
        let d : 0 < size / 8 = omega (arith, t.0, t.1) in
        go kind bytes d
      where
        go : (kind : Kind) → has_bytes kind ≡ true → 0 < size / 8 → 0 < words_of (extent_of kind size)
        go Ram e d = omega (arith, d)
        go Rom e d = omega (arith, d)
        go (RomDevice device) e d = omega (arith, d)
        go _ e d = cc

    pub good : (device : Device) → device_of n.kind ≡ Some device → IsGood device
    good device e =
        let none : bad_device (Some device) ≡ None = sym (ap bad_device e) ∙ region.device in
        go (is_good_device device) refl (refuse_if-none _ _ none)
      where
        go : (b : Bool) → is_good_device device ≡ b → not b ≡ false → IsGood device
        go true e h = e
        go false e h = cc

    -- a place without registers is of RAM or ROM
    pub memory_kind : (p : Place) → place_in places r ≡ Some p → p.regs ≡ 0 → (n.kind ≡ Ram) ⊎ (n.kind ≡ Rom)
    memory_kind p found none = go n.kind refl
      where
        whole : p ≡ place_from p.region p.start (extent_of n.kind n.size)
        whole = (leaf_place p found).1

        regs : (kind : Kind) → n.kind ≡ kind → (extent_of kind n.size).regs ≡ 0
        regs kind e = sym (ap (λ (x : Kind). (extent_of x n.size).regs) e) ∙ sym (ap (λ (x : Place). x.regs) whole) ∙ none

        words : (kind : Kind) → n.kind ≡ kind → 0 < words_of (extent_of kind n.size)
        words kind e = subst (λ (x : Kind). 0 < words_of (extent_of x n.size)) e (subst (λ x. 0 < x) (ap (λ (x : Place). x.words) whole) (leaf_words p found))

        device : (d : Device) → device_of n.kind ≡ Some d → d.regs ≡ 0 → ⊥
        device d e z = let some : 1 ≤ d.regs = some_registers d (good d e) in omega (arith, some, z)

        go : (kind : Kind) → n.kind ≡ kind → (n.kind ≡ Ram) ⊎ (n.kind ≡ Rom)
        go Ram e = inl e
        go Rom e = inr e
        go (RomDevice d) e = absurd (device d (ap device_of e) (regs (RomDevice d) e))
        go (Io d) e = absurd (device d (ap device_of e) (regs (Io d) e))
        go Container e = absurd (let w = words Container e in omega (arith, w))
        go Iommu e = absurd (let w = words Iommu e in omega (arith, w))
        go (Alias target offset) e = absurd (let w = words (Alias target offset) e in omega (arith, w))
        go Reserve e = absurd (let w = words Reserve e in omega (arith, w))
        go Host e = absurd (let w = words Host e in omega (arith, w))

    module _ (named : names f r ≡ true) where
      -- a leaf with words has a place
      pub leaf_has_place : place_in places r ≡ None → 0 < words_of (extent_of n.kind n.size) → ⊥
      leaf_has_place none some =
          let id : n.id ≡ r = id_of f.nodes r n is in
          let has : HasPlace f places n = (every_node_of (HasPlace f places) f.nodes r n is k.places_of.regions).0 in
          let there : IsSome (place_in places n.id) = has (ap (names f) id ∙ named) some in
          let at : IsSome (place_in places r) = subst (λ (x : RegionId). IsSome (place_in places x)) id there in
          let bad : false ≡ true = sym (ap (λ (o : Option Place). is_some o) none) ∙ at in cc

      -- what has no place answers nothing
      pub unplaced : (spot : Spot) (t : Transfer) → place_in places r ≡ None → of_region f.nodes r (unanswered t) (λ n. at_leaf n.kind n spot t) ≡ unanswered t
      unplaced spot t none = ap (λ o. unwrap_or (option_map (λ (m : Node). at_leaf m.kind m spot t) o) (unanswered t)) is ∙ go n.kind refl
        where
          memory : (kind : Kind) → n.kind ≡ kind → has_bytes kind ≡ true → ⊥
          memory kind e bytes = leaf_has_place none
              (bytes_words n.kind n.size region.sized (ap has_bytes e ∙ bytes))

          go : (kind : Kind) → n.kind ≡ kind → at_leaf kind n spot t ≡ unanswered t
          go Ram e = absurd (memory Ram e refl)
          go Rom e = absurd (memory Rom e refl)
          go (RomDevice device) e = absurd (memory (RomDevice device) e refl)
          go (Io device) e =
              let some : 1 ≤ device.regs = some_registers device (good device (ap device_of e)) in
              absurd (leaf_has_place none (subst (λ x. 0 < words_of (extent_of x n.size)) (sym e) (omega (arith, some))))
          go _ e = refl

-- the notifiers that ioeventfds set

good_number : (e : Ioevent) → bad_event e ≡ None → e.number < notifier_count
good_number e none = go (is_good_event e) refl (refuse_if-none _ _ none)
  where
    go : (b : Bool) → is_good_event e ≡ b → not b ≡ false → e.number < notifier_count
    go true h k = grind (arith, nat_tests, h)
    go false h k = cc

number_found : (test : Ioevent → Bool) (es : List Ioevent) (o : Option ℕ) → Every (λ e. bad_event e ≡ None) es → o ≡ option_map (λ e. e.number) (find test es)
    → IfSome o (λ number. number < notifier_count)
number_found test [] o h e = subst (λ o. IfSome o (λ number. number < notifier_count)) (sym e) tt
number_found test (x ∷ xs) o h e = go (test x) e (number_found test xs o h.1)
  where
    go : (b : Bool) → o ≡ option_map (λ e. e.number) (if b then Some x else find test xs)
        → (o ≡ option_map (λ e. e.number) (find test xs) → IfSome o (λ number. number < notifier_count)) → IfSome o (λ number. number < notifier_count)
    go true f rest = subst (λ o. IfSome o (λ number. number < notifier_count)) (sym f) (good_number x h.0)
    go false f rest = rest f

pub notifier_known : (f : Forest) → IsMade f → (r : RegionId) (n : Node) → node_of f.nodes r ≡ Some n → (offset size value : ℕ) (o : Option ℕ)
    → o ≡ notifier_of n.events offset size value → IfSome o (λ number. number < notifier_count)
notifier_known f made r n is offset size value o e =
    let closed = subst IsClosedForest made.made (IsClosedForest-made made.calls made.fitting) in
    let region : IsRegion f.nodes n = (every_node_of (IsRegion f.nodes) f.nodes r n is closed.regions).0 in
    number_found (fits offset size value) n.events o region.good_events e

pub events_named : (f : Forest) (r : RegionId) → names f r ≡ true → (offset size value : ℕ) (o : Option ℕ)
    → o ≡ notifier_of (events_of f r) offset size value → IfSome o (λ number. shows_events f ≡ true)
events_named f r named offset size value o e = go (events_of f r) refl o e
  where
    shown : 0 < length (events_of f r) → shows_events f ≡ true
    shown some = (events_shown f).1 (r, (names_leaves f r).0 named, some)

    go : (es : List Ioevent) → events_of f r ≡ es → (o : Option ℕ) → o ≡ notifier_of es offset size value → IfSome o (λ number. shows_events f ≡ true)
    go [] same o e = subst (λ o. IfSome o (λ number. shows_events f ≡ true)) (sym e) tt
    go (x ∷ es) same None e = tt
    go (x ∷ es) same (Some number) e = shown (subst (λ l. 0 < length l) (sym same) (omega arith))

pub notifier_shown : (f : Forest) (r : RegionId) (n : Node) → names f r ≡ true → node_of f.nodes r ≡ Some n → (offset size value : ℕ) (o : Option ℕ)
    → o ≡ notifier_of n.events offset size value → IfSome o (λ number. shows_events f ≡ true)
notifier_shown f r n named is offset size value o e =
    let events : n.events ≡ events_of f r = sym (ap (λ (m : Option Node). unwrap_or (option_map (λ n. n.events) m) []) is) in
    events_named f r named offset size value o (e ∙ ap (λ es. notifier_of es offset size value) events)
