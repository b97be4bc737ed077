-- The places that a generation has.
use Rattle.std.proofs.Common.{◌≡◌, if◌then◌else◌, Bool, true, false, List, [], ◌∷◌, map, filter, Ok, refl, sym, ap, subst, ◌∙◌, arith, ◌<◌}
use Rattle.std.specs.List.{list_any}
use Rattle.mem_base.specs.declared.map.ids.SpaceId.{SpaceId}
use Rattle.mem_base.specs.declared.map.forests.Forest.{Forest}
use Rattle.mem_base.specs.declared.views.flat.FlatRange.{FlatRange}
use Rattle.mem_base.specs.declared.access.cells.Place.{Place}
use Rattle.mem_base.specs.access.Places.{is_notifiers}
use Rattle.mem_base.specs.views.Naming.{has_leaf, shows_events}
use Rattle.mem_base.specs.machine.Desk.{shown_places, is_shown_place}
use Rattle.mem_base.specs.declared.map.calls.Call.{Call}
use Rattle.mem_base.specs.declared.map.calls.Call.TheVariants as calls
use Rattle.mem_base.specs.map.Calls.{after, is_quiet}
use Rattle.mem_base.specs.map.Forest.{IsMade}
use Rattle.mem_base.specs.access.EditionPlaces.{IsEdition, ArePlacesOf}
use Rattle.mem_base.proofs.EveryLaws.{every_filter}
use Rattle.history_laws.proofs.PlaceLaws.{shown_are_its_own}
use Rattle.history_laws.proofs.BackLaws.{backs_after, makes}
use Rattle.generation.specs.Published.{views_of, AscendByRegion}
use Rattle.transact.specs.Preparing.{AreDeskPlaces}
use Rattle.transact.proofs.MadeLaws.{ordered_made}
use Rattle.generation.proofs.ShownLaws.{leaf_is}

-- tests that agree keep the same
filter_same : {A : Type 0} (p q : A → Bool) → ((x : A) → p x ≡ q x) → (xs : List A) → filter p xs ≡ filter q xs
filter_same p q same [] = refl
filter_same p q same (x ∷ xs) = rw (same x, filter_same p q same xs) refl

-- by the atlases of a forest's spaces, the places of what it names are kept, and the notifiers' where a leaf has an ioeventfd
pub kept_places : {X : Type 0} (h : X → List FlatRange) (f : Forest) (atlases : List (SpaceId × X)) (notifies : Bool) (places : List Place) →
    map {B = SpaceId × List FlatRange} (λ p. (p.0, h p.1)) atlases ≡ views_of f → notifies ≡ shows_events f →
    filter (λ q. if is_notifiers q.region then notifies else list_any (λ p. has_leaf q.region (h p.1)) atlases) places ≡ shown_places f places
kept_places h f atlases notifies places views e =
    filter_same (λ q. if is_notifiers q.region then notifies else list_any (λ p. has_leaf q.region (h p.1)) atlases) (is_shown_place f) (λ q.
    ap (λ b. if is_notifiers q.region then b else list_any (λ p. has_leaf q.region (h p.1)) atlases) e
    ∙ ap (λ b. if is_notifiers q.region then shows_events f else b) (leaf_is h f q.region atlases views)) places

-- such places are those of a generation
pub edition_of : (g : Forest) (places list : List Place) → IsMade g → AreDeskPlaces g places → list ≡ shown_places g places → IsEdition g list
edition_of g places list made k e = record {
  made = made;
  pool_words = k.pool_words;
  places_of = subst (ArePlacesOf k.pool_words g) (sym (e ∙ ap (shown_places g) k.parts))
      (shown_are_its_own k.pool_words g k.regions (ordered_made g made).ascending k.backs);
}

ascend_filter : (p : Place → Bool) (places : List Place) → AscendByRegion places → AscendByRegion (filter p places)
ascend_filter p [] h = tt
ascend_filter p (x ∷ xs) h = go (ascend_filter p xs h.1) (p x)
  where
    go : AscendByRegion (filter p xs) → (b : Bool) → AscendByRegion (if b then x ∷ filter p xs else filter p xs)
    go rest true = (every_filter (λ q. x.region.0 < q.region.0) p xs h.0, rest)
    go rest false = rest

pub ascending_of : (g : Forest) (places list : List Place) → AreDeskPlaces g places → list ≡ shown_places g places → AscendByRegion list
ascending_of g places list k e = subst AscendByRegion (sym e) (ascend_filter (is_shown_place g) places k.ascending)

-- a change makes no region
pub makes_none : (call : Call) → is_quiet call ≡ false → makes call ≡ false
makes_none (calls.Region kind size) h = absurd (grind arith)
makes_none _ h = refl

-- the places of a desk serve after a change too
pub places_after : (f g : Forest) (call : Call) (places : List Place) → after f call ≡ Ok g → is_quiet call ≡ false → AreDeskPlaces f places
    → AreDeskPlaces g places
places_after f g call places e change k = record {
  pool_words = k.pool_words;
  regions = k.regions;
  parts = k.parts;
  backs = backs_after k.pool_words f g call k.regions e (makes_none call change) k.backs;
  ascending = k.ascending;
}
