-- What a generation shows: its forest, and the places of the regions in it. This project's own rule.
use Rattle.std.specs.Prelude.{◌≡◌, ◌≢◌, ℕ, ◌<◌, ◌≤◌, ◌⊎◌, true, List, IsSome, IsSomeAnd}
use Rattle.mem_base.specs.declared.map.forests.Node.{Node}
use Rattle.mem_base.specs.declared.map.forests.Forest.{Forest}
use Rattle.mem_base.specs.declared.access.cells.Place.{Place}
use Rattle.mem_base.specs.lists.Every.{Every, EveryPair}
use Rattle.mem_base.specs.map.Region.{node_of}
use Rattle.mem_base.specs.map.Forest.{IsMade}
use Rattle.mem_base.specs.access.PlacesByRegion.{notifiers, place_in}
use Rattle.mem_base.specs.access.Places.{extent_of, words_of, place_from, past, notifiers_place}
use Rattle.mem_base.specs.views.Naming.{names, shows_events}

-- the place has the words, bytes and registers that its region has by its kind and size
abbrev pub FitsRegion : List Node → Place → Type 0
FitsRegion nodes p = IsSomeAnd (node_of nodes p.region) (λ n. p ≡ place_from p.region p.start (extent_of n.kind n.size))

-- the place of a region that the forest names: it has words, which lie in the pool
pub record IsRegionPlace (pool_words : ℕ) (f : Forest) (p : Place) : Type 0 where
  pub named : names f p.region ≡ true
  pub fits : FitsRegion f.nodes p
  pub nonempty : 0 < p.words
  pub within : past p ≤ pool_words

-- the notifiers' place, after the pool, of a forest of which a leaf has an ioeventfd
abbrev pub IsNotifiersPlace : ℕ → Forest → Place → Type 0
IsNotifiersPlace pool_words f p = (shows_events f ≡ true) × (p ≡ notifiers_place pool_words)

-- the region, where the forest names it and it has words, has a place
abbrev pub HasPlace : Forest → List Place → Node → Type 0
HasPlace f places n = names f n.id ≡ true → 0 < words_of (extent_of n.kind n.size) → IsSome (place_in places n.id)

-- two places are of two regions, and have no word in common
abbrev pub ArePlacesApart : Place → Place → Type 0
ArePlacesApart p q = (p.region.0 ≢ q.region.0) × ((past p ≤ q.start) ⊎ (past q ≤ p.start))

-- the places are just those of the regions that the forest names and that have words, and the notifiers' place where
-- a leaf has an ioeventfd; no two meet, and none ends past its pool
pub record ArePlacesOf (pool_words : ℕ) (f : Forest) (places : List Place) : Type 0 where
  pub each : Every (λ p. IsRegionPlace pool_words f p ⊎ IsNotifiersPlace pool_words f p) places
  pub regions : Every (HasPlace f places) f.nodes
  pub notifying : shows_events f ≡ true → IsSome (place_in places notifiers)
  pub apart : EveryPair ArePlacesApart places

-- what a generation shows: a forest that accepted calls make, and its places in some pool
pub record IsEdition (f : Forest) (places : List Place) : Type 0 where
  pub made : IsMade f
  pub pool_words : ℕ
  pub places_of : ArePlacesOf pool_words f places
