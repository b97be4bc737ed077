-- The places of a pool that back a forest, and those of them that a generation of the forest shows.
use Rattle.std.specs.Prelude.{◌≡◌, ℕ, ◌<◌, ◌≤◌, false, List, [], ◌∷◌, ◌++◌, Some, IsSome}
use Rattle.mem_base.specs.declared.map.ids.RegionId.{RegionId}
use Rattle.mem_base.specs.declared.map.forests.Node.{Node}
use Rattle.mem_base.specs.declared.map.forests.Forest.{Forest}
use Rattle.mem_base.specs.declared.access.cells.Place.{Place}
use Rattle.mem_base.specs.lists.Every.{Every, EveryPair}
use Rattle.mem_base.specs.map.Region.{IsAscending, node_of}
use Rattle.mem_base.specs.access.PlacesByRegion.{place_in}
use Rattle.mem_base.specs.access.Places.{extent_of, words_of, place_from, past, is_notifiers, notifiers_place}
use Rattle.mem_base.specs.access.EditionPlaces.{ArePlacesApart, ArePlacesOf}
use Rattle.mem_base.specs.machine.Desk.{shown_places}
use Rattle.mem_base.specs.machine.Reaps.{Writer}
use Rattle.mem_base.specs.machine.World.{opening}
use Rattle.mem_base.specs.machine.History.{PureEntry, after_entries, IsLegal}

-- each region of the forest that has words has its place in the pool; regions that are dropped and not released yet may
-- have theirs too
pub record BacksForest (pool_words : ℕ) (f : Forest) (places : List Place) : Type 0 where
  pub regions : (region : RegionId) (n : Node) → node_of f.nodes region ≡ Some n → 0 < words_of (extent_of n.kind n.size) → IsSome (place_in places region)
  -- with the words, bytes and registers of the region's kind and size
  pub fits : Every (λ p. (n : Node) → node_of f.nodes p.region ≡ Some n → p ≡ place_from p.region p.start (extent_of n.kind n.size)) places
  pub inside : Every (λ p. (is_notifiers p.region ≡ false) × (0 < p.words) × (past p ≤ pool_words)) places
  pub apart : EveryPair ArePlacesApart places

-- of such places, with the notifiers' after the pool, those that a generation of the forest has are just its own
abbrev pub ShownPlacesAreItsOwn : Type 0
ShownPlacesAreItsOwn = (pool_words : ℕ) (f : Forest) (places : List Place) → IsAscending f.nodes → BacksForest pool_words f places →
    ArePlacesOf pool_words f (shown_places f (places ++ notifiers_place pool_words ∷ []))

-- the desk's places back its forest, and each generation that is kept shows just its own
pub record ShowsOwnPlaces (pool_words : ℕ) (h : Writer) : Type 0 where
  pub pool : h.desk.pool_words ≡ pool_words
  pub backs : BacksForest pool_words h.desk.forest h.desk.places
  pub shown : Every (λ x. ArePlacesOf pool_words x.forest x.places) h.generations.kept

abbrev pub GenerationsShowTheirPlaces : Type 0
GenerationsShowTheirPlaces = (pool_words passes : ℕ) (xs : List PureEntry) → IsLegal pool_words passes xs →
    ShowsOwnPlaces pool_words (after_entries (opening pool_words passes) xs).writer
