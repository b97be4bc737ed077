-- A pool as its users see it, and what always holds of it.
use Rattle.std.specs.Prelude.{◌≡◌, ℕ, ◌+◌, ◌^◌, ◌<◌, ◌≤◌, true, List, vec_len, vec_capacity}
use Rattle.mem_base.specs.declared.access.cells.Place.{Place}
use Rattle.mem_base.specs.lists.Every.{Every, EveryPair}
use Rattle.mem_base.specs.access.EditionPlaces.{ArePlacesApart}
use Rattle.mem_base.specs.access.Places.{extent, place_from, past, is_free}
use Rattle.backing_pool.specs.Holes.{AreHoles}
use Rattle.backing_pool.specs.declared.pool.Pool.TheInside.{Inside}

-- the number of words, and the places in the order of making
pub record Backing : Type 0 where
  pub pool_words : ℕ
  pub places : List Place

-- the place has words, as many as its bytes and registers take, and they lie in the pool
pub record IsBacked (pool_words : ℕ) (p : Place) : Type 0 where
  pub fits : p ≡ place_from p.region p.start (extent p.bytes p.regs)
  pub nonempty : 0 < p.words
  pub within : past p ≤ pool_words

-- so is each place, each of a region of its own, and no two meet
pub record AreBacked (b : Backing) : Type 0 where
  pub each : Every (IsBacked b.pool_words) b.places
  pub apart : EveryPair ArePlacesApart b.places

-- the numbers of the regions ascend
abbrev pub RegionsAscend : List Place → Type 0
RegionsAscend places = EveryPair (λ p q. p.region.0 < q.region.0) places

abbrev pub backing_of : Inside → Backing
backing_of p = record { pool_words = p.words; places = p.places.items }

-- what is kept beside the places: whether they stand by ascending region, the holes, and room for those that the
-- places leave when they are given back
pub record IsPool (p : Inside) : Type 0 where
  pub fits : p.words < 2 ^ 64
  pub backed : AreBacked (backing_of p)
  pub ascends : p.ascends ≡ true → RegionsAscend p.places.items
  pub holes : AreHoles (is_free p.places.items) 0 p.words p.holes.items
  pub room : vec_len p.holes + vec_len p.places ≤ vec_capacity p.holes
