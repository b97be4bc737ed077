-- What a generation is seen as, and what holds of it.
-- This project's own: QEMU's core publishes a flat view for each space; here one generation has the views of all spaces, all
-- translations, all ioeventfds, and the places of the regions that it names.
use Rattle.std.specs.Prelude.{◌≡◌, ℕ, ◌<◌, Bool, nat_lt, List, map, length}
use Rattle.std.specs.List.{list_any}
use Rattle.mem_base.specs.declared.map.ids.SpaceId.{SpaceId}
use Rattle.mem_base.specs.declared.map.forests.Forest.{Forest}
use Rattle.mem_base.specs.declared.views.flat.FlatRange.{FlatRange}
use Rattle.mem_base.specs.declared.access.cells.Place.{Place}
use Rattle.mem_base.specs.lists.Every.{EveryPair}
use Rattle.mem_base.specs.map.Kinds.{is_iommu}
use Rattle.mem_base.specs.views.Flattened.{view_of}
use Rattle.mem_base.specs.access.EditionPlaces.{IsEdition}

-- how many were published before it, the forest that it publishes, and where the regions that it names are backed
pub record Published : Type 0 where
  pub number : ℕ
  pub forest : Forest
  pub places : List Place

abbrev pub published : ℕ → Forest → List Place → Published
published number forest places = record { number = number; forest = forest; places = places }

-- each space of a forest with its view, in order of making
abbrev pub views_of : Forest → List (SpaceId × List FlatRange)
views_of f = map (λ p. (p.0, view_of f p.0)) f.spaces

-- each place is of a region of a lesser id than those after it; the notifiers' comes last
abbrev pub AscendByRegion : List Place → Type 0
AscendByRegion places = EveryPair (λ p q. p.region.0 < q.region.0) places

-- a generation of this forest has just the views of its spaces, and just the places of what it names, in order, and knows
-- whether there is an IOMMU region, and whether one has an ioeventfd
pub record IsGeneration (f : Forest) (shown : List (SpaceId × List FlatRange)) (places : List Place) (has_iommu has_events : Bool) : Type 0 where
  pub edition : IsEdition f places
  pub views : shown ≡ views_of f
  pub ascending : AscendByRegion places
  pub iommu : has_iommu ≡ list_any (λ n. is_iommu n.kind) f.nodes
  pub events : has_events ≡ list_any (λ n. nat_lt 0 (length n.events)) f.nodes
