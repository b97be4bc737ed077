-- The regions that are reached in each space.
use Rattle.std.specs.Prelude.{List, [], map, Option, Some, None}
use Rattle.mem_base.specs.declared.map.ids.RegionId.{RegionId}
use Rattle.mem_base.specs.declared.map.ids.SpaceId.{SpaceId}
use Rattle.mem_base.specs.declared.map.forests.Forest.{Forest}
use Rattle.mem_base.specs.map.Touched.{reached}

-- each space of a forest with the regions that are reached in it
abbrev pub reached_in : Forest → List (SpaceId × List RegionId)
reached_in f = map (λ p. (p.0, reached f p.0)) f.spaces

-- the regions of a space that was found, none where none was
abbrev pub regions_at : Option (SpaceId × List RegionId) → List RegionId
regions_at None = []
regions_at (Some p) = p.1
