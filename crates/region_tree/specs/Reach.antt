-- Regions picked by marks beside them.
use Rattle.std.specs.Prelude.{Bool, if◌then◌else◌, List, [], ◌∷◌}
use Rattle.mem_base.specs.declared.map.ids.RegionId.{RegionId}
use Rattle.mem_base.specs.declared.map.forests.Node.{Node}

-- the ids of the regions that have a mark beside them
abbrev pub picked : List Node → List Bool → List RegionId
picked [] bs = []
picked (n ∷ ns) [] = []
picked (n ∷ ns) (b ∷ bs) = if b then n.id ∷ picked ns bs else picked ns bs
