-- Marks beside regions, one a region.
use Rattle.std.specs.Prelude.{Bool, ◌||◌, List, [], ◌∷◌}
use Rattle.mem_base.specs.declared.map.ids.RegionId.{RegionId}
use Rattle.mem_base.specs.declared.map.forests.Node.{Node}

-- the marks, and one more beside each region that passes a test
abbrev pub marked : List Node → (RegionId → Bool) → List Bool → List Bool
marked [] test bs = bs
marked (n ∷ ns) test [] = []
marked (n ∷ ns) test (b ∷ bs) = (b || test n.id) ∷ marked ns test bs
