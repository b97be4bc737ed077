-- The generations of the tests: number 0 is empty, and each later one shows one RAM region of 64 pages.
use Rattle.std.specs.Prelude.{ℕ, zero, suc, List, [], ◌∷◌}
use Rattle.mem_base.specs.declared.map.ids.RegionId.{RegionId}
use Rattle.mem_base.specs.declared.map.ids.SpaceId.{SpaceId}
use Rattle.mem_base.specs.declared.map.kinds.Kind.TheVariants.{Ram}
use Rattle.mem_base.specs.declared.map.calls.Call.{Call}
use Rattle.mem_base.specs.declared.map.calls.Call.TheVariants.{Region, Space}
use Rattle.mem_base.specs.declared.map.forests.Forest.{Forest}
use Rattle.mem_base.specs.declared.access.cells.Place.{Place}
use Rattle.mem_base.specs.map.Calls.{empty, after_all}
use Rattle.mem_base.specs.access.Places.{extent, place_from}

abbrev pub ram_region : RegionId
ram_region = record { 0 = 0 }

abbrev pub ram_space : SpaceId
ram_space = record { 0 = 0 }

-- RAM of 64 pages is all of space 0
abbrev pub ram_calls : List Call
ram_calls = Region Ram 262144 ∷ Space ram_space ram_region ∷ []

abbrev pub ram_forest : Forest
ram_forest = after_all empty ram_calls

-- its 32,768 words of data and 3 words of marks are the first ones of the pool
abbrev pub ram_place : Place
ram_place = place_from ram_region 0 (extent 262144 0)

abbrev pub forest_of : ℕ → Forest
forest_of zero = empty
forest_of (suc n) = ram_forest

abbrev pub places_of : ℕ → List Place
places_of zero = []
places_of (suc n) = ram_place ∷ []
