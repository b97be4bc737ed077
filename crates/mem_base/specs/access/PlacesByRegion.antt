-- The place of a region among places, and who owns the words of the notifiers.
use Rattle.std.specs.Prelude.{◌==◌, ◌-◌, ◌^◌, List, Option, find}
use Rattle.mem_base.specs.declared.map.ids.RegionId.{RegionId}
use Rattle.mem_base.specs.declared.access.cells.Place.{Place}

-- the owner of the notifiers' words: no region ever has this id
abbrev pub notifiers : RegionId
notifiers = record { 0 = 2 ^ 32 - 1 }

-- the place of a region in a list of places
abbrev pub place_in : List Place → RegionId → Option Place
place_in places r = find (λ p. p.region.0 == r.0) places
