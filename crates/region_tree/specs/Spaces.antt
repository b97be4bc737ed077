-- The least of some spaces, found one after another.
use Rattle.std.specs.Prelude.{Option, Some, None}
use Rattle.mem_base.specs.declared.map.ids.SpaceId.{SpaceId}
use Rattle.mem_base.specs.map.Refusals.{lesser_space}

-- the lesser of two spaces that there may be
abbrev pub lesser_of : Option SpaceId → Option SpaceId → Option SpaceId
lesser_of None t = t
lesser_of (Some s) t = Some (lesser_space s t)
