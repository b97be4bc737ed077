-- The world of the pure machine that the running machine shows at rest.
-- This project's own rule: a turn alone, or an access alone, does in it what the pure machine does.
use Rattle.mem_base.specs.access.PlaceCells.{blocks_at}
use Rattle.mem_base.specs.machine.Desk.{places_of}
use Rattle.mem_base.specs.machine.Reaps.{Writer}
use Rattle.mem_base.specs.machine.World.{World, world}
use Rattle.mem_base.specs.machine.SharedHistory.{Shared}

-- the writer's part, the passes, and the shared words as the cells of the desk's places
abbrev pub world_shown : Writer → Shared → World
world_shown h s = world h s.passes (blocks_at s.words (places_of h.desk))
