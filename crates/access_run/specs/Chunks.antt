-- The steps of the first bytes of an access.
use Rattle.std.specs.Prelude.{ℕ, List, flat_map}
use Rattle.mem_base.specs.declared.map.ids.SpaceId.{SpaceId}
use Rattle.mem_base.specs.declared.map.forests.Forest.{Forest}
use Rattle.mem_base.specs.access.Trails.{chunks}
use Rattle.mem_base.specs.access.AccessSteps.{Transfer, is_write, AccessStep}
use Rattle.mem_base.specs.access.Access.{in_chunk}

-- what an access does with its first `bytes` bytes, by the chunks of these alone
abbrev pub steps_below : Forest → SpaceId → ℕ → Transfer → ℕ → List AccessStep
steps_below f s a transfer bytes = flat_map (in_chunk f s a transfer) (chunks f (is_write transfer) s a bytes)
