-- How many probes of atlases a route takes.
use Rattle.std.specs.Prelude.{ℕ, ◌+◌, ◌*◌, ◌^◌, ◌≤◌, length}
use Rattle.mem_base.specs.declared.map.ids.SpaceId.{SpaceId}
use Rattle.mem_base.specs.declared.map.forests.Forest.{Forest}
use Rattle.mem_base.specs.views.Flattened.{view_of}

-- one look-up in any view of the forest takes at most k probes: 16 ^ k is at least twice its ranges and one
abbrev pub IsBoundOfAll : Forest → ℕ → Type 0
IsBoundOfAll f k = (s : SpaceId) → 2 * length (view_of f s) + 1 ≤ 16 ^ k
