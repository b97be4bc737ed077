-- The search in one child.
use Rattle.std.specs.Prelude.{ℕ, ◌-◌, Bool, ◌&&◌, nat_le, if◌then◌else◌, Option, None}
use Rattle.mem_base.specs.map.Search.{Found, Search}
use Rattle.region_slots.specs.declared.children.Child.{Child}

-- what is found in a child at an offset in its container: nothing where the child lies above it
abbrev pub tried : Search → Child → ℕ → Option Found
tried below c a = if nat_le c.offset a then below c.id (a - c.offset) else None

-- a child holds an offset of its container
abbrev pub holds : Child → ℕ → Bool
holds c a = nat_le c.offset a && nat_le (a - c.offset) c.last
