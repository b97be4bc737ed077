-- Where the ioeventfds of one offset and size stand among those of a region.
use Rattle.std.specs.Prelude.{ℕ, nat_lt, ◌==◌, ◌&&◌, ◌||◌, Bool}
use Rattle.mem_base.specs.declared.map.ioevents.Ioevent.{Ioevent}

-- before all those of this offset and size
abbrev pub is_before : ℕ → ℕ → Ioevent → Bool
is_before offset size e = nat_lt e.offset offset || (e.offset == offset) && nat_lt e.size size

-- after all those of this offset and size
abbrev pub is_after : ℕ → ℕ → Ioevent → Bool
is_after offset size e = nat_lt offset e.offset || (e.offset == offset) && nat_lt size e.size
