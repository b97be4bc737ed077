-- Who asks which pages were written, and their bits in a logging mask.
-- QEMU's manual, "The memory API", and `memory_region_set_log` of QEMU's core.
use Rattle.std.specs.Prelude.{ℕ, ◌-◌, Bool, if◌then◌else◌, bit_or, bit_and}
use Rattle.mem_base.specs.declared.map.kinds.Client.{Client}
use Rattle.mem_base.specs.declared.map.kinds.Client.TheVariants.{Vga, Code, Migration}

-- a client's bit in a logging mask
abbrev pub bit_of : Client → ℕ
bit_of Vga = 1
bit_of Code = 2
bit_of Migration = 4

-- the mask with one client's bit on or off
abbrev pub logged : Client → Bool → ℕ → ℕ
logged client on mask = if on then bit_or mask (bit_of client) else mask - bit_and mask (bit_of client)
