-- Mapped windows: which memory one lies on directly, how long it is, and what its opening, its parts and its closing do.
-- QEMU's core, `memory_access_is_direct`, `address_space_map` and `address_space_unmap` of physmem.c. That a direct window ends where the
-- first chunk of the access ends, and that a window has at most one bounce, are this project's own rules.
use Rattle.std.specs.Prelude.{◌≡◌, ℕ, ◌+◌, ◌-◌, ◌<◌, ◌&&◌, ◌||◌, ◌==◌, not, Bool, true, false, if◌then◌else◌, min, List, [], ◌++◌, length, take, drop}
use Rattle.std.specs.Prelude.{Option, Some, None}
use Rattle.mem_base.specs.declared.map.ids.SpaceId.{SpaceId}
use Rattle.mem_base.specs.declared.map.forests.Node.{Node}
use Rattle.mem_base.specs.declared.map.forests.Forest.{Forest}
use Rattle.mem_base.specs.declared.map.spots.Attrs.{Attrs}
use Rattle.mem_base.specs.declared.map.kinds.Kind.{Kind}
use Rattle.mem_base.specs.declared.map.kinds.Kind.TheVariants.{Ram, Rom, RomDevice}
use Rattle.mem_base.specs.declared.access.accesses.Target.{Target}
use Rattle.mem_base.specs.declared.access.accesses.Target.TheVariants.{Leaf, Unassigned}
use Rattle.mem_base.specs.declared.access.accesses.TxResult.{TxResult}
use Rattle.mem_base.specs.declared.access.accesses.WindowStart.{WindowStart}
use Rattle.mem_base.specs.map.Region.{node_of}
use Rattle.mem_base.specs.access.Trails.{trail_of, chunks, first_length}
use Rattle.mem_base.specs.access.AccessSteps.{Transfer, reading, writing, AccessStep, result_of, tx}
use Rattle.mem_base.specs.access.MemoryAccess.{on_words, marked}
use Rattle.mem_base.specs.access.Access.{access}

-- where a window begins, and whether it is for writes
abbrev pub window_start : SpaceId → ℕ → Bool → WindowStart
window_start space addr write = record { space = space; addr = addr; write = write }

-- what is read directly is RAM, ROM, and a ROM device with its mode on; what is written directly is RAM that is not read-only. Host
-- memory is neither, since the machine has none of its bytes
abbrev pub is_direct_kind : Kind → Bool → Attrs → Bool
is_direct_kind Ram write attrs = not (write && attrs.readonly)
is_direct_kind Rom write attrs = not write
is_direct_kind (RomDevice device) write attrs = attrs.romd && not write
is_direct_kind _ write attrs = false

-- a region is memory that the window may point into: none that is not there
abbrev pub is_direct_node : Option Node → Bool → Attrs → Bool
is_direct_node None write attrs = false
is_direct_node (Some n) write attrs = is_direct_kind n.kind write attrs

-- a route ends in such memory
abbrev pub is_direct_target : Forest → Bool → Target → Bool
is_direct_target f write Unassigned = false
is_direct_target f write (Leaf spot) = is_direct_node (node_of f.nodes spot.leaf) write spot.attrs

-- where the window's first byte leads: the target of the first chunk
abbrev pub target_at : Forest → WindowStart → Target
target_at f s = (trail_of f s.write s.space s.addr).target

-- the window is direct
abbrev pub is_direct : Forest → WindowStart → Bool
is_direct f s = is_direct_target f s.write (target_at f s)

-- how many of the `len` addresses from its first one on are in the first chunk
abbrev pub chunk_length : Forest → WindowStart → ℕ → ℕ
chunk_length f s len = first_length (chunks f s.write s.space s.addr len)

-- how long the window is: a direct one has the first chunk, another what its bounce has room for
abbrev pub window_length : Forest → WindowStart → ℕ → ℕ → ℕ
window_length f s len room = if is_direct f s then chunk_length f s len else min len room

-- a get or a put of a part of a direct window, from the byte `at` of it on: one step for each word that it touches, and no marks
abbrev pub part_steps : Target → ℕ → Transfer → List AccessStep
part_steps (Leaf spot) at transfer = on_words spot.leaf (spot.offset + at) transfer
part_steps Unassigned at transfer = []

-- the marks of the first `used` bytes of a direct window
abbrev pub mark_steps : Target → ℕ → List AccessStep
mark_steps (Leaf spot) used = marked spot.leaf spot.attrs.log spot.offset used
mark_steps Unassigned used = []

-- opening fills the bounce of a window that is read and not direct, and does nothing else
abbrev pub opening_steps : Forest → WindowStart → Bool → ℕ → List AccessStep
opening_steps f s direct len = if direct || s.write then [] else access f s.space s.addr (reading len)

-- closing a window that is written marks the pages of its first `used` bytes where it is direct, and else writes the first `used` of the
-- bytes that its bounce holds; where none is used it does nothing
abbrev pub flush_steps : Forest → WindowStart → ℕ → List ℕ → List AccessStep
flush_steps f s used held = if used == 0 then [] else access f s.space s.addr (writing (take used held))

-- what closing a window does for a write: pages of memory are marked, or the held bytes are written
abbrev pub closing_steps : Forest → WindowStart → Bool → ℕ → List ℕ → List AccessStep
closing_steps f s direct used held =
    if s.write then (if direct then mark_steps (target_at f s) used else flush_steps f s used held) else []

-- how a window ends: a direct one always well, another as its filling did, or as the write at its end does
abbrev pub closing_result : Forest → WindowStart → Bool → TxResult → ℕ → List ℕ → TxResult
closing_result f s direct filling used held =
    if direct then tx false false
    else (if s.write then result_of (flush_steps f s used held) else filling)

-- where an access may be cut, so that windows one after another make it up

-- a read is the read of its first chunk, and then the read of what is left
abbrev pub ReadIsCut : Type 0
ReadIsCut =
    (f : Forest) (space : SpaceId) (addr n c : ℕ) → 0 < n → c ≡ chunk_length f (window_start space addr false) n
    → access f space addr (reading n) ≡ access f space addr (reading c) ++ access f space (addr + c) (reading (n - c))

-- and so is a write
abbrev pub WriteIsCut : Type 0
WriteIsCut =
    (f : Forest) (space : SpaceId) (addr c : ℕ) (bytes : List ℕ) → 0 < length bytes → c ≡ chunk_length f (window_start space addr true) (length bytes)
    → access f space addr (writing bytes) ≡ access f space addr (writing (take c bytes)) ++ access f space (addr + c) (writing (drop c bytes))
