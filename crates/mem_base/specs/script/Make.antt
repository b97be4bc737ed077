-- The script that `make` writes and `demo` runs, by the words that a generator of random numbers gives.
-- It makes regions of four kinds in one transaction, and then reads and writes them, with a move between now and then.
use Rattle.std.specs.Prelude.{ℕ, zero, suc, ◌+◌, ◌*◌, ◌%◌, ◌==◌, ◌&&◌, false, if◌then◌else◌, List, [], ◌∷◌, ◌++◌, Option, Some, None, codes}
use Rattle.std.specs.Prelude.{decimal, ℤ, pos, ◌-ℤ◌}
use Rattle.mem_base.specs.map.PassIds.{PassId}
use Rattle.mem_base.specs.declared.map.kinds.Device.{Device}
use Rattle.mem_base.specs.declared.map.kinds.DeviceKind.TheVariants.{Latch}
use Rattle.mem_base.specs.declared.script.changes.MapChange.TheVariants as changes
use Rattle.mem_base.specs.declared.script.commands.Command.{Command}
use Rattle.mem_base.specs.declared.script.commands.Command.TheVariants as commands
use Rattle.mem_base.specs.declared.script.commands.PassCommand.TheVariants as pass_commands
use Rattle.mem_base.specs.declared.script.commands.RegionKind.TheVariants as region_kinds
use Rattle.mem_base.specs.script.Spelling.{Text}
use Rattle.mem_base.specs.script.RegionForms.{device_with}

-- what a generator gives for its state, with the state after it
abbrev pub Drawn : Type 0 → Type 0 → Type 0
Drawn G X = G → X × G

-- a generator: the next word of 32 bits
abbrev pub Generator : Type 0 → Type 0
Generator G = Drawn G ℕ

infixl 10 ◌>>=◌
abbrev pub ◌>>=◌ : {G X Y : Type 0} → Drawn G X → (X → Drawn G Y) → Drawn G Y
drawn >>= rest = λ g. let x = drawn g in rest x.0 x.1

-- what draws no word
abbrev pub give : {G X : Type 0} → X → Drawn G X
give x g = (x, g)

-- a number below `n`: the next word modulo n
abbrev pub draw : {G : Type 0} → Generator G → ℕ → Drawn G ℕ
draw next n = do
  word ← next
  give (word % n)

-- a multiple of 0x1000, one of `n` from 0 on
abbrev pub draw_page : {G : Type 0} → Generator G → ℕ → Drawn G ℕ
draw_page next n = do
  page ← draw next n
  give (page * 0x1000)

-- Regions

-- the name of the root container
abbrev pub root : Text
root = codes "sys"

-- the name of the one space
abbrev pub space : Text
space = codes "s"

-- the name of region i
abbrev pub region_name : ℕ → Text
region_name i = codes "r" ++ decimal i

-- a latch with one register, for accesses of 1 to 4 bytes
abbrev pub latch : Device
latch = device_with Latch 1 (1, 4) (1, 4) false false false

-- a kind from 0 to 3: RAM, a device, an alias of an earlier region, or a container; the first region is no alias
abbrev pub draw_kind : {G : Type 0} → Generator G → ℕ → Drawn G ℕ
draw_kind next i = do
  k ← draw next 4
  give (if (i == 0) && (k == 2) then 0 else k)

-- the alias of a region below i, from an offset of at most three pages on
abbrev pub draw_alias : {G : Type 0} → Generator G → ℕ → Drawn G Command
draw_alias next i = do
  target ← draw next i
  offset ← draw_page next 4
  give (commands.Region (region_name i) 0x1000 (region_kinds.Alias (region_name target) offset))

-- the line that makes region i of a kind
abbrev pub draw_region : {G : Type 0} → Generator G → ℕ → ℕ → Drawn G Command
draw_region next i k =
    if k == 0 then give (commands.Region (region_name i) 0x1000 region_kinds.Ram)
    else if k == 1 then give (commands.Region (region_name i) 0x1000 (region_kinds.Io latch))
    else if k == 2 then draw_alias next i
    else give (commands.Region (region_name i) 0x4000 region_kinds.Container)

-- a line that puts region i into a container
abbrev pub add_line : Text → ℕ → ℕ → ℤ → Command
add_line parent offset i priority = commands.Change (changes.Add parent offset (region_name i) priority)

-- into the latest container before it where 0 was drawn and there is one, else into the root
abbrev pub added : Option ℕ → ℕ → ℕ → ℕ → ℤ → Command
added (Some container) i offset zero priority = add_line (region_name container) (offset % 0x4000) i priority
added _ i offset chosen priority = add_line root offset i priority

-- the place of region i, with a priority from -2 to 2
abbrev pub draw_place : {G : Type 0} → Generator G → ℕ → Option ℕ → Drawn G Command
draw_place next i latest = do
  offset ← draw_page next 4096
  chosen ← draw next 3
  priority ← draw next 5
  give (added latest i offset chosen (pos priority -ℤ pos 2))

-- the latest container, once region i of a kind is made
abbrev pub latest_after : Option ℕ → ℕ → ℕ → Option ℕ
latest_after latest i k = if k == 3 then Some i else latest

-- the lines of `count` regions from region i on; the latest container before them is given
abbrev pub draw_regions : {G : Type 0} → Generator G → ℕ → ℕ → Option ℕ → Drawn G (List Command)
draw_regions next zero i latest = give []
draw_regions next (suc count) i latest = do
  k ← draw_kind next i
  region ← draw_region next i k
  place ← draw_place next i latest
  rest ← draw_regions next count (i + 1) (latest_after latest i k)
  give (region ∷ place ∷ rest)

-- Accesses

-- each hundredth access comes after a move
abbrev pub draw_move : {G : Type 0} → Generator G → Drawn G (List Command)
draw_move next = do
  region ← draw next 2000
  offset ← draw_page next 4096
  give (commands.Change (changes.Move (region_name region) offset) ∷ [])

-- the move before access t, where there is one
abbrev pub draw_move_at : {G : Type 0} → Generator G → ℕ → Drawn G (List Command)
draw_move_at next t = if t % 100 == 99 then draw_move next else give []

-- a number of bytes
abbrev pub draw_bytes : {G : Type 0} → Generator G → ℕ → Drawn G (List ℕ)
draw_bytes next zero = give []
draw_bytes next (suc n) = do
  byte ← draw next 256
  rest ← draw_bytes next n
  give (byte ∷ rest)

-- a write of a number of bytes by a pass
abbrev pub draw_write : {G : Type 0} → Generator G → PassId → ℕ → ℕ → Drawn G Command
draw_write next pass addr len = do
  bytes ← draw_bytes next len
  give (commands.Pass pass (pass_commands.Write space addr bytes))

-- a read where the way is 0, else a write
abbrev pub draw_way : {G : Type 0} → Generator G → ℕ → PassId → ℕ → ℕ → Drawn G Command
draw_way next way pass addr len =
    if way == 0 then give (commands.Pass pass (pass_commands.Read space addr len)) else draw_write next pass addr len

-- a read or a write of 1 to 8 bytes by one of 16 passes
abbrev pub draw_access : {G : Type 0} → Generator G → Drawn G Command
draw_access next = do
  pass ← draw next 16
  way ← draw next 2
  page ← draw_page next 4096
  offset ← draw next 4096
  len ← draw next 8
  draw_way next way (record { 0 = pass }) (page + offset) (1 + len)

-- the lines of `count` accesses from access t on
abbrev pub draw_accesses : {G : Type 0} → Generator G → ℕ → ℕ → Drawn G (List Command)
draw_accesses next zero t = give []
draw_accesses next (suc count) t = do
  move ← draw_move_at next t
  access ← draw_access next
  rest ← draw_accesses next count (t + 1)
  give (move ++ access ∷ rest)

-- Scripts

-- the whole script, with the lines of regions and the lines of accesses
abbrev pub made_of : List Command → List Command → List Command
made_of regions accesses =
    commands.Machine 0x1000000 ∷ commands.Region root 0x40000000 region_kinds.Container ∷ commands.Begin ∷ commands.Space space root
    ∷ regions ++ commands.Commit ∷ accesses ++ commands.Show space ∷ []

-- the commands of the script that a generator gives
abbrev pub made : {G : Type 0} → Generator G → Drawn G (List Command)
made next = do
  regions ← draw_regions next 2000 0 None
  accesses ← draw_accesses next 20000 0
  give (made_of regions accesses)
