-- Worked accesses, by computing.
use Rattle.std.specs.Prelude.{◌≡◌, ℕ, zero, suc, Bool, true, false, List, [], ◌∷◌, pos, slice_index, slice_set}
use Rattle.mem_base.specs.declared.map.forests.Node.{Node}
use Rattle.mem_base.specs.declared.map.forests.Forest.{Forest}
use Rattle.mem_base.specs.declared.map.ids.RegionId.{RegionId}
use Rattle.mem_base.specs.declared.map.kinds.DeviceKind.TheVariants.{Latch, Count, Bell, Fault}
use Rattle.mem_base.specs.declared.map.kinds.Client.TheVariants as clients
use Rattle.mem_base.specs.declared.map.kinds.Kind.TheVariants.{Container, Ram, RomDevice, Io, Iommu, Alias}
use Rattle.mem_base.specs.declared.map.translations.Entry.{Entry}
use Rattle.mem_base.specs.declared.map.translations.Perm.TheVariants as perms
use Rattle.mem_base.specs.declared.access.cells.WordStep.TheVariants as word_steps
use Rattle.mem_base.specs.map.Changes.{made_region, placed}
use Rattle.mem_base.specs.access.Words.{word_after}
use Rattle.mem_base.specs.access.Cells.{cell, notifier_cell}
use Rattle.mem_base.specs.access.AccessSteps.{reading, writing, AccessStep, steps, marks, blank, result_of, bytes_read, nothing_shown, tx}
use Rattle.mem_base.specs.access.Access.{access}
use Rattle.mem_base.specs.access.Trails.{route_of}
use Rattle.machine_rows.specs.Values.{region, space, forest_of, ops, device, entry}

-- the words of one region after what is done to them, and the replies
abbrev pub played : List ℕ → List AccessStep → List ℕ × List ℕ
played ws [] = (ws, [])
played ws (steps c step x ∷ ds) = let old = slice_index ws c.word in let p = played (slice_set ws c.word (word_after step old)) ds in (p.0, old ∷ p.1)
played ws (blank n t ∷ ds) = played ws ds
played ws (marks r c page ∷ ds) = let p = played ws ds in (p.0, 0 ∷ p.1)

abbrev pub read_from : List ℕ → List AccessStep → List ℕ
read_from ws ds = bytes_read ds (played ws ds).1

-- sizes and byte order: D is region 0 in space 0, E is region 1 in space 1

abbrev pub sizes : Forest
sizes = forest_of (made_region (region 0) (Io (device Latch 2 (ops 2 4 1 1 true))) 16 ∷ made_region (region 1)
    (Io (device Latch 1 (ops 1 4 4 4 true))) 8 ∷ []) ((space 0, region 0) ∷ (space 1, region 1) ∷ [])

abbrev pub eight : List ℕ
eight = 1 ∷ 2 ∷ 3 ∷ 4 ∷ 5 ∷ 6 ∷ 7 ∷ 8 ∷ []

-- IOMMU chains: mem is space 0 at the RAM, bus is space 1 at M, dev is space 2 at N

abbrev pub translating : RegionId → List Entry → Node
translating r es = record (made_region r Iommu 65536) { entries = es }

abbrev pub chains : Forest
chains = forest_of (made_region (region 0) Ram 8192
    ∷ translating (region 1) (entry 0 (space 1) 0 perms.Both ∷ entry 0x3000 (space 0) 0 perms.Read ∷ [])
    ∷ translating (region 2) (entry 0x1000 (space 1) 0x3000 perms.Both ∷ []) ∷ [])
    ((space 0, region 0) ∷ (space 1, region 1) ∷ (space 2, region 2) ∷ [])

-- devices: each is region 0 in space 0, with one register

abbrev pub alone : Node → Forest
alone n = forest_of (n ∷ []) ((space 0, region 0) ∷ [])

abbrev pub lone : ℕ → Node
lone zero = made_region (region 0) (Io (device Count 1 (ops 1 4 1 4 false))) 8
lone (suc zero) = made_region (region 0) (Io (device Bell 1 (ops 1 4 1 4 false))) 8
lone _ = made_region (region 0) (Io (device Fault 1 (ops 1 4 1 4 false))) 8

-- a ROM device: its reads load with its mode on; its register stands after 512 data words

abbrev pub rom_device : Bool → Forest
rom_device on = alone (record (made_region (region 0) (RomDevice (device Latch 1 (ops 1 4 1 4 false))) 4096) { romd = on })

-- marks and a hole: two pages of RAM at 0 in a container, logged for VGA

abbrev pub marked : Forest
marked = forest_of (made_region (region 0) Container 65536 ∷ (record (placed (region 0) 0 (pos 0) 0 (made_region (region 1) Ram 8192)) { log = 1 })
    ∷ []) ((space 0, region 0) ∷ [])

-- ioeventfds: a latch whose register 2 has a matched one

abbrev pub evented : Forest
evented = alone (record (made_region (region 0) (Io (device Latch 1 (ops 1 4 1 4 false))) 256) {
  events =
      (record { offset = 16; size = 4; matched = true; value = 0x55; number = 7 }) ∷ [];
})

-- where routes end: two RAMs side by side; two windows on one RAM, the second read-only; two pages of an IOMMU region that
-- lead to one RAM, side by side there too; and an IOMMU region that translates nothing, with nothing after it

abbrev pub in_row : Node → Node → List Node → Forest
in_row first second others = forest_of (made_region (region 0) Container 64
    ∷ placed (region 0) 0 (pos 0) 0 first ∷ placed (region 0) 16 (pos 0) 1 second ∷ others) ((space 0, region 0) ∷ [])

abbrev pub two_memories : Forest
two_memories = in_row (made_region (region 1) Ram 16) (made_region (region 2) Ram 16) []

abbrev pub two_windows : Forest
two_windows = in_row (made_region (region 1) (Alias (region 3) 0) 16)
    (record (made_region (region 2) (Alias (region 3) 16) 16) { readonly = true }) (made_region (region 3) Ram 64 ∷ [])

abbrev pub two_pages : Forest
two_pages = forest_of (made_region (region 0) Ram 8192
    ∷ translating (region 1) (entry 0 (space 0) 0 perms.Both ∷ entry 0x1000 (space 0) 0x1000 perms.Both ∷ []) ∷ [])
    ((space 0, region 0) ∷ (space 1, region 1) ∷ [])

abbrev pub no_page : Forest
no_page = forest_of (made_region (region 0) Iommu 16 ∷ []) ((space 0, region 0) ∷ [])

pub record AccessRows : Type 0 where
  pub bytes-in-order : (played (0 ∷ 0 ∷ []) (access sizes (space 0) 0 (writing eight))).0 ≡ 0x0807060504030201 ∷ 0 ∷ []
  pub bytes-come-back : read_from (0x0807060504030201 ∷ 0 ∷ []) (access sizes (space 0) 0 (reading 8)) ≡ eight
  pub one-byte-is-invalid : access sizes (space 0) 1 (reading 1) ≡ blank 1 (tx false true) ∷ []
  pub big-callback : (played (0 ∷ []) (access sizes (space 1) 0 (writing (0x11 ∷ 0x22 ∷ 0x33 ∷ 0x44 ∷ [])))).0 ≡ 0x11223344 ∷ []
  pub wide-callback : read_from (0x11223344 ∷ []) (access sizes (space 1) 0 (reading 1)) ≡ 0x11 ∷ []
  pub chain-reads : read_from (0 ∷ 0 ∷ 0xa4a3a2a1 ∷ []) (access chains (space 2) 0x1010 (reading 4)) ≡ 0xa1 ∷ 0xa2 ∷ 0xa3 ∷ 0xa4 ∷ []
  pub chain-is-ok : result_of (access chains (space 2) 0x1010 (reading 4)) ≡ tx false false
  pub chain-refuses-writes : access chains (space 2) 0x1010 (writing (0xff ∷ [])) ≡ blank 0 (tx false true) ∷ []
  pub ninth-translation : access chains (space 1) 0 (reading 1) ≡ blank 1 (tx false true) ∷ []
  pub uses-two : (route_of chains false (space 2) 0x1ffe 4).used ≡ entry 0x1000 (space 1) 0x3000 perms.Both ∷ entry 0x3000 (space 0) 0 perms.Read ∷ []
  pub ends-at-the-page : (route_of chains false (space 2) 0x1ffe 4).length ≡ 2
  pub counter-counts : played (0 ∷ []) (access (alone (lone 0)) (space 0) 0 (reading 1)) ≡ (1 ∷ [], 0 ∷ [])
  pub bell-sets : (played (5 ∷ []) (access (alone (lone 1)) (space 0) 0 (writing (2 ∷ [])))).0 ≡ 7 ∷ []
  pub bell-clears : played (7 ∷ []) (access (alone (lone 1)) (space 0) 0 (reading 1)) ≡ (0 ∷ [], 7 ∷ [])
  pub fault-fails : access (alone (lone 2)) (space 0) 0 (reading 1) ≡ blank 1 (tx true false) ∷ []
  pub rom-device-loads : access (rom_device true) (space 0) 0 (reading 2) ≡ steps (cell (region 0) 0) word_steps.Load
      (record { first = 0; size = 2; big = false; count = 2 }) ∷ []
  pub rom-device-reads : access (rom_device false) (space 0) 0 (reading 2) ≡ steps (cell (region 0) 512) word_steps.Load
      (record { first = 0; size = 2; big = false; count = 2 }) ∷ []
  pub rom-device-writes : access (rom_device true) (space 0) 0 (writing (0x11 ∷ 0x22 ∷ [])) ≡ steps (cell (region 0) 512)
      (word_steps.Replace 0 2 0x2211) nothing_shown ∷ []
  pub marks-two-pages : access marked (space 0) 0xffe (writing (1 ∷ 2 ∷ 3 ∷ 4 ∷ []))
      ≡ steps (cell (region 1) 511) (word_steps.Replace 6 2 0x0201) nothing_shown ∷ steps (cell (region 1) 512) (word_steps.Replace 0 2 0x0403) nothing_shown
      ∷ marks (region 1) clients.Vga 0 ∷ marks (region 1) clients.Vga 1 ∷ []
  pub ends-in-a-hole : result_of (access marked (space 0) 0x1ffd (reading 6)) ≡ tx false true
  pub zeros-in-a-hole : bytes_read (access marked (space 0) 0x1ffd (reading 6)) (0xccbbaa0000000000 ∷ []) ≡ 0xaa ∷ 0xbb ∷ 0xcc ∷ 0 ∷ 0 ∷ 0 ∷ []
  pub past-the-end : access marked (space 0) 0xffffffffffffffff (reading 2) ≡ blank 2 (tx false true) ∷ []
  pub notifier-takes-it : access evented (space 0) 16 (writing (0x55 ∷ 0 ∷ 0 ∷ 0 ∷ [])) ≡ steps (notifier_cell 7) (word_steps.Or 1) nothing_shown ∷ []
  pub another-value-is-written : access evented (space 0) 16 (writing (0x66 ∷ 0 ∷ 0 ∷ 0 ∷ [])) ≡ steps (cell (region 0) 0)
      (word_steps.Replace 0 4 0x66) nothing_shown ∷ []
  pub ends-with-the-leaf : (route_of two_memories false (space 0) 12 8).length ≡ 4
  pub ends-with-the-attributes : (route_of two_windows false (space 0) 12 8).length ≡ 4
  pub ends-with-the-page : (route_of two_pages false (space 1) 0xffc 8).length ≡ 4
  pub ends-with-the-search : (route_of no_page false (space 0) 14 4).length ≡ 2
