-- Dirty pages: which a write marks and for whom, and which a mark word tells.
-- QEMU's core, `cpu_physical_memory_set_dirty_range` and `cpu_physical_memory_snapshot_and_clear_dirty`: one bitmap
-- for each of the clients VGA, code and migration, a bit a page.
use Rattle.std.specs.Prelude.{ℕ, ◌+◌, ◌/◌, ◌%◌, ◌^◌, Bool, ◌==◌, not, bit_and, List, [], ◌∷◌, ◌++◌, map, flat_map, filter}
use Rattle.std.specs.List.{range_with_len}
use Rattle.mem_base.specs.declared.map.kinds.Client.{Client}
use Rattle.mem_base.specs.declared.map.kinds.Client.TheVariants.{Vga, Code, Migration}
use Rattle.mem_base.specs.map.Limits.{page_size, pages_per_word}
use Rattle.mem_base.specs.map.Clients.{bit_of}
use Rattle.mem_base.specs.lists.Runs.{touched}

-- the clients of a logging mask, ascending
abbrev pub clients_of : ℕ → List Client
clients_of log = filter (λ c. not (bit_and log (bit_of c) == 0)) (Vga ∷ Code ∷ Migration ∷ [])

-- what a write marks: pages ascending, and the clients of a page ascending
abbrev pub marks_of : ℕ → ℕ → ℕ → List (ℕ × Client)
marks_of log offset bytes =
    flat_map (λ p. map (λ c. (p.start / page_size, c)) (clients_of log)) (touched page_size offset bytes)

-- the bit of a mark word is set
abbrev pub is_marked : ℕ → ℕ → Bool
is_marked bits bit = bits / (2 ^ bit) % 2 == 1

-- the pages that a mark word tells, ascending; its bit 0 is the page `base`
abbrev pub pages_of : ℕ → ℕ → List ℕ
pages_of base bits = map (λ bit. base + bit) (filter (is_marked bits) (range_with_len 0 pages_per_word))

-- the pages that mark words in a row tell
abbrev pub pages_from : ℕ → List ℕ → List ℕ
pages_from base [] = []
pages_from base (bits ∷ words) = pages_of base bits ++ pages_from (base + pages_per_word) words
