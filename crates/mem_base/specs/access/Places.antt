-- How many words a region has, what they are, and where they lie in the pool.
-- This project's own rule: all backing is one pool of words of 8 bytes. A region has its data first, then its
-- device's registers, then for each client one bit a page; QEMU's core has RAM blocks and a dirty bitmap for each
-- client in their place.
use Rattle.std.specs.Prelude.{ℕ, ◌+◌, ◌-◌, ◌*◌, ◌/◌, ◌%◌, ◌^◌, Bool, not, ◌==◌, ◌&&◌, nat_le, nat_lt, List, filter, Option, option_map, find}
use Rattle.std.specs.List.{list_any}
use Rattle.mem_base.specs.lists.Booleans.{bool_eq}
use Rattle.mem_base.specs.declared.map.ids.RegionId.{RegionId}
use Rattle.mem_base.specs.declared.map.kinds.Kind.{Kind}
use Rattle.mem_base.specs.declared.map.kinds.Kind.TheVariants.{Ram, Rom, RomDevice, Io}
use Rattle.mem_base.specs.declared.map.kinds.Client.{Client}
use Rattle.mem_base.specs.declared.map.kinds.Client.TheVariants.{Vga, Code, Migration}
use Rattle.mem_base.specs.declared.access.cells.Place.{Place}
use Rattle.mem_base.specs.map.Limits.{page_size, word_size, notifier_count, pages_per_word}
use Rattle.mem_base.specs.access.PlacesByRegion.{notifiers}
use Rattle.mem_base.specs.lists.Runs.{Run, runs}

-- the bytes of data and the registers of a region, by its kind and size
pub record Extent : Type 0 where
  pub bytes : ℕ
  pub regs : ℕ

-- such an extent, by its bytes and its registers
abbrev pub extent : ℕ → ℕ → Extent
extent bytes regs = record { bytes = bytes; regs = regs }

-- a region's bytes and registers, by its kind and size: RAM and ROM have bytes, a ROM device has both, a device has registers
abbrev pub extent_of : Kind → ℕ → Extent
extent_of Ram size = extent size 0
extent_of Rom size = extent size 0
extent_of (RomDevice device) size = extent size device.regs
extent_of (Io device) size = extent 0 device.regs
extent_of _ size = extent 0 0

-- the words of data
abbrev pub data_words : ℕ → ℕ
data_words bytes = bytes / word_size

-- the mark words of one client: a bit a page
abbrev pub mark_words : ℕ → ℕ
mark_words bytes = (bytes / page_size + (pages_per_word - 1)) / pages_per_word

-- the words of a region: data, registers, and the marks of three clients
abbrev pub words_of : Extent → ℕ
words_of x = data_words x.bytes + x.regs + 3 * mark_words x.bytes

-- the place of a region that begins at a word of the pool
abbrev pub place_from : RegionId → ℕ → Extent → Place
place_from region start x = record { region = region; start = start; words = words_of x; bytes = x.bytes; regs = x.regs }

-- the notifiers' words lie after the pool
abbrev pub notifiers_place : ℕ → Place
notifiers_place pool_words = record { region = notifiers; start = pool_words; words = notifier_count; bytes = 0; regs = notifier_count }

-- it is the region that stands for the notifiers
abbrev pub is_notifiers : RegionId → Bool
is_notifiers region = region.0 == notifiers.0

-- the word after the last one of a place
abbrev pub past : Place → ℕ
past p = p.start + p.words

-- the pages of a place
abbrev pub pages_in : Place → ℕ
pages_in p = p.bytes / page_size

-- the word is one of the data or of the registers, so a virtual CPU may reach it
abbrev pub is_data_or_register : Place → ℕ → Bool
is_data_or_register p word = nat_lt word (data_words p.bytes + p.regs)

-- the row of a client among the mark words
abbrev pub number_of_client : Client → ℕ
number_of_client Vga = 0
number_of_client Code = 1
number_of_client Migration = 2

-- a mark word of a client
abbrev pub mark_word : Place → Client → ℕ → ℕ
mark_word p client index = data_words p.bytes + p.regs + mark_words p.bytes * number_of_client client + index

-- the mark word of a page, and its bit there
abbrev pub word_of_page : Place → Client → ℕ → ℕ
word_of_page p client page = mark_word p client (page / pages_per_word)

-- the bit of a page in its mark word
abbrev pub bit_of_page : ℕ → ℕ
bit_of_page page = 2 ^ (page % pages_per_word)

-- the word is in no place
abbrev pub is_free : List Place → ℕ → Bool
is_free places word = not (list_any (λ p. nat_le p.start word && nat_lt word (past p)) places)

-- a word and the next are both free or both taken
abbrev pub is_as_free : List Place → ℕ → Bool
is_as_free places word = bool_eq (is_free places word) (is_free places (word + 1))

-- the holes of a pool: its longest runs of words that are in no place
unfoldable pub holes : ℕ → List Place → List Run
holes pool_words places = filter (λ h. is_free places h.start) (runs (is_as_free places) 0 pool_words)

-- where a region of `words` words goes: the first ones of the hole of least start that has at least as many
abbrev pub first_fit : ℕ → List Place → ℕ → Option ℕ
first_fit pool_words places words = option_map (λ h. h.start) (find (λ h. nat_le words h.length) (holes pool_words places))
