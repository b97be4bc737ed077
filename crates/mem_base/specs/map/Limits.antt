-- The limits of a machine, each the constant of its name in `src/map/limits.rt`, which says what it counts.
use Rattle.std.specs.Prelude.{ℕ}
use Rattle.mem_base.specs.declared.map.limits.TheConstants as limits

-- 32: the regions on the longest path from a region by steps to children and alias targets
abbrev pub most_depth : ℕ
most_depth = limits.MOST_DEPTH

-- 65,536: the weight of a region, which is 1 plus the weights of all that one step leads to
abbrev pub most_weight : ℕ
most_weight = limits.MOST_WEIGHT

-- 4,096: the regions that a forest has at one time
abbrev pub most_regions : ℕ
most_regions = limits.MOST_REGIONS

-- 2^32 - 2: the regions that are made in all, since an id has 32 bits and the greatest one names the notifiers
abbrev pub most_made : ℕ
most_made = limits.MOST_MADE

-- 16: the address spaces
abbrev pub most_spaces : ℕ
most_spaces = limits.MOST_SPACES

-- 4,096: the translations of one IOMMU region
abbrev pub most_entries : ℕ
most_entries = limits.MOST_ENTRIES

-- 256: the ioeventfds of one region
abbrev pub most_events : ℕ
most_events = limits.MOST_EVENTS

-- 2^62: the calls that are accepted in all
abbrev pub most_calls : ℕ
most_calls = limits.MOST_CALLS

-- 512: the registers of one device
abbrev pub most_registers : ℕ
most_registers = limits.MOST_REGISTERS

-- 64: the notifiers, which have the numbers below it
abbrev pub notifier_count : ℕ
notifier_count = limits.NOTIFIER_COUNT

-- 64: the listeners
abbrev pub most_listeners : ℕ
most_listeners = limits.MOST_LISTENERS

-- 64: the watchers of IOMMU regions' tables
abbrev pub most_watchers : ℕ
most_watchers = limits.MOST_WATCHERS

-- 64: the transactions that are open one inside the other
abbrev pub most_nested : ℕ
most_nested = limits.MOST_NESTED

-- 16: the passes, one for each virtual CPU
abbrev pub most_passes : ℕ
most_passes = limits.MOST_PASSES

-- 8: the generations that are kept, the current one among them
abbrev pub most_generations : ℕ
most_generations = limits.MOST_GENERATIONS

-- 8: the translations on the way of one address
abbrev pub most_translations : ℕ
most_translations = limits.MOST_TRANSLATIONS

-- 4,096: the bytes of a page
abbrev pub page_size : ℕ
page_size = limits.PAGE_SIZE

-- 2^29: the bytes of the largest RAM, ROM or ROM device, 512 MiB
abbrev pub most_bytes : ℕ
most_bytes = limits.MOST_BYTES

-- 8: the bytes of a word of the pool
abbrev pub word_size : ℕ
word_size = limits.WORD_SIZE

-- 2^26: the words of the largest pool, 512 MiB
abbrev pub most_words : ℕ
most_words = limits.MOST_WORDS

-- 64: the pages whose marks share a word
abbrev pub pages_per_word : ℕ
pages_per_word = limits.PAGES_PER_WORD
