-- An access to RAM, to ROM, or to a ROM device that is read directly: one atomic step for each word that it touches,
-- and after a write the marks of the pages.
-- QEMU's core, `flatview_read_continue` and `flatview_write_continue`, and `invalidate_and_set_dirty` for the marks.
-- That memory is read and written word by word, each by one atomic step, is this project's own rule.
use Rattle.std.specs.Prelude.{ℕ, ◌-◌, ◌/◌, ◌%◌, false, if◌then◌else◌, List, ◌++◌, map, take, drop}
use Rattle.mem_base.specs.declared.map.ids.RegionId.{RegionId}
use Rattle.mem_base.specs.declared.map.spots.Spot.{Spot}
use Rattle.mem_base.specs.declared.access.cells.WordStep.{WordStep}
use Rattle.mem_base.specs.declared.access.cells.WordStep.TheVariants.{Load, Replace}
use Rattle.mem_base.specs.map.Limits.{word_size}
use Rattle.mem_base.specs.access.Words.{little_endian}
use Rattle.mem_base.specs.lists.Runs.{Run, touched}
use Rattle.mem_base.specs.access.Marks.{marks_of}
use Rattle.mem_base.specs.access.Cells.{cell}
use Rattle.mem_base.specs.access.AccessSteps.{Transfer, reading, writing, length_of, AccessStep, steps, marks, shown_part, nothing_shown, unanswered}

-- the step that writes some bytes, given from `offset` on, into the word in which a run of them lies
abbrev pub replaces : ℕ → List ℕ → Run → WordStep
replaces offset bytes w =
    Replace (w.start % word_size) w.length (little_endian (take w.length (drop (w.start - offset) bytes)))

-- one touched word
abbrev pub on_word : RegionId → ℕ → Transfer → Run → AccessStep
on_word region offset (reading n) w =
    steps (cell region (w.start / word_size)) Load (shown_part (w.start % word_size) w.length false w.length)
on_word region offset (writing bs) w =
    steps (cell region (w.start / word_size)) (replaces offset bs w) nothing_shown

-- all touched words, ascending
abbrev pub on_words : RegionId → ℕ → Transfer → List AccessStep
on_words region offset transfer = map (on_word region offset transfer) (touched word_size offset (length_of transfer))

-- the marks of a write
abbrev pub marked : RegionId → ℕ → ℕ → ℕ → List AccessStep
marked region log offset bytes = map (λ m. marks region m.1 m.0) (marks_of log offset bytes)

-- a read loads each touched word; a write replaces the touched bytes of each and then marks the pages, but where the
-- leaf is read-only it changes nothing
abbrev pub in_memory : Spot → Transfer → List AccessStep
in_memory spot (reading n) = on_words spot.leaf spot.offset (reading n)
in_memory spot (writing bs) =
    if spot.attrs.readonly then unanswered (writing bs)
    else on_words spot.leaf spot.offset (writing bs) ++ marked spot.leaf spot.attrs.log spot.offset (length_of (writing bs))
