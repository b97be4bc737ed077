-- Where the words and the slots of a pass stand in the table. Those between are not used: so what two threads write is never
-- within 64 bytes, a line of the caches, and no line goes from processor to processor for the sake of another's word.
-- This project's own rule.
use Rattle.std.specs.Prelude.{ℕ, ◌+◌, ◌*◌, ◌%◌}
use Rattle.mem_base.specs.map.Limits.{most_generations}
use Rattle.epoch_rule.specs.declared.board.TheConstants.{LINE_WORDS, PASS_SLOTS}

-- the word of a pass, the first one of its line
abbrev pub word_of_pass : ℕ → ℕ
word_of_pass pass = LINE_WORDS * (pass + 1)

-- the words before the cabinet's own: a line for the current number, and one for each pass
abbrev pub words_before_pool : ℕ → ℕ
words_before_pool passes = LINE_WORDS * (passes + 1)

-- the slots of the first passes
abbrev pub slots_before : ℕ → ℕ
slots_before pass = PASS_SLOTS * pass

-- the slot for a pass's copy of a generation
abbrev pub slot_of : ℕ → ℕ → ℕ
slot_of pass number = slots_before pass + number % most_generations
