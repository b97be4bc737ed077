-- One word of a place that is cleared.
use Rattle.std.specs.Prelude.{ℕ, ◌+◌, nat_lt, if◌then◌else◌, List, Option, Some, None}
use Rattle.mem_base.specs.declared.access.cells.Place.{Place}
use Rattle.mem_base.specs.declared.access.cells.WordStep.TheVariants.{Take}
use Rattle.mem_base.specs.access.Cells.{words_after}

-- a word of a place is 0 then, where the place has it; the others stay
abbrev pub word_cleared : List ℕ → Option Place → ℕ → List ℕ
word_cleared ws None word = ws
word_cleared ws (Some p) word = if nat_lt word p.words then words_after ws (p.start + word) Take else ws
