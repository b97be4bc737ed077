-- The commands of a script that are refused, by what they write.
use Rattle.std.specs.Prelude.{ℕ, ◌==◌, if◌then◌else◌, List, [], ◌∷◌, ◌++◌, length, drop, codes, decimal}
use Rattle.std.specs.List.{before_first}
use Rattle.mem_base.specs.script.Spelling.{Text}
use Rattle.mem_base.specs.script.Summary.{begins_with}

-- the number of the line, and the words of the refusal
pub record Refused : Type 0 where
  pub line : ℕ
  pub words : Text

-- what stands before the words of the refusal of a line: no other line that a command writes begins so
abbrev pub refusal_head : ℕ → Text
refusal_head line = (codes "refused " ++ decimal line) ++ codes " "

-- what stands before the first line feed
abbrev pub first_line : Text → Text
first_line text = before_first (λ b. b == 10) text

-- the refusal with which the text that a command wrote begins, if it does
abbrev pub refused_by : ℕ → Text → List Refused
refused_by line said =
    if begins_with (refusal_head line) said
    then record { line = line; words = first_line (drop (length (refusal_head line)) said) } ∷ [] else []
