-- Blocks in which no two actors run beside one another.
use Rattle.std.specs.Prelude.{ℕ, ◌==◌, Bool, true, if◌then◌else◌, List, [], ◌∷◌, ◌++◌, Option, Some, None, codes, decimal}
use Rattle.std.specs.List.{before_first, list_all}
use Rattle.mem_base.specs.script.Race.{actor_number, is_end, is_par}
use Rattle.mem_base.specs.script.RefusalLines.{line_feed}
use Rattle.mem_base.specs.script.Scripts.{Line}
use Rattle.mem_base.specs.script.Spelling.{Text}

-- all lines are of one actor
abbrev pub is_of_one : List Line → Bool
is_of_one [] = true
is_of_one (line ∷ lines) = list_all (λ other. actor_number other.1 == actor_number line.1) lines

-- the lines up to `end`
abbrev pub block_lines : List Line → List Line
block_lines lines = before_first (λ line. is_end line.1) lines

-- the line of the `par` of a script, where its block has lines of one actor alone, or none
abbrev pub idle_par : List Line → Option ℕ
idle_par [] = None
idle_par (line ∷ lines) = if is_par line.1 then (if is_of_one (block_lines lines) then Some line.0 else None) else idle_par lines

abbrev pub idle_text : Option ℕ → Text
idle_text None = []
idle_text (Some number) =
    (codes "line " ++ decimal number) ++ (codes " opens a block in which at most one actor has lines, so nothing runs side by side" ++ line_feed)
