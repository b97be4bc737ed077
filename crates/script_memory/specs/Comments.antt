-- The lines of a text that end with the comment ` # memory`.
use Rattle.std.specs.Prelude.{ℕ, ◌-◌, ◌==◌, ◌&&◌, nat_le, Bool, false, List, ◌∷◌, length, drop, map, unwrap_or, codes}
use Rattle.std.specs.List.{slice_get, slice_split}
use Rattle.std.specs.Str.{bytes_eq}
use Rattle.mem_base.specs.script.Lines.{without_return}
use Rattle.mem_base.specs.script.Spelling.{Text}

-- the text ends with the comment
abbrev pub ends_so : Text → Bool
ends_so text = let end = codes " # memory" in
    nat_le (length end) (length text) && bytes_eq (drop (length text - length end) text) end

-- the line does, but for a carriage return at its end
abbrev pub is_commented : Text → Bool
is_commented line = ends_so (without_return line)

-- of each line of a text, by its number, whether it does; lines are counted from 1, and there is no line 0
abbrev pub lines_commented : Text → List Bool
lines_commented text = false ∷ map is_commented (slice_split (λ b. b == 10) text)

-- the line with this number does
abbrev pub is_commented_at : List Bool → ℕ → Bool
is_commented_at lines number = unwrap_or (slice_get lines number) false
