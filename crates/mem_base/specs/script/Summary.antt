-- The summary that `demo` writes: seven numbers, counted over the text of a run.
use Rattle.std.specs.Prelude.{ℕ, ◌+◌, ◌-◌, ◌==◌, ◌||◌, Bool, if◌then◌else◌, List, [], ◌∷◌, ◌++◌, take, drop, length, filter, reverse}
use Rattle.std.specs.Prelude.{Option, Some, None, option_and_then, unwrap_or, slice_get, codes, decimal}
use Rattle.std.specs.Str.{bytes_eq}
use Rattle.std.specs.List.{slice_split}
use Rattle.mem_base.specs.script.Spelling.{Text, digits, most_address}
use Rattle.mem_base.specs.script.Lines.{tokens_of}
use Rattle.mem_base.specs.script.RefusalLines.{line_feed}

-- the parts of a text that end with a line feed
abbrev pub ended_lines : List Text → List Text
ended_lines [] = []
ended_lines (part ∷ []) = []
ended_lines (part ∷ next ∷ parts) = part ∷ ended_lines (next ∷ parts)

-- the lines of a text
abbrev pub lines_in : Text → List Text
lines_in text = ended_lines (slice_split (λ b. b == 10) text)

-- a line begins so
abbrev pub begins_with : Text → Text → Bool
begins_with front line = bytes_eq (take (length front) line) front

-- a line ends so
abbrev pub ends_with : Text → Text → Bool
ends_with back line = bytes_eq (drop (length line - length back) line) back

-- how many lines pass a test
abbrev pub count : (Text → Bool) → List Text → ℕ
count test lines = length (filter test lines)

-- a line `refused ..`
abbrev pub is_refusal : Text → Bool
is_refusal line = begins_with (codes "refused ") line

-- an access without error
abbrev pub is_ok : Text → Bool
is_ok line = ends_with (codes " ok") line

-- an access with an error
abbrev pub is_error : Text → Bool
is_error line = ends_with (codes " error") line || ends_with (codes " error+decode") line

-- an access with a decode error
abbrev pub is_decode : Text → Bool
is_decode line = ends_with (codes " decode") line || ends_with (codes " error+decode") line

-- a line `view ..`
abbrev pub is_view : Text → Bool
is_view line = begins_with (codes "view ") line

-- the last line of a view's beginning, and how many lines stand after it; lines are given from the last one back
abbrev pub last_view : ℕ → List Text → Option (Text × ℕ)
last_view after [] = None
last_view after (line ∷ lines) = if is_view line then Some (line, after) else last_view (after + 1) lines

-- how many lines stand after the last `view`
abbrev pub ranges_after : Option (Text × ℕ) → ℕ
ranges_after None = 0
ranges_after (Some view) = view.1

-- N of `view SPACE gN`
abbrev pub generation_in : Option (Text × ℕ) → ℕ
generation_in None = 0
generation_in (Some view) =
    unwrap_or (option_and_then (λ token. digits 10 most_address (drop 1 token)) (slice_get (tokens_of view.0) 2)) 0

-- WORD N
abbrev pub number_line : Text → ℕ → Text
number_line word n = word ++ (codes " " ++ (decimal n ++ line_feed))

-- the seven lines, by the lines of a run
abbrev pub summary_of_lines : List Text → Text
summary_of_lines lines =
    let view = last_view 0 (reverse lines) in
    number_line (codes "lines") (length lines) ++ (number_line (codes "refused") (count is_refusal lines)
    ++ (number_line (codes "ok") (count is_ok lines) ++ (number_line (codes "error") (count is_error lines)
    ++ (number_line (codes "decode") (count is_decode lines) ++ (number_line (codes "ranges") (ranges_after view)
    ++ number_line (codes "generation") (generation_in view))))))

-- the summary of a run's text
abbrev pub summary : Text → Text
summary text = summary_of_lines (lines_in text)
