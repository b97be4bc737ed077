-- The commands of a script that are refused, each with the refused line that took it along.
use Rattle.std.specs.Prelude.{ℕ, ◌==◌, ◌&&◌, Bool, false, if◌then◌else◌, List, [], ◌++◌, take, drop, find, reverse, option_map, flat_map}
use Rattle.std.specs.Prelude.{Option, Some, None, codes, decimal}
use Rattle.std.specs.List.{before_first, list_any}
use Rattle.std.specs.Str.{bytes_eq}
use Rattle.mem_base.specs.declared.script.commands.Command.{Command}
use Rattle.mem_base.specs.script.RefusalLines.{line_feed}
use Rattle.mem_base.specs.script.Scripts.{Line}
use Rattle.mem_base.specs.script.Spelling.{Text}
use Rattle.script_map.specs.Refusals.{Refused}
use Rattle.script_lint.specs.Names.{asks, made_name, made_sort}

-- the command on this line is refused
abbrev pub is_refused : List Refused → ℕ → Bool
is_refused rs number = list_any (λ r. r.line == number) rs

-- the words of a refusal are that this name is unknown
abbrev pub is_unknown : Text → Option Text → Bool
is_unknown words None = false
is_unknown words (Some name) = bytes_eq (take 11 words) (codes "F1 unknown ") && bytes_eq (drop 11 words) name

-- a line was to make the name that a command asks for, which is unknown by these words
abbrev pub was_to_make : Command → Text → Line → Bool
was_to_make command words line = asks command (made_sort line.1) && is_unknown words (made_name line.1)

-- the number of a line, where it is refused
abbrev pub number_if_refused : List Refused → Option Line → Option ℕ
number_if_refused rs None = None
number_if_refused rs (Some line) = if is_refused rs line.0 then Some line.0 else None

-- of the lines before a command, the last one that was to make the name that it asks for, where that line is refused
abbrev pub maker : List Refused → List Line → Text → Option Command → Option ℕ
maker rs before words None = None
maker rs before words (Some command) = number_if_refused rs (find (was_to_make command words) (reverse before))

-- the lines before one, and its command
abbrev pub lines_before : List Line → ℕ → List Line
lines_before lines number = before_first (λ line. line.0 == number) lines

abbrev pub command_at : List Line → ℕ → Option Command
command_at lines number = option_map (λ line. line.1) (find (λ line. line.0 == number) lines)

-- the refused line that takes a refused command along: it was to make the name that the command lacks
abbrev pub taken_along_by : List Line → List Refused → Refused → Option ℕ
taken_along_by lines rs r = maker rs (lines_before lines r.line) r.words (command_at lines r.line)

-- which line was to make the name
abbrev pub since_text : Option ℕ → Text
since_text None = []
since_text (Some number) = (codes ", which line " ++ decimal number) ++ codes " was to make"

-- line N is refused: WORDS, and which line was to make the name that is unknown
abbrev pub refusal_text : List Line → List Refused → Refused → Text
refusal_text lines rs r =
    (codes "line " ++ decimal r.line) ++ ((codes " is refused: " ++ r.words) ++ (since_text (taken_along_by lines rs r) ++ line_feed))

-- a line each
abbrev pub refusals_text : List Line → List Refused → Text
refusals_text lines rs = flat_map (refusal_text lines rs) rs
