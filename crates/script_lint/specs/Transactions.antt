-- Transactions that a script leaves open.
use Rattle.std.specs.Prelude.{ℕ, ◌-◌, if◌then◌else◌, List, [], ◌∷◌, ◌++◌, length, take, flat_map, codes, decimal}
use Rattle.mem_base.specs.declared.script.commands.Command.{Command}
use Rattle.mem_base.specs.declared.script.commands.Command.TheVariants as commands
use Rattle.mem_base.specs.script.RefusalLines.{line_feed}
use Rattle.mem_base.specs.script.Scripts.{Line}
use Rattle.mem_base.specs.script.Spelling.{Text}
use Rattle.script_map.specs.Refusals.{Refused}
use Rattle.script_lint.specs.Refusals.{is_refused}

-- the lines whose transactions are open after a command that is accepted: `begin` opens one, `commit` closes the last one
abbrev pub after_command : List ℕ → ℕ → Command → List ℕ
after_command begun number commands.Begin = begun ++ number ∷ []
after_command begun number commands.Commit = take (length begun - 1) begun
after_command begun number _ = begun

-- the same after a line, which is accepted or refused
abbrev pub after_line : List Refused → List ℕ → Line → List ℕ
after_line rs begun line = if is_refused rs line.0 then begun else after_command begun line.0 line.1

-- the same after lines
abbrev pub open_after : List Refused → List ℕ → List Line → List ℕ
open_after rs begun [] = begun
open_after rs begun (line ∷ lines) = open_after rs (after_line rs begun line) lines

-- the lines whose transactions a script leaves open
abbrev pub unclosed : List Line → List Refused → List ℕ
unclosed lines rs = open_after rs [] lines

abbrev pub open_text : ℕ → Text
open_text number =
    (codes "line " ++ decimal number) ++ (codes " opens a transaction that no commit closes, so no change after it is published" ++ line_feed)

-- a line each
abbrev pub unclosed_text : List Line → List Refused → Text
unclosed_text lines rs = flat_map open_text (unclosed lines rs)
