-- What holds of every script that was read, and of every list of commands that can be printed and read again.
use Rattle.std.specs.Prelude.{◌≡◌, ◌==◌, ◌&&◌, ℕ, Bool, true, not, nat_lt, List, [], ◌∷◌, length, Some, Ok}
use Rattle.std.specs.List.{list_all}
use Rattle.mem_base.specs.declared.script.commands.Command.{Command}
use Rattle.mem_base.specs.declared.script.places.Section.{Section}
use Rattle.mem_base.specs.script.Spelling.{Text, between}
use Rattle.mem_base.specs.script.Forms.{command}
use Rattle.mem_base.specs.script.Scripts.{Line, ends_at, placed, rule_of}
use Rattle.mem_base.specs.script.Printing.{command_tokens}

-- a byte of a token: it separates no tokens, ends no line and begins no comment
abbrev pub is_graphic : ℕ → Bool
is_graphic b = between 33 126 b && not (b == 35)

-- a text may stand as one token: it is not empty, and has no blank
abbrev pub is_token : Text → Bool
is_token text = nat_lt 0 (length text) && list_all is_graphic text

-- all texts may
abbrev pub are_tokens : List Text → Bool
are_tokens tokens = list_all is_token tokens

-- what is printed of the command are tokens, which read as the command
abbrev pub ReadsAsItself : Command → Type 0
ReadsAsItself c = (are_tokens (command_tokens c) ≡ true) × (command (command_tokens c) ≡ Ok c)

-- from this section on, every command reads as itself and may stand where it does, and no block is open at the end
abbrev pub Sound : Section → List Line → Type 0
Sound section [] = ends_at section ≡ Ok []
Sound section (line ∷ lines) =
    ReadsAsItself line.1 × ((next : Section) × (placed line.0 section (rule_of line.1) ≡ Some next) × Sound next lines)
