-- The form of a line, by its first word.
use Rattle.std.specs.Prelude.{Option, option_map}
use Rattle.std.specs.Option.{option_or}
use Rattle.mem_base.specs.declared.script.faults.Cause.TheVariants as causes
use Rattle.mem_base.specs.declared.script.changes.MapChange.{MapChange}
use Rattle.mem_base.specs.declared.script.commands.Command.{Command}
use Rattle.mem_base.specs.declared.script.commands.Command.TheVariants as commands
use Rattle.mem_base.specs.script.Spelling.{Text, pass_of}
use Rattle.mem_base.specs.script.Operands.{◌>>=◌, Form, made_by, token_as, value_in}
use Rattle.mem_base.specs.script.ChangeForms.{change_forms}
use Rattle.mem_base.specs.script.DeskForms.{desk_forms}
use Rattle.mem_base.specs.script.PassForms.{pass_line}

-- a line that changes the map, as a command
abbrev pub changed : Form MapChange → Form Command
changed form tokens = made_by commands.Change (form tokens)

-- the form of a line that begins with this word: the desk's, or a pass's
abbrev pub form_of : Text → Option (Form Command)
form_of word =
    option_or (value_in desk_forms word) (option_or (option_map changed (value_in change_forms word)) (option_map pass_line (pass_of word)))

-- the command of a line's tokens
abbrev pub command : Form Command
command = do
  form ← token_as causes.Word form_of
  form
