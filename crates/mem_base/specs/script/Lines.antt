-- A line of a script: its comment, its bytes, its tokens.
use Rattle.std.specs.Prelude.{ℕ, ◌-◌, ◌==◌, ◌||◌, Bool, false, nat_lt, if◌then◌else◌, List, [], ◌∷◌, length, take, filter, Option, Some, None, Result, Ok, Err}
use Rattle.std.specs.List.{slice_split, list_all, before_first}
use Rattle.mem_base.specs.declared.script.faults.Cause.{Cause}
use Rattle.mem_base.specs.declared.script.faults.Cause.TheVariants.{Byte}
use Rattle.mem_base.specs.declared.script.commands.Command.{Command}
use Rattle.mem_base.specs.script.Spelling.{Text, between, last_of}
use Rattle.mem_base.specs.script.Operands.{made_by}
use Rattle.mem_base.specs.script.Forms.{command}

-- a byte that may stand outside a comment: a tab, or 0x20 to 0x7e
abbrev pub may_stand : ℕ → Bool
may_stand b = (b == 9) || between 32 126 b

-- a space or a tab
abbrev pub is_gap : ℕ → Bool
is_gap b = (b == 32) || (b == 9)

-- the text is not empty
abbrev pub has_bytes : Text → Bool
has_bytes text = nat_lt 0 (length text)

-- the tokens, which are separated by spaces and tabs
abbrev pub tokens_of : Text → List Text
tokens_of text = filter has_bytes (slice_split is_gap text)

-- a carriage return
abbrev pub is_return : Option ℕ → Bool
is_return None = false
is_return (Some b) = b == 13

-- the line without a carriage return at its end
abbrev pub without_return : Text → Text
without_return line = if is_return (last_of line) then take (length line - 1) line else line

-- what stands before the first `#`
abbrev pub uncommented : Text → Text
uncommented line = before_first (λ b. b == 35) line

-- none where there is no token
abbrev pub command_or_blank : List Text → Result (Option Command) Cause
command_or_blank [] = Ok None
command_or_blank (word ∷ tokens) = made_by Some (command (word ∷ tokens))

-- the command of a line, none where it is blank: first all bytes are looked at, then the tokens from left to right
abbrev pub line_of : Text → Result (Option Command) Cause
line_of line = if list_all may_stand (uncommented line) then command_or_blank (tokens_of (uncommented line)) else Err Byte
