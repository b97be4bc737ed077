-- A script: its lines, the commands with the numbers of their lines, and where commands may stand.
-- `machine` is the first command or none. There is at most one `par`, and its `end` stands after it; between them there is
-- no `machine`, `space` or `par`.
use Rattle.std.specs.Prelude.{ℕ, ◌+◌, ◌==◌, if◌then◌else◌, nat_le, List, [], ◌∷◌, length, Option, Some, None, Result, Ok, Err}
use Rattle.std.specs.List.{slice_split}
use Rattle.mem_base.specs.declared.script.faults.BadScript.{BadScript}
use Rattle.mem_base.specs.declared.script.faults.Cause.{Cause}
use Rattle.mem_base.specs.declared.script.faults.Cause.TheVariants as causes
use Rattle.mem_base.specs.declared.script.commands.Command.{Command}
use Rattle.mem_base.specs.declared.script.commands.Command.TheVariants as commands
use Rattle.mem_base.specs.declared.script.places.PlaceRule.{PlaceRule}
use Rattle.mem_base.specs.declared.script.places.PlaceRule.TheVariants.{First, OutsideBlock, OpensBlock, ClosesBlock, Anywhere}
use Rattle.mem_base.specs.declared.script.places.Section.{Section}
use Rattle.mem_base.specs.declared.script.places.Section.TheVariants.{Start, Setup, Block, Tail}
use Rattle.mem_base.specs.script.Spelling.{Text}
use Rattle.mem_base.specs.script.Lines.{line_of, without_return}

-- a command with the number of its line, counted from 1
abbrev pub Line : Type 0
Line = ℕ × Command

-- what a text gives: its commands, or the first line at fault and its cause
abbrev pub Meaning : Type 0
Meaning = Result (List Line) BadScript

-- a script with a line at fault
abbrev pub bad : ℕ → Cause → Meaning
bad line cause = Err (record { line = line; cause = cause })

-- where a command may stand
abbrev pub rule_of : Command → PlaceRule
rule_of (commands.Machine size) = First
rule_of (commands.Space name root) = OutsideBlock
rule_of commands.Par = OpensBlock
rule_of commands.End = ClosesBlock
rule_of command = Anywhere

-- the section after a command with this rule, which stands on this line; none where the command may not stand there
abbrev pub placed : ℕ → Section → PlaceRule → Option Section
placed line Start First = Some Setup
placed line section First = None
placed line Start OpensBlock = Some (Block line)
placed line Setup OpensBlock = Some (Block line)
placed line section OpensBlock = None
placed line (Block par) ClosesBlock = Some Tail
placed line section ClosesBlock = None
placed line (Block par) OutsideBlock = None
placed line Start rule = Some Setup
placed line section rule = Some section

-- a command before those of the rest, if the rest is a script
abbrev pub with_line : Line → Meaning → Meaning
with_line line (Ok lines) = Ok (line ∷ lines)
with_line line (Err fault) = Err fault

-- a command where it may stand, and then the rest
abbrev pub placed_then : ℕ → Command → Option Section → (Section → Meaning) → Meaning
placed_then line command None rest = bad line causes.Place
placed_then line command (Some section) rest = with_line (line, command) (rest section)

-- a line, and then the rest of the script
abbrev pub line_then : Section → ℕ → Result (Option Command) Cause → (Section → Meaning) → Meaning
line_then section line (Err cause) rest = bad line cause
line_then section line (Ok None) rest = rest section
line_then section line (Ok (Some command)) rest = placed_then line command (placed line section (rule_of command)) rest

-- a `par` without `end` is at fault, where no other line is
abbrev pub ends_at : Section → Meaning
ends_at (Block par) = bad par causes.Place
ends_at section = Ok []

-- the commands of these parts between line feeds, of which the first is this line
abbrev pub script_from : Section → ℕ → List Text → Meaning
script_from section line [] = ends_at section
script_from section line (part ∷ []) = line_then section line (line_of part) ends_at
script_from section line (part ∷ next ∷ parts) =
    line_then section line (line_of (without_return part)) (λ s. script_from s (line + 1) (next ∷ parts))

-- the greatest number of bytes of a script
abbrev pub most_text : ℕ
most_text = 1048576

-- the commands of a script, each with its line, or the first line at fault with its cause
abbrev pub script_of : Text → Meaning
script_of text = if nat_le (length text) most_text then script_from Start 1 (slice_split (λ b. b == 10) text) else bad 0 causes.Long
