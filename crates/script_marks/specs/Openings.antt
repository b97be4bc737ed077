-- What reading a text of one line tells.
use Rattle.std.specs.Prelude.{Bool, true, false, Option, Some, None, Ok, Err}
use Rattle.mem_base.specs.declared.script.faults.Cause.{Cause}
use Rattle.mem_base.specs.declared.script.faults.Cause.TheVariants as causes
use Rattle.mem_base.specs.script.Scripts.{Meaning}

-- a cause that speaks of a line itself, and not of where it stands
abbrev pub of_line : Cause → Option Cause
of_line causes.Place = None
of_line cause = Some cause

-- the cause of a fault, but for where a line stands
abbrev pub cause_in : Meaning → Option Cause
cause_in (Ok lines) = None
cause_in (Err fault) = of_line fault.cause

-- the cause of a token that is there, and is none that may stand there
abbrev pub is_own : Option Cause → Bool
is_own (Some causes.Word) = true
is_own (Some causes.Name) = true
is_own (Some causes.Number) = true
is_own _ = false

-- whether some line begins with the tokens of a text, by its cause and by that of the text with a token that nothing takes
abbrev pub opens_by : Option Cause → Option Cause → Bool
opens_by None probed = true
opens_by (Some causes.Count) probed = is_own probed
opens_by (Some _) probed = false
