-- What reading a whole text gives, beside what the definition says of it.
use Rattle.std.specs.Prelude.{◌≡◌, ℕ, List, ◌++◌, Option, Result, Ok, Err}
use Rattle.mem_base.specs.declared.script.faults.Cause.{Cause}
use Rattle.mem_base.specs.declared.script.commands.Command.{Command}
use Rattle.mem_base.specs.declared.script.places.Section.{Section}
use Rattle.mem_base.specs.script.Scripts.{Line, Meaning, line_then}
use Rattle.script_text.specs.declared.faults.ParseFault.{ParseFault}
use Rattle.script_text.specs.declared.faults.ParseFault.TheVariants.{Bad, Memory}

-- the text is faulty in this way, unless memory ran out
abbrev pub FailsBy : ParseFault → Meaning → Type 0
FailsBy Memory defined = Unit {0}
FailsBy (Bad fault) defined = defined ≡ Err fault

-- what was read is what the definition gives
abbrev pub Parses : Result (List Line) ParseFault → Meaning → Type 0
Parses (Ok lines) defined = defined ≡ Ok lines
Parses (Err fault) defined = FailsBy fault defined

abbrev pub prepend : List Line → Meaning → Meaning
prepend front (Ok lines) = Ok (front ++ lines)
prepend front (Err fault) = Err fault

-- what one line does: for whatever follows it, the commands so far with the meaning of the rest
abbrev pub Steps : Result Section ParseFault → Section → ℕ → Result (Option Command) Cause → List Line → List Line → Type 0
Steps (Ok next) section line read before after = (rest : Section → Meaning) → prepend before (line_then section line read rest) ≡ prepend after (rest next)
Steps (Err Memory) section line read before after = Unit {0}
Steps (Err (Bad fault)) section line read before after = (rest : Section → Meaning) → line_then section line read rest ≡ Err fault
