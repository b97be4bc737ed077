-- What reading a line gives, beside what the definition says of the line.
use Rattle.std.specs.Prelude.{◌≡◌, Option, Some, None, Result, Ok, Err}
use Rattle.monitor_text.specs.declared.faults.LineFault.{LineFault}
use Rattle.monitor_text.specs.declared.faults.LineFault.TheVariants.{Bad, Memory}

-- what was read is what the definition gives; a line that has no form is at fault
abbrev pub Reads : {X : Type 0} → Result X LineFault → Option X → Type 0
Reads (Ok x) defined = defined ≡ Some x
Reads (Err Bad) defined = defined ≡ None
Reads (Err Memory) defined = Unit {0}
