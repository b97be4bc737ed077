-- What a call that reads a text gives, beside what the definition says of the text.
use Rattle.std.specs.Prelude.{◌≡◌, List, Option, Some, None, Result, Ok, Err}
use Rattle.mem_base.specs.declared.script.faults.Cause.{Cause}
use Rattle.mem_base.specs.declared.script.faults.Cause.TheVariants as causes
use Rattle.mem_base.specs.script.Spelling.{Text}
use Rattle.mem_base.specs.script.Operands.{Form, then_read, with_value}
use Rattle.mem_base.specs.script.Operands.{made_by}
use Rattle.script_text.specs.declared.stops.LineStop.{LineStop}
use Rattle.script_text.specs.declared.stops.LineStop.TheVariants.{Bad, Memory}

-- the line has this cause, unless memory ran out
abbrev pub Stops : {X : Type 0} → LineStop → Result X Cause → Type 0
Stops Memory defined = Unit {0}
Stops (Bad cause) defined = defined ≡ Err cause

-- what was read is what the definition gives
abbrev pub Reads : {X : Type 0} → Result X LineStop → Result X Cause → Type 0
Reads (Ok x) defined = defined ≡ Ok x
Reads (Err stop) defined = Stops stop defined

-- what the form of a word gives; a word that has none is at fault
abbrev pub chosen : {X : Type 0} → Option (Form X) → Form X
chosen form tokens = then_read (with_value causes.Word form tokens) (λ f. f)

-- the same where another form may be found for the word
abbrev pub tried : {X : Type 0} → Option (Form X) → List Text → Result (Option X) Cause
tried None tokens = Ok None
tried (Some form) tokens = made_by Some (form tokens)
