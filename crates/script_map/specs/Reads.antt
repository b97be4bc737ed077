-- What a text gives, as a script.
use Rattle.std.specs.Prelude.{◌≡◌, List, Ok, Err, ⊤}
use Rattle.mem_base.specs.script.Spelling.{Text}
use Rattle.mem_base.specs.script.Scripts.{Line, Meaning, script_of}
use Rattle.script_map.specs.Left.{IsLeftBy, Left}
use Rattle.script_map.specs.declared.reading.MapStop.{MapStop}
use Rattle.script_map.specs.declared.reading.MapStop.TheVariants.{Bad, Memory}

-- the text is a script that leaves this
abbrev pub IsLeftByText : Text → Left → Type 0
IsLeftByText text m = (lines : List Line) × (script_of text ≡ Ok lines) × IsLeftBy lines m

-- a text that is told as bad is no script, and this is its first line at fault
abbrev pub IfBad : MapStop → Meaning → Type 0
IfBad (Bad bad) meaning = meaning ≡ Err bad
IfBad Memory meaning = ⊤
