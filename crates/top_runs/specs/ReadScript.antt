-- What is read: the bytes of the source are the text of a script.
use Rattle.std.specs.Prelude.{◌≡◌, ◌<◌, ◌≤◌, ◌⊎◌, length, None, Some, Option, ⊤}
use Rattle.std.specs.Io.KnownBytes.{Consumes, IsAtEnd}
use Rattle.outside.specs.Source.{AllCame, SomeCame}
use Rattle.mem_base.specs.script.Spelling.{Text}
use Rattle.mem_base.specs.script.Scripts.{Meaning, most_text, script_of}
use Rattle.top_runs.specs.declared.endings.Ending.{Ending}
use Rattle.top_runs.specs.declared.endings.Ending.TheVariants as endings
use Rattle.top_runs.specs.Statuses.{IfBad}

-- the bytes that a source had, where it tells them
abbrev pub Had : Option Text → Text → Type 0
Had None bytes = ⊤
Had (Some known) bytes = known ≡ bytes

-- these bytes came from the source: all that it had, or more than a script may have
pub record Came (left left' : Option Text) (bytes : Text) : Type 0 where
  pub in_order : Consumes left left' bytes
  pub enough : IsAtEnd left' ⊎ (most_text < length bytes)

-- by what a source had left before and after: its bytes are read as these commands, or as this first line at fault (`script_of`).
-- Of a source that does not tell its bytes, it holds of some bytes
pub record ReadsAs (left left' : Option Text) (ending : Ending) (script : Meaning) : Type 0 where
  -- however it ended, the bytes that the source had are read so
  pub text : (bytes : Text) × Had left bytes × (script_of bytes ≡ script)
  -- Done: they all came, and nothing is left
  pub done : ending ≡ endings.Done → (bytes : Text) × AllCame left left' bytes × (script_of bytes ≡ script)
  -- a bad script: they all came, or more than a script may have
  pub bad : IfBad ending (λ fault. (bytes : Text) × Came left left' bytes × (script_of bytes ≡ script))
  -- a read fault: no more came than a script may have
  pub short : ending ≡ endings.ReadFault → SomeCame left left' (λ bytes. length bytes ≤ most_text)
