-- The endings, and the exit status of each.
use Rattle.std.specs.Prelude.{ℕ, ◌≡◌, ⊤}
use Rattle.std.specs.Process.{exit_status}
use Rattle.std.specs.declared.process.ExitCode.{ExitCode}
use Rattle.mem_base.specs.declared.script.faults.BadScript.{BadScript}
use Rattle.top_runs.specs.declared.endings.Ending.{Ending}
use Rattle.top_runs.specs.declared.endings.Ending.TheVariants as endings

-- the exit status of the process
abbrev pub status_of : Ending → ℕ
status_of endings.Done = 0
status_of endings.Usage = 2
status_of (endings.BadScript bad) = 3
status_of endings.ReadFault = 4
status_of endings.WriteFault = 5
status_of endings.Memory = 6

-- the process ends with the status of an ending of which the fact holds
abbrev pub ExitsWith : ExitCode → (Ending → Type 0) → Type 0
ExitsWith code fact = (ending : Ending) × (exit_status code ≡ status_of ending) × fact ending

-- a fact of the line at fault, where the ending has one
abbrev pub IfBad : Ending → (BadScript → Type 0) → Type 0
IfBad (endings.BadScript bad) fact = fact bad
IfBad _ fact = ⊤
