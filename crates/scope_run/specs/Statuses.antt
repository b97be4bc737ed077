-- The exit status of each ending.
use Rattle.std.specs.Prelude.{ℕ}
use Rattle.scope_run.specs.declared.endings.Ending.{Ending}
use Rattle.scope_run.specs.declared.endings.Ending.TheVariants as endings

abbrev pub status_of : Ending → ℕ
status_of endings.Nothing = 0
status_of endings.Something = 1
status_of endings.Wrong = 2
status_of endings.WriteFault = 3
status_of endings.Memory = 4
