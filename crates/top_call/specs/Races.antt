-- `race`: what is read, what is written, and how it ends.
use Rattle.std.specs.Prelude.{ℕ, List, Option}
use Rattle.top_runs.specs.declared.endings.Ending.{Ending}
use Rattle.top_runs.specs.Runs.{RunsBy}
use Rattle.race_run.specs.HandedOn.{ConfigState}
use Rattle.top_call.specs.RacedText.{WritesRaceOf}

-- `race`, after which this machine is kept, if any
abbrev pub Races : {S K : Type 0} → (S → Option (List ℕ)) → (S → ℕ) → (K → Option (List ℕ)) → (K → List ℕ → Type 0) → (K → ℕ) → S → S → K → K
    → Option ConfigState → Ending → Type 0
Races left read_faults written holds write_faults source source' sink sink' machine ending =
    RunsBy left read_faults source source' (write_faults sink) (write_faults sink') ending
    (λ script. WritesRaceOf written holds script sink sink' machine ending)
