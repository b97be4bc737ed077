-- A script that is read: what is written, and how it ends.
use Rattle.std.specs.Prelude.{ℕ, ◌≡◌, ◌⊎◌, List, Option, IsSome, Ok, Err}
use Rattle.outside.specs.Causes.{Rose}
use Rattle.mem_base.specs.script.Scripts.{Meaning}
use Rattle.top_runs.specs.declared.endings.Ending.{Ending}
use Rattle.top_runs.specs.declared.endings.Ending.TheVariants as endings
use Rattle.top_runs.specs.ReadScript.{ReadsAs}
use Rattle.top_runs.specs.WrittenText.{WritesTextOf}

-- how a run ends where nothing fails
abbrev pub ending_of : Meaning → Ending
ending_of (Ok lines) = endings.Done
ending_of (Err bad) = endings.BadScript bad

-- by the source before and after, the counts of failed writes, the ending, and what holds of what is written for a script
pub record RunsBy {S : Type 0} (left : S → Option (List ℕ)) (read_faults : S → ℕ) (source source' : S) (writes_before writes_after : ℕ)
    (ending : Ending) (WritesFor : Meaning → Type 0) : Type 0 where
  -- there are commands, or a first line at fault,
  pub script : Meaning
  -- as which the bytes of the source are read,
  pub reads : ReadsAs (left source) (left source') ending script
  -- and whose text is written
  pub writes : WritesFor script
  -- a read fault: a read failed in this call
  pub read : ending ≡ endings.ReadFault → Rose (read_faults source) (read_faults source')
  -- a write fault: a write failed in this call
  pub write : ending ≡ endings.WriteFault → Rose writes_before writes_after
  -- it is never told that the words are wrong
  pub never : ending ≡ endings.Usage → ⊥
  -- where the source tells its bytes and nothing failed, it ends as the script says, or out of memory
  pub complete : IsSome (left source) → (Rose (read_faults source) (read_faults source') → ⊥)
      → (Rose writes_before writes_after → ⊥) → (ending ≡ ending_of script) ⊎ (ending ≡ endings.Memory)

-- `run`
abbrev pub Runs : {S K : Type 0} → (S → Option (List ℕ)) → (S → ℕ) → (K → Option (List ℕ)) → (K → List ℕ → Type 0) → (K → ℕ) → S → S → K → K → Ending
    → Type 0
Runs left read_faults written holds write_faults source source' sink sink' ending =
    RunsBy left read_faults source source' (write_faults sink) (write_faults sink') ending (λ script. WritesTextOf written holds script sink sink' ending)
