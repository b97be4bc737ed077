-- The tasks that read nothing, where memory runs out first.
use Rattle.std.proofs.Common.{◌≡◌, ℕ, List, None, Some, refl, inr}
use Rattle.std.specs.declared.option.Option.{Option}
use Rattle.outside.proofs.Took.{TakesPrefix-nil}
use Rattle.mem_base.specs.declared.script.tasks.Task.{Task}
use Rattle.mem_base.specs.declared.script.tasks.Task.TheVariants.{Run, Race, Make, Demo}
use Rattle.top_runs.specs.declared.endings.Ending.{Ending}
use Rattle.top_runs.specs.declared.endings.Ending.TheVariants.{Memory}
use Rattle.top_runs.specs.Asks.{IfDemo, IfMake, IfRace, IfRun, IfUsage, UnlessReads}
use Rattle.top_runs.specs.Says.{IsLeftAlone, Says}

pub says_nothing : {K : Type 0} (written : K → Option (List ℕ)) (holds : K → List ℕ → Type 0) (write_faults : K → ℕ) (text : List ℕ) (said : Ending)
    (sink : K) → (Memory ≡ said → ⊥) → Says written holds write_faults text said sink sink Memory
says_nothing written holds write_faults text said sink other = record {
  whole = λ e. absurd (other e);
  only = inr (inr refl);
  write = λ e. cc;
  prefix = TakesPrefix-nil written holds sink text;
}

pub left_alone : {S : Type 0} (left : S → Option (List ℕ)) (read_faults : S → ℕ) (source : S) → IsLeftAlone left read_faults source source
left_alone left read_faults source = record { same_left = refl; same_faults = refl }

-- what holds whatever the words ask for
pub if_run : (task : Option Task) (fact : Type 0) → fact → IfRun task fact
if_run None fact f = tt
if_run (Some Run) fact f = f
if_run (Some Race) fact f = tt
if_run (Some (Make seed)) fact f = tt
if_run (Some (Demo seed)) fact f = tt

pub unless_reads : (task : Option Task) (fact : Type 0) → fact → UnlessReads task fact
unless_reads None fact f = f
unless_reads (Some Run) fact f = tt
unless_reads (Some Race) fact f = tt
unless_reads (Some (Make seed)) fact f = f
unless_reads (Some (Demo seed)) fact f = f

pub if_make : (task : Option Task) (fact : ℕ → Type 0) → ((seed : ℕ) → fact seed) → IfMake task fact
if_make None fact f = tt
if_make (Some Run) fact f = tt
if_make (Some Race) fact f = tt
if_make (Some (Make seed)) fact f = f seed
if_make (Some (Demo seed)) fact f = tt

pub if_demo : (task : Option Task) (fact : ℕ → Type 0) → ((seed : ℕ) → fact seed) → IfDemo task fact
if_demo None fact f = tt
if_demo (Some Run) fact f = tt
if_demo (Some Race) fact f = tt
if_demo (Some (Make seed)) fact f = tt
if_demo (Some (Demo seed)) fact f = f seed

pub if_usage : (task : Option Task) (fact : Type 0) → fact → IfUsage task fact
if_usage None fact f = f
if_usage (Some Run) fact f = tt
if_usage (Some Race) fact f = tt
if_usage (Some (Make seed)) fact f = tt
if_usage (Some (Demo seed)) fact f = tt

-- a machine that is kept is one
pub if_race_one : {M : Type 0} (task : Option Task) (fact : M → Type 0) (m : M) → IfRace task (fact m) → IfRace task ((machine : M) × fact machine)
if_race_one None fact m f = tt
if_race_one (Some Run) fact m f = tt
if_race_one (Some Race) fact m f = (m, f)
if_race_one (Some (Make seed)) fact m f = tt
if_race_one (Some (Demo seed)) fact m f = tt
