-- What holds by what the words of the command line ask for.
use Rattle.std.specs.Prelude.{ℕ, Option, Some, None, ⊤}
use Rattle.mem_base.specs.declared.script.tasks.Task.{Task}
use Rattle.mem_base.specs.declared.script.tasks.Task.TheVariants.{Run, Race, Make, Demo}

-- where they ask for `run`
abbrev pub IfRun : Option Task → Type 0 → Type 0
IfRun (Some Run) fact = fact
IfRun _ fact = ⊤

-- where they ask for `race`
abbrev pub IfRace : Option Task → Type 0 → Type 0
IfRace (Some Race) fact = fact
IfRace _ fact = ⊤

-- where they do not ask for `race`
abbrev pub UnlessRace : Option Task → Type 0 → Type 0
UnlessRace (Some Race) fact = ⊤
UnlessRace _ fact = fact

-- where they ask for neither, so that nothing is read
abbrev pub UnlessReads : Option Task → Type 0 → Type 0
UnlessReads (Some Run) fact = ⊤
UnlessReads (Some Race) fact = ⊤
UnlessReads _ fact = fact

-- where they ask for `make`, a fact of the seed
abbrev pub IfMake : Option Task → (ℕ → Type 0) → Type 0
IfMake (Some (Make seed)) fact = fact seed
IfMake _ fact = ⊤

-- where they ask for `demo`, a fact of the seed
abbrev pub IfDemo : Option Task → (ℕ → Type 0) → Type 0
IfDemo (Some (Demo seed)) fact = fact seed
IfDemo _ fact = ⊤

-- where they have none of the four forms
abbrev pub IfUsage : Option Task → Type 0 → Type 0
IfUsage None fact = fact
IfUsage _ fact = ⊤
