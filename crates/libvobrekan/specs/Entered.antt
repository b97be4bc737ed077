-- What a virtual CPU asks of the generation that it is entered in.
use Rattle.std.specs.Prelude.{◌≡◌, Option, Some, None}
use Rattle.generation.specs.Published.{Published}
use Rattle.libvobrekan.specs.declared.answers.Answer.{Answer}
use Rattle.libvobrekan.specs.Answers.{no_machine, not_entered}
use Rattle.libvobrekan.specs.Cpus.{Pass}

-- this holds of the generation; where the virtual CPU is in none it is refused, and what it was to fill is as it was
abbrev pub AsksIn : {B : Type 0} → Option Published → (Published → Type 0) → B → Answer → B → Type 0
AsksIn None Holds before answer after = (answer ≡ not_entered) × (after ≡ before)
AsksIn (Some g) Holds before answer after = Holds g

-- the same of a handle, which is refused where it has no virtual CPU
abbrev pub AsksEntered : {B : Type 0} → Option Pass → (Published → Type 0) → B → Answer → B → Type 0
AsksEntered None Holds before answer after = (answer ≡ no_machine) × (after ≡ before)
AsksEntered (Some v) Holds before answer after = AsksIn v.edition Holds before answer after
