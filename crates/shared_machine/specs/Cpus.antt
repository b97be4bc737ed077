-- What is seen of a virtual CPU.
use Rattle.std.specs.Prelude.{◌≡◌, [], Option, Some, None}
use Rattle.generation.specs.Published.{Published}
use Rattle.epoch_rule.specs.Values.{CabinetValue, PassValue}

-- its pass; none is there only while a call works with it
abbrev pub pass_of : CabinetValue → Option (PassValue Published) → PassValue Published
pass_of c (Some pass) = pass
pass_of c None = record { cabinet = c.id; number = 0; sizes = c.sizes; seen = []; edition = None }

-- the pass is there, and of this cabinet
abbrev pub IsPassOf : CabinetValue → Option (PassValue Published) → Type 0
IsPassOf c None = ⊥
IsPassOf c (Some pass) = pass.cabinet ≡ c.id
