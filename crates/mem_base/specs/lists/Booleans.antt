-- Tests on Booleans.
use Rattle.std.specs.Prelude.{Bool, true, false, not}

-- both are true, or both are false
abbrev pub bool_eq : Bool → Bool → Bool
bool_eq true b = b
bool_eq false b = not b
