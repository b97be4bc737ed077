-- The replies that the calls of a virtual CPU get beside those of an access.
use Rattle.std.specs.Prelude.{ℕ, Bool, if◌then◌else◌, List, [], ◌∷◌, ◌++◌}

-- the replies to an enter: the number that the pass looked at, and the number that it entered
abbrev pub replies_to_enter : ℕ → ℕ → List ℕ
replies_to_enter looked number = looked ∷ 0 ∷ number ∷ []

abbrev pub replies_to_leave : List ℕ
replies_to_leave = 0 ∷ []

-- the same where the pass enters anew
abbrev pub replies_anew : Bool → ℕ → ℕ → List ℕ
replies_anew entered looked number = if entered then replies_to_leave ++ replies_to_enter looked number else replies_to_enter looked number

-- the replies to a call that enters before it and leaves after it, unless the pass was entered
abbrev pub replies_around : Bool → ℕ → ℕ → List ℕ → List ℕ
replies_around entered looked number replies = if entered then replies else replies_to_enter looked number ++ (replies ++ replies_to_leave)
