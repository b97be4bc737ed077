-- What listeners were told is forgotten.
use Rattle.std.specs.Prelude.{◌≡◌, ℕ, min, drop, length, Option, Some, None}
use Rattle.mem_base.specs.machine.World.{World}
use Rattle.config_desk.specs.Configs.{ConfigState}
use Rattle.config_desk.specs.Configs as configs
use Rattle.world_hand.specs.Taken.{with_calls}
use Rattle.libvobrekan.specs.declared.answers.Answer.{Answer}
use Rattle.libvobrekan.specs.Answers.{done, no_machine}

-- the first calls of the journal of a handle's machine are forgotten, at most this many, and all else is as it was; the answer says how
-- many they were
abbrev pub Forgets : Option World → ℕ → Answer → Option World → Type 0
Forgets None count answer after = (answer ≡ no_machine) × (after ≡ None)
Forgets (Some w) count answer after = let calls = w.writer.desk.listening.journal in
    (answer ≡ done (min count (length calls)) 0) × (after ≡ Some (with_calls (drop (min count (length calls)) calls) w))

-- the same of a handle's desk
abbrev pub ForgetsAtDesk : Option ConfigState → ℕ → Answer → Option ConfigState → Type 0
ForgetsAtDesk None count answer after = (answer ≡ no_machine) × (after ≡ None)
ForgetsAtDesk (Some c) count answer after = let calls = c.part.desk.listening.journal in
    (answer ≡ done (min count (length calls)) 0) × (after ≡ Some (configs.with_calls (drop (min count (length calls)) calls) c))
