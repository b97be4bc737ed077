-- What a handle's virtual CPU does, by what it had seen before and has seen after.
use Rattle.std.specs.Prelude.{◌≡◌, ℕ, ◌+◌, ◌==◌, if◌then◌else◌, List, length, Option, Some, None, Result, Ok, Err}
use Rattle.mem_base.specs.declared.map.ids.SpaceId.{SpaceId}
use Rattle.mem_base.specs.declared.access.accesses.Access.{Access}
use Rattle.mem_base.specs.access.AccessSteps.{reading}
use Rattle.generation.specs.Published.{Published}
use Rattle.epoch_rule.specs.Values.{PassValue}
use Rattle.vcpu_pass.specs.declared.vcpu.NotWhole.{NotWhole}
use Rattle.vcpu_pass.specs.Calls.{HasAccessed, HasEntered, HasLeft, HasRefused, HasWritten8}
use Rattle.bounded_write.specs.declared.accesses.Written.{Written}
use Rattle.bounded_write.specs.Writes.{HasWritten}
use Rattle.libvobrekan.specs.declared.answers.Answer.{Answer}
use Rattle.libvobrekan.specs.Accesses.{access_told, ended_so}
use Rattle.libvobrekan.specs.Answers.{contended, done, no_machine, not_whole}

abbrev pub Pass : Type 0
Pass = PassValue Published

-- it entered the generation of this number
abbrev pub Enters : Option Pass → Answer → Option Pass → Type 0
Enters None answer after = (answer ≡ no_machine) × (after ≡ None)
Enters (Some v) answer after = (w : Pass) × (number : ℕ) × (after ≡ Some w) × (answer ≡ done 0 number) × HasEntered v number w

-- it left where it was entered
abbrev pub Leaves : Option Pass → Answer → Option Pass → Type 0
Leaves None answer after = (answer ≡ no_machine) × (after ≡ None)
Leaves (Some v) answer after = (w : Pass) × (after ≡ Some w) × (answer ≡ done 0 0) × HasLeft v w

-- it read bytes
abbrev pub Reads : Option Pass → SpaceId → ℕ → List ℕ → Answer → List ℕ → Option Pass → Type 0
Reads None space addr before answer out after = (answer ≡ no_machine) × (out ≡ before) × (after ≡ None)
Reads (Some v) space addr before answer out after =
    (w : Pass) × (access : Access) × (after ≡ Some w) × (answer ≡ access_told access)
    × HasAccessed v space addr (reading (length before)) access out w

-- how a write of one word ended
abbrev pub wrote_told : Result Access NotWhole → Answer
wrote_told (Ok access) = access_told access
wrote_told (Err refused) = not_whole refused.number

abbrev pub HasWrittenWord : Pass → SpaceId → ℕ → ℕ → Result Access NotWhole → Pass → Type 0
HasWrittenWord v space addr value (Ok access) w = HasWritten8 v space addr value access w
HasWrittenWord v space addr value (Err refused) w = HasRefused v space addr value refused.number w

-- it wrote one word, or was refused since it would replace only a part of some word
abbrev pub WritesWord : Option Pass → SpaceId → ℕ → ℕ → Answer → Option Pass → Type 0
WritesWord None space addr value answer after = (answer ≡ no_machine) × (after ≡ None)
WritesWord (Some v) space addr value answer after =
    (w : Pass) × (end : Result Access NotWhole) × (after ≡ Some w) × (answer ≡ wrote_told end) × HasWrittenWord v space addr value end w

-- how a write of some bytes ended: where not all are written, how many of the first ones are, with 4 beside how their write ended where a device has
-- taken a part of what comes after them
abbrev pub written_told : ℕ → Written → Answer
written_told len written = if written.count == len then access_told written.access
    else contended (ended_so written.access + (if written.begun then 4 else 0)) written.count written.access.number

-- it wrote bytes, or the first of them
abbrev pub WritesFirst : Option Pass → SpaceId → ℕ → List ℕ → ℕ → Answer → Option Pass → Type 0
WritesFirst None space addr bytes tries answer after = (answer ≡ no_machine) × (after ≡ None)
WritesFirst (Some v) space addr bytes tries answer after =
    (w : Pass) × (written : Written) × (after ≡ Some w) × (answer ≡ written_told (length bytes) written) × HasWritten v space addr bytes tries written w
