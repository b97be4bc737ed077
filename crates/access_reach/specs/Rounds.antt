-- How an access by the rounds of QEMU's core ends.
use Rattle.std.specs.Prelude.{ℕ, Bool, true, false, List, [], length, Option, Some, None}
use Rattle.mem_base.specs.declared.map.ids.SpaceId.{SpaceId}
use Rattle.mem_base.specs.declared.map.forests.Forest.{Forest}
use Rattle.mem_base.specs.declared.access.accesses.TxResult.{TxResult}
use Rattle.mem_base.specs.access.AccessSteps.{reading, writing}
use Rattle.mem_base.specs.access.Plans.{Reached}
use Rattle.access_plan.specs.HostPlans.{MeetsEnd, core_plan_with_host}
use Rattle.access_reach.specs.Asking.{Outcome, outcome}
use Rattle.access_reach.specs.Reaching.{Asks, HasReached, IsUnderway}

-- the access meets one of the last offsets of a device, and the machine was asked a first part of a plan
pub record HasStopped {S : Type 0} (asks : Asks S) (before : S) (f : Forest) (write : Bool) (s : SpaceId) (a bytes : ℕ) (whole : List Reached) (after : S)
    : Type 0 where
  pub meets : MeetsEnd f write s a bytes
  pub rest : List Reached
  pub end : Outcome
  pub part : IsUnderway asks before whole rest end after

-- a read of n bytes ended with this result and these bytes, or it stopped
abbrev pub EndsRead : {S : Type 0} → Asks S → S → Forest → SpaceId → ℕ → ℕ → List ℕ → Option TxResult → S → Type 0
EndsRead asks before f s a n bytes None after = HasStopped asks before f false s a n (core_plan_with_host f s a (reading n)) after
EndsRead asks before f s a n bytes (Some result) after = HasReached asks before (core_plan_with_host f s a (reading n)) (outcome bytes result) after

-- a write ended with this result, or it stopped
abbrev pub EndsWrite : {S : Type 0} → Asks S → S → Forest → SpaceId → ℕ → List ℕ → Option TxResult → S → Type 0
EndsWrite asks before f s a bytes None after = HasStopped asks before f true s a (length bytes) (core_plan_with_host f s a (writing bytes)) after
EndsWrite asks before f s a bytes (Some result) after = HasReached asks before (core_plan_with_host f s a (writing bytes)) (outcome [] result) after
