-- What a call of a map does.
use Rattle.std.specs.Prelude.{◌≡◌, ◌≢◌, Result, Ok, Err, OnOk, OnErr, IfErr}
use Rattle.mem_base.specs.declared.map.forests.Forest.{Forest}
use Rattle.mem_base.specs.declared.map.calls.Call.{Call}
use Rattle.mem_base.specs.declared.map.refusals.Refusal.{Refusal}
use Rattle.mem_base.specs.declared.map.refusals.Refusal.TheVariants as refusals
use Rattle.mem_base.specs.map.Calls.{after}

-- A map does a call, and answers `result`. Where the call is accepted, the map is the one after it. Else the answer is the first
-- refusal that stands, or that memory ran out, and the map is as it was.
-- QEMU's manual, "The memory API"; the refusals and their order are this project's own.
pub record Does (old : Forest) (call : Call) (new : Forest) {A : Type 0} (result : Result A Refusal) : Type 0 where
  pub done : OnOk result (after old call ≡ Ok new)
  pub refused : IfErr result (λ why. why ≢ refusals.Memory → after old call ≡ Err why)
  pub unchanged : OnErr result (new ≡ old)
