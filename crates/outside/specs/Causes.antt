-- When a failure may be told: only where a count of faults rose.
use Rattle.std.specs.Prelude.{ℕ, ◌+◌, ◌-◌, ◌^◌, ◌≤◌, min, Result, OnErr, if◌then◌else◌, is_ok}
use Rattle.outside.specs.declared.Failed.{Failed}

-- one more, up to the greatest number that a count of 64 bits has
abbrev pub one_fault_more : ℕ → ℕ
one_fault_more count = min (count + 1) (2 ^ 64 - 1)

-- the count rose, or stands at its end
abbrev pub Rose : ℕ → ℕ → Type 0
Rose before now = min (before + 1) (2 ^ 64 - 1) ≤ now

-- the count has not fallen, and an error comes only where it rose
pub record HasCause {T E : Type 0} (before now : ℕ) (result : Result T E) : Type 0 where
  pub later : before ≤ now
  pub failed : OnErr result (Rose before now)

-- the count after a call: one more where it failed, and else as it was
abbrev pub faults_after : {T E : Type 0} → ℕ → Result T E → ℕ
faults_after before result = if is_ok result then before else one_fault_more before

-- what a read or a write that failed answers
abbrev pub failed : Failed
failed = record {}
