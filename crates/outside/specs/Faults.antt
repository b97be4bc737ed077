-- The number that a count of faults is.
use Rattle.std.specs.Prelude.{ℕ}
use Rattle.outside.specs.declared.faults.FaultCount.{FaultCount}

abbrev pub fault_count : FaultCount → ℕ
fault_count count = count.0
