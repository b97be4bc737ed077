-- What the ends in memory show: the calls made so far, those that are to fail, and the faults.
use Rattle.std.specs.Prelude.{ℕ, List}
use Rattle.outside.specs.declared.memory.MemSink.{MemSink}
use Rattle.outside.specs.declared.memory.MemSource.{MemSource}
use Rattle.outside.specs.Faults.{fault_count}
use Rattle.outside.specs.Remainder.{bytes_left}
use Rattle.outside.specs.Schedule.{calls_made, failing_calls}

-- of a source: the bytes that are left, the calls made, the calls that fail, the faults
abbrev pub left_of : MemSource → List ℕ
left_of s = bytes_left s.rest

abbrev pub reads_of : MemSource → ℕ
reads_of s = calls_made s.schedule

abbrev pub failing_reads : MemSource → List ℕ
failing_reads s = failing_calls s.schedule

abbrev pub read_faults : MemSource → ℕ
read_faults s = fault_count s.faults

-- of a sink: the bytes that it took and how many it takes in all, the calls made, the calls that fail, the faults
abbrev pub taken_of : MemSink → List ℕ
taken_of s = s.taken.items

abbrev pub room_of : MemSink → ℕ
room_of s = s.room

abbrev pub writes_of : MemSink → ℕ
writes_of s = calls_made s.schedule

abbrev pub failing_writes : MemSink → List ℕ
failing_writes s = failing_calls s.schedule

abbrev pub write_faults : MemSink → ℕ
write_faults s = fault_count s.faults
