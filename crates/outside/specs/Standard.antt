-- The reader and the writer that the adapters stand over, and their counts of faults.
use Rattle.std.specs.Prelude.{ℕ}
use Rattle.outside.specs.declared.standard.StdSource.{StdSource}
use Rattle.outside.specs.declared.standard.StdSink.{StdSink}
use Rattle.outside.specs.Faults.{fault_count}

abbrev pub reader_of : {R : Type 0} → StdSource R → R
reader_of s = s.reader

abbrev pub reader_faults : {R : Type 0} → StdSource R → ℕ
reader_faults s = fault_count s.faults

abbrev pub writer_of : {W : Type 0} → StdSink W → W
writer_of s = s.writer

abbrev pub writer_faults : {W : Type 0} → StdSink W → ℕ
writer_faults s = fault_count s.faults
