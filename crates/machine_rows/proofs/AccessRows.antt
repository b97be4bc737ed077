-- Worked accesses, by computing.
use Rattle.std.proofs.Common.{refl}
use Rattle.mem_base.specs.map.Search.{found_in}
use Rattle.machine_rows.specs.AccessRows.{AccessRows}

pub rows : AccessRows
unfolding found_in
rows = record {
  bytes-in-order = refl;
  bytes-come-back = refl;
  one-byte-is-invalid = refl;
  big-callback = refl;
  wide-callback = refl;
  chain-reads = refl;
  chain-is-ok = refl;
  chain-refuses-writes = refl;
  ninth-translation = refl;
  uses-two = refl;
  ends-at-the-page = refl;
  counter-counts = refl;
  bell-sets = refl;
  bell-clears = refl;
  fault-fails = refl;
  rom-device-loads = refl;
  rom-device-reads = refl;
  rom-device-writes = refl;
  marks-two-pages = refl;
  ends-in-a-hole = refl;
  zeros-in-a-hole = refl;
  past-the-end = refl;
  notifier-takes-it = refl;
  another-value-is-written = refl;
  ends-with-the-leaf = refl;
  ends-with-the-attributes = refl;
  ends-with-the-page = refl;
  ends-with-the-search = refl;
}
