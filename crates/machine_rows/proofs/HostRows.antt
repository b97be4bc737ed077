-- Worked rows of host memory, by computing.
use Rattle.std.proofs.Common.{refl}
use Rattle.mem_base.specs.map.Search.{found_in}
use Rattle.machine_rows.specs.HostRows.{HostRows}

pub rows : HostRows
unfolding found_in
rows = record {
  fills-a-space = refl;
  part-of-a-page = refl;
  no-page = refl;
  keeps-its-size = refl;
  may-be-logged = refl;
  found = refl;
  found-globally = refl;
  past-its-end = refl;
  no-words = refl;
  not-loaded = refl;
  not-harvested = refl;
  read-by-nobody = refl;
  written-by-nobody = refl;
}
