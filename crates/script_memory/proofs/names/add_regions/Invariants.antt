use Rattle.std.proofs.Common.{◌≡◌, ◌++◌, drop, length}
use Rattle.script_memory.specs.Told.{told_kinds}
use Rattle.script_memory.proofs.names.add_regions.Given as goal

abbrev pub invariant-loop-number : goal.invariant-loop-number
invariant-loop-number l = record {
  regions : l.told.regions.made ++ drop l.number l.names.regions.made ≡ l.names.regions.made;
  kinds : l.told.kinds ++ told_kinds l.memory l.number (drop l.number l.names.kinds) ≡ told_kinds l.memory 0 l.names.kinds;
  count : length l.told.regions.made ≡ l.number;
  others : l.told ≡ record l.fn.told { regions = l.told.regions; kinds = l.told.kinds };
}
