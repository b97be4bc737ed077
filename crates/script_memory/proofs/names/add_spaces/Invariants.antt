use Rattle.std.proofs.Common.{◌≡◌, ◌++◌, drop, length}
use Rattle.script_memory.proofs.names.add_spaces.Given as goal

abbrev pub invariant-loop-number : goal.invariant-loop-number
invariant-loop-number l = record {
  spaces : l.told.spaces.made ++ drop l.number l.names.spaces.made ≡ l.names.spaces.made;
  count : length l.told.spaces.made ≡ l.number;
  others : l.told ≡ record l.fn.told { spaces = l.told.spaces };
}
