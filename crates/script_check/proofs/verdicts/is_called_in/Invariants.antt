use Rattle.std.proofs.Common.{◌≡◌, drop}
use Rattle.std.specs.List.{list_any}
use Rattle.script_check.specs.Verdicts.{is_called}
use Rattle.script_check.proofs.verdicts.is_called_in.Given as goal

abbrev pub invariant-loop-other : goal.invariant-loop-other
invariant-loop-other l = list_any (is_called l.name) (drop l.other-index l.told) ≡ list_any (is_called l.name) l.told
