use Rattle.std.proofs.Common.{take}
use Rattle.scope_run.specs.Diffs.{TellsFirst}
use Rattle.scope_run.proofs.Parts.{Grown}
use Rattle.scope_run.proofs.differing.add_firsts.Given as goal

abbrev pub invariant-loop-number : goal.invariant-loop-number
invariant-loop-number l = Grown (TellsFirst l.first.state l.second.state) (take l.number l.first.state.names.spaces) l.fn.text l.text
