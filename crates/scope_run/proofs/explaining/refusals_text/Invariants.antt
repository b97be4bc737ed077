use Rattle.std.proofs.Common.{[], take}
use Rattle.scope_run.specs.Explains.{TellsRefusal}
use Rattle.scope_run.proofs.Parts.{Grown}
use Rattle.scope_run.proofs.explaining.refusals_text.Given as goal

abbrev pub invariant-loop-one : goal.invariant-loop-one
invariant-loop-one l = Grown TellsRefusal (take l.one-index l.refused) [] l.text
