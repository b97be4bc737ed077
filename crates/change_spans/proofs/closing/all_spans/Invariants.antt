use Rattle.std.proofs.Common.{take}
use Rattle.mem_base.specs.lists.Every.{Every}
use Rattle.change_spans.specs.Reaches.{KeepsSpan}
use Rattle.change_spans.proofs.closing.all_spans.Given as goal

abbrev pub invariant-loop-one : goal.invariant-loop-one
invariant-loop-one l = Every (λ x. KeepsSpan l.after.nodes l.spans x.region) (take l.one-index l.spans)
