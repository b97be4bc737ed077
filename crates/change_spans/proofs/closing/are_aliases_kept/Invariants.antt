use Rattle.std.proofs.Common.{take}
use Rattle.std.specs.Prelude.{IfSome}
use Rattle.mem_base.specs.lists.Every.{Every}
use Rattle.mem_base.specs.map.Region.{node_of}
use Rattle.change_spans.specs.Reaches.{HasThrough}
use Rattle.change_spans.proofs.closing.are_aliases_kept.Given as goal

abbrev pub invariant-loop-alias : goal.invariant-loop-alias
invariant-loop-alias l = Every (λ r. IfSome (node_of l.after.nodes r) (HasThrough l.spans)) (take l.alias-index l.aliases)
