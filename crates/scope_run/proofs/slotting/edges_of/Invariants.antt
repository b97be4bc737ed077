use Rattle.std.proofs.Common.{take}
use Rattle.script_map.specs.Left.{all_shown}
use Rattle.scope_run.specs.Tables.{HasEdges}
use Rattle.scope_run.proofs.slotting.edges_of.Given as goal

abbrev pub invariant-loop-generation : goal.invariant-loop-generation
invariant-loop-generation l = HasEdges l.edges l.space (all_shown (take l.generation-index l.published))
