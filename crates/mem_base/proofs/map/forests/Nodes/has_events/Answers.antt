use Rattle.std.proofs.Common.{ap, ◌∙◌, length, nat_lt}
use Rattle.std.specs.Arc.{arc_value}
use Rattle.mem_base.specs.declared.map.forests.Node.{Node}
use Rattle.mem_base.specs.map.Chunks.{any_events}
use Rattle.mem_base.proofs.ChunkLaws.{any_flat}
use Rattle.mem_base.proofs.map.forests.Nodes.has_events.Goals as goal

pub returns : goal.returns
returns c =
    c.any_chunk_has_events.ensures ∙ any_flat arc_value (λ (n : Node). nat_lt 0 (length n.events)) c.chunks.result.now ∙ ap any_events c.chunks.ensures.value
