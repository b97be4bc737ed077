use Rattle.std.proofs.Common.{ap, ◌∙◌}
use Rattle.std.specs.Arc.{arc_value}
use Rattle.mem_base.specs.declared.map.forests.Node.{Node}
use Rattle.mem_base.specs.map.Kinds.{is_iommu}
use Rattle.mem_base.specs.map.Chunks.{any_iommu}
use Rattle.mem_base.proofs.ChunkLaws.{any_flat}
use Rattle.mem_base.proofs.map.forests.Nodes.has_iommu.Goals as goal

pub returns : goal.returns
returns c =
    c.any_chunk_has_iommu.ensures ∙ any_flat arc_value (λ (n : Node). is_iommu n.kind) c.chunks.result.now ∙ ap any_iommu c.chunks.ensures.value
