use Rattle.std.proofs.Common.{rules, ◌≡◌, ◌<◌, ◌/◌, ◌%◌, Some, length, get_or, sym, ap, subst, ◌∙◌}
use Rattle.std.specs.Arc.{arc_value}
use Rattle.mem_base.specs.declared.map.forests.Node.{Node}
use Rattle.mem_base.proofs.ChunkLaws.{found_in_piece}
use Rattle.mem_base.proofs.map.chunks.node_near.Goals as goal

pub returns-then-node-region : goal.returns-then-node-region
returns-then-node-region c =
    let chunks = c.args.chunks.now in
    let i = c.args.region.0 / 64 in
    let j = c.args.region.0 % 64 in
    let k = c.index-chunks-at.result in
    let node : Node = c.index-nodes-place.result in
    let nodes = c.as_slice-nodes.result.now in
    let piece : nodes ≡ arc_value (get_or chunks i k) = c.as_slice-nodes.ensures.value ∙ c.deref.ensures ∙ ap arc_value c.index-chunks-at.is in
    let read : node ≡ get_or (arc_value (get_or chunks i k)) j node = c.index-nodes-place.is ∙ ap (λ ns. get_or ns j node) piece in
    let within : j < length (arc_value (get_or chunks i k)) = subst (λ ns. j < length ns) piece (search rules) in
    found_in_piece arc_value c.args.region chunks i j k node (search rules) within c.requires (ap (λ (n : Node). n.id.0) (sym read) ∙ c.if-node-region.true)
    ∙ ap Some (sym read)
