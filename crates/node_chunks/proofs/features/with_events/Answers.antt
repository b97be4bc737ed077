use Rattle.std.proofs.Common.{◌≡◌, ◌++◌, take, get_or, sym, ap, ◌∙◌}
use Rattle.std.specs.Prelude.{flat_map}
use Rattle.std.specs.Arc.{arc_value}
use Rattle.node_chunks.proofs.FeatureLaws.{noted, noted_more}
use Rattle.node_chunks.proofs.features.with_events.Goals as goal

pub loop-chunk-preserved : goal.loop-chunk-preserved
loop-chunk-preserved c =
    let chunks = c.chunks-chunks.result.now in
    let i = c.loop-chunk.chunk-index in
    let k = c.chunk-item.result in
    let piece : noted c.deref.result.now ≡ noted (arc_value (get_or chunks i k)) = ap noted (c.deref.ensures ∙ ap arc_value c.chunk-item.is) in
    c.in_ok-push_of_chunk.ensures
    ∙ ap (λ l. l ++ noted c.deref.result.now) c.loop-chunk.invariant
    ∙ ap (λ l. noted (flat_map arc_value (take i chunks)) ++ l) piece
    ∙ sym (noted_more arc_value chunks i k c.loop-chunk-test.true)
