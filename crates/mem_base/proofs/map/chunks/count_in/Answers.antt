use Rattle.std.proofs.Common.{◌≡◌, ◌≤◌, length, take, get_or, sym, ap, ◌∙◌, arith}
use Rattle.std.specs.Prelude.{flat_map}
use Rattle.std.specs.Arc.{arc_value}
use Rattle.mem_base.specs.map.Chunks.{first_id}
use Rattle.mem_base.proofs.ChunkLaws.{count_before}
use Rattle.mem_base.proofs.map.chunks.count_in.Goals as goal

pub prove-unreachable-requires : goal.prove-unreachable-requires
prove-unreachable-requires c =
    let chunks = c.args.chunks.now in
    let i = c.loop-chunk.chunk-index in
    let k = c.chunk-item.result in
    let few : length (flat_map arc_value (take i chunks)) ≤ first_id (arc_value (get_or chunks i k)) =
    count_before arc_value chunks i k c.loop-chunk-test.true c.requires.filled c.requires.ascending in
    let first : first_id (arc_value (get_or chunks i k)) ≡ c.first-first.result.0 =
    ap (λ a. first_id (arc_value a)) (sym c.chunk-item.is) ∙ ap first_id (sym c.deref.ensures) ∙ sym c.first-first.ensures in
    let counted = c.loop-chunk.invariant in
    let above = c.if-prove.true in
    absurd (omega arith)
