use Rattle.bounded_write.proofs.RunLaws.{looked_chunk}
use Rattle.bounded_write.proofs.chunks.chunk_at.Goals as goal

pub returns-clause-len : goal.returns-clause-len
returns-clause-len c =
    looked_chunk c.generation.result.now c.args.pass.now c.args.space c.args.addr c.args.len c.first_chunk-count.result.1 c.generation.ensures
    c.first_chunk-count.ensures.len
