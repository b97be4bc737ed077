use Rattle.bounded_write.proofs.RunLaws.{looked_direct}
use Rattle.bounded_write.proofs.chunks.direct_at.Goals as goal

pub returns : goal.returns
returns c = looked_direct c.generation.result.now c.args.pass.now c.args.start c.args.len c.memory_at.result c.generation.ensures c.memory_at.ensures
