use Rattle.access_base.proofs.TrailLaws.{chunk_inside}
use Rattle.access_base.proofs.chunks.first_chunk.Goals as goal

pub returns-clause-run : goal.returns-clause-run
returns-clause-run c =
    chunk_inside c.args.g.now.forest c.knows_forest.ensures c.args.write c.args.space c.args.addr c.args.len c.counted-target.result.1 c.counted-target.result.0
    c.counted-target.ensures.target c.counted-target.ensures.len c.counted-target.ensures.some
