use Rattle.bounded_write.proofs.RunLaws.{memory_run, memory_stopped, memory_whole}
use Rattle.bounded_write.proofs.chunks.write_memory.Goals as goal

pub returns-clause-whole : goal.returns-clause-whole
returns-clause-whole c =
    λ all. memory_whole c.args.pass.now c.write_direct-count.new.pass c.args.start.space c.args.start.addr c.args.bytes.now c.write_direct-count.result _ all
    (memory_run c.args.pass.now c.write_direct-count.new.pass c.args.start c.args.memory.now c.args.bytes.now c.write_direct-count.result c.args.tries
    c.requires.write c.requires.chunk c.requires.memory c.write_direct-count.ensures.most c.write_direct-count.ensures.done)

pub returns-clause-stopped : goal.returns-clause-stopped
returns-clause-stopped c =
    λ less. memory_stopped c.args.pass.now c.write_direct-count.new.pass c.args.start c.args.memory.now c.args.bytes.now c.write_direct-count.result
    c.args.tries c.requires.write c.requires.chunk c.requires.memory c.write_direct-count.ensures.most c.write_direct-count.ensures.done
    (c.write_direct-count.ensures.stopped less)
