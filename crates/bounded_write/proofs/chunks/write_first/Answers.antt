use Rattle.std.proofs.Common.{true, ◌<◌, ◌≤◌, sym, subst, ◌∙◌}
use Rattle.mem_base.specs.access.Windows.{window_start}
use Rattle.bounded_write.proofs.RunLaws.{first_chunk_is, first_memory, first_size}
use Rattle.bounded_write.proofs.chunks.write_first.Goals as goal

pub write_memory-part-requires-clause-chunk : goal.write_memory-part-requires-clause-chunk
write_memory-part-requires-clause-chunk c =
    let q = c.in-Some.ensures in
    first_chunk_is c.args.pass.now (window_start c.args.space c.args.addr true) c.args.bytes.now c.in-Some.count q.0 q.1 q.2

pub write_memory-part-requires-clause-memory : goal.write_memory-part-requires-clause-memory
write_memory-part-requires-clause-memory c =
    let q = c.in-Some.ensures in
    first_memory c.args.pass.now (window_start c.args.space c.args.addr true) c.args.bytes.now c.in-Some.count q.0 q.1 q.2 c.in-Some.memory q.3

pub returns-in-Some-clause-most : goal.returns-in-Some-clause-most
returns-in-Some-clause-most c =
    let q = c.in-Some.ensures in
    let size = first_size c.args.pass.now (window_start c.args.space c.args.addr true) c.args.bytes.now c.in-Some.count q.0 q.1 q.2 in
    subst (λ n. c.write_memory-part.result.count ≤ n) size c.write_memory-part.ensures.most

pub returns-in-Some-clause-whole : goal.returns-in-Some-clause-whole
returns-in-Some-clause-whole c =
    let q = c.in-Some.ensures in
    let size = first_size c.args.pass.now (window_start c.args.space c.args.addr true) c.args.bytes.now c.in-Some.count q.0 q.1 q.2 in
    λ all. c.write_memory-part.ensures.whole (all ∙ sym size)

pub returns-in-Some-clause-stopped : goal.returns-in-Some-clause-stopped
returns-in-Some-clause-stopped c =
    let q = c.in-Some.ensures in
    let size = first_size c.args.pass.now (window_start c.args.space c.args.addr true) c.args.bytes.now c.in-Some.count q.0 q.1 q.2 in
    λ less. c.write_memory-part.ensures.stopped (subst (λ n. c.write_memory-part.result.count < n) (sym size) less)

pub returns-in-None-clause-most : goal.returns-in-None-clause-most
returns-in-None-clause-most c =
    let e = c.chunk_at-len.ensures in
    let size = first_size c.args.pass.now (window_start c.args.space c.args.addr true) c.args.bytes.now c.chunk_at-len.result e.len e.some e.most in
    subst (λ n. c.write_other-part.result.count ≤ n) size c.write_other-part.ensures.most

pub returns-in-None-clause-whole : goal.returns-in-None-clause-whole
returns-in-None-clause-whole c =
    let e = c.chunk_at-len.ensures in
    let size = first_size c.args.pass.now (window_start c.args.space c.args.addr true) c.args.bytes.now c.chunk_at-len.result e.len e.some e.most in
    λ all. c.write_other-part.ensures.whole (all ∙ sym size)

pub returns-in-None-clause-stopped : goal.returns-in-None-clause-stopped
returns-in-None-clause-stopped c =
    let e = c.chunk_at-len.ensures in
    let size = first_size c.args.pass.now (window_start c.args.space c.args.addr true) c.args.bytes.now c.chunk_at-len.result e.len e.some e.most in
    λ less. c.write_other-part.ensures.stopped (subst (λ n. c.write_other-part.result.count < n) (sym size) less)
