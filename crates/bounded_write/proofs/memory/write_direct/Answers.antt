use Rattle.std.proofs.Common.{[]}
use Rattle.std.specs.Prelude.{take}
use Rattle.mem_base.specs.access.AccessSteps.{writing}
use Rattle.mem_base.specs.access.MemoryAccess.{marked, on_words}
use Rattle.io_window.proofs.WholeLaws.{does_then}
use Rattle.bounded_write.proofs.RunLaws.{held_up_before}
use Rattle.bounded_write.proofs.memory.write_direct.Goals as goal

pub returns-clause-done : goal.returns-clause-done
returns-clause-done c =
    let m = c.args.memory.now in
    does_then c.args.pass.now c.write_words-count.new.pass c.mark_memory.new.pass
    (on_words m.place.region m.offset (writing (take c.write_words-count.result c.args.bytes.now))) (marked m.place.region m.log m.offset c.write_words-count.result)
    [] [] c.write_words-count.ensures.done c.mark_memory.ensures

pub returns-clause-stopped : goal.returns-clause-stopped
returns-clause-stopped c =
    λ less. held_up_before c.args.pass.now c.write_words-count.new.pass c.mark_memory.new.pass _ _ c.args.tries c.write_words-count.ensures.done
    c.mark_memory.ensures (c.write_words-count.ensures.stopped less)
