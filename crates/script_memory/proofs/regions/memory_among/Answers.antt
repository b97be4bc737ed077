use Rattle.std.proofs.Common.{◌+◌, drop}
use Rattle.script_memory.proofs.RegionLaws.{line_next}
use Rattle.script_memory.proofs.regions.memory_among.Goals as goal

pub loop-number-preserved : goal.loop-number-preserved
loop-number-preserved c =
    line_next c.args.commented.now c.args.refused.now c.args.lines.now c.loop-number.number-index c.loop-number-item.result c.loop-number.count
    _ c.loop-number.found.items c.take_line.new.found.items _ c.loop-number-test.true c.loop-number-item.is
    (c.in_ok-count.ensures (drop (c.loop-number.number-index + 1) c.args.lines.now)) c.loop-number.invariant
