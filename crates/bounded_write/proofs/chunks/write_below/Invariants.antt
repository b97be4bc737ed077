use Rattle.std.proofs.Common.{◌-◌, ◌≤◌, length, take, []}
use Rattle.mem_base.specs.access.AccessSteps.{writing}
use Rattle.vcpu_pass.specs.Steps.{generation_in}
use Rattle.io_window.specs.Whole.{HasRun}
use Rattle.bounded_write.proofs.CutLaws.{IsCutAt}
use Rattle.bounded_write.proofs.chunks.write_below.Given as goal

abbrev pub invariant-loop-count : goal.invariant-loop-count
invariant-loop-count l = (l.count ≤ length l.bytes) × HasRun l.fn.pass l.space l.addr (writing (take l.count l.bytes)) l.result [] l.pass
    × IsCutAt (generation_in l.fn.pass).forest l.space l.addr l.bytes l.count

abbrev pub decreases-loop-count : goal.decreases-loop-count
decreases-loop-count l = length l.bytes - l.count
