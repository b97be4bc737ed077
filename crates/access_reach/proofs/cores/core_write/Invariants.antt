use Rattle.std.proofs.Common.{◌≤◌, ◌+◌, ◌-◌, [], length, true}
use Rattle.mem_base.specs.access.AccessSteps.{writing}
use Rattle.access_plan.specs.HostPlans.{core_answerer_with_host, rounds_by, rounds_with_host}
use Rattle.access_reach.specs.Asking.{outcome}
use Rattle.access_reach.specs.Reaching.{IsUnderway}
use Rattle.access_reach.proofs.cores.core_write.Given as goal

abbrev pub invariant-loop-done : goal.invariant-loop-done
invariant-loop-done g l =
    let f = (g.B.Bus.shows l.initial.bus).forest in
    let n = length l.bytes in
    (l.done ≤ n) × IsUnderway g.B.Bus.asks l.initial.bus (rounds_with_host f true l.space l.addr n (writing l.bytes))
    (rounds_by (core_answerer_with_host f true) f true l.space l.addr (writing l.bytes) (l.addr + l.done) (n - l.done) 0) (outcome [] l.result) l.bus

abbrev pub decreases-loop-done : goal.decreases-loop-done
decreases-loop-done g l = length l.bytes - l.done
