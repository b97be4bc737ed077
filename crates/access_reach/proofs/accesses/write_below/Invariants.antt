use Rattle.std.proofs.Common.{◌≤◌, ◌+◌, ◌-◌, [], true}
use Rattle.std.specs.Prelude.{flat_map}
use Rattle.mem_base.specs.access.Trails.{chunks}
use Rattle.mem_base.specs.access.AccessSteps.{writing}
use Rattle.access_reach.specs.Asking.{outcome}
use Rattle.access_reach.specs.Reaching.{AllTaken, IsUnderway, in_chunk, plan_below}
use Rattle.access_reach.proofs.accesses.write_below.Given as goal

abbrev pub invariant-loop-done : goal.invariant-loop-done
invariant-loop-done g l =
    let f = (g.B.Bus.shows l.initial.bus).forest in
    let t = writing l.bytes in (l.done ≤ l.below) × IsUnderway g.B.Bus.asks l.initial.bus (plan_below g.B.Taking.host f l.space l.addr t l.below)
    (flat_map (in_chunk g.B.Taking.host f l.space l.addr t) (chunks f true l.space (l.addr + l.done) (l.below - l.done))) (outcome [] l.result) l.bus
    × AllTaken g.B.Taking.takes l.bus (flat_map (in_chunk g.B.Taking.host f l.space l.addr t) (chunks f true l.space (l.addr + l.done) (l.below - l.done)))

abbrev pub decreases-loop-done : goal.decreases-loop-done
decreases-loop-done g l = l.below - l.done
