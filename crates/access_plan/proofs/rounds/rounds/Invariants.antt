use Rattle.std.proofs.Common.{◌≤◌, ◌+◌, ◌-◌}
use Rattle.access_plan.specs.HostPlans.{core_answerer_with_host, rounds_by, rounds_with_host}
use Rattle.access_plan.specs.Lists.{IsUnderway, moved}
use Rattle.access_plan.proofs.rounds.rounds.Given as goal

abbrev pub invariant-loop-done : goal.invariant-loop-done
invariant-loop-done l =
    let f = l.g.forest in
    let t = moved l.write l.bytes in
    (l.done ≤ l.len) × IsUnderway t l.initial.list.items l.list.items (rounds_with_host f l.write l.space l.addr l.len t)
    (rounds_by (core_answerer_with_host f l.write) f l.write l.space l.addr t (l.addr + l.done) (l.len - l.done) 0) 0 l.done

abbrev pub decreases-loop-done : goal.decreases-loop-done
decreases-loop-done l = l.len - l.done
