use Rattle.std.proofs.Common.{◌≤◌, ◌+◌, ◌-◌}
use Rattle.std.specs.Prelude.{flat_map}
use Rattle.mem_base.specs.access.Trails.{chunks}
use Rattle.access_plan.specs.HostPlans.{chunks_with_host}
use Rattle.access_plan.specs.Lists.{IsUnderway, moved}
use Rattle.access_plan.proofs.ChunkLists.{chunk_in}
use Rattle.access_plan.proofs.accesses.chunks.Given as goal

abbrev pub invariant-loop-done : goal.invariant-loop-done
invariant-loop-done l =
    let f = l.g.forest in
    let t = moved l.write l.bytes in
    (l.done ≤ l.len) × IsUnderway t l.initial.list.items l.list.items (chunks_with_host f l.write l.space l.addr l.len t)
    (flat_map (chunk_in f l.write l.space l.addr t) (chunks f l.write l.space (l.addr + l.done) (l.len - l.done))) 0 l.done

abbrev pub decreases-loop-done : goal.decreases-loop-done
decreases-loop-done l = l.len - l.done
