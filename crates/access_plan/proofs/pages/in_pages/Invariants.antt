use Rattle.std.proofs.Common.{◌≡◌, ◌≤◌, ◌-◌}
use Rattle.mem_base.specs.map.Limits.{most_translations}
use Rattle.mem_base.specs.access.CorePlans.{in_pages}
use Rattle.mem_base.specs.access.Trails.{trail_of, trail_within}
use Rattle.access_plan.proofs.pages.in_pages.Given as goal

abbrev pub invariant-loop : goal.invariant-loop
invariant-loop l =
    (in_pages (trail_within l.g.forest l.write (most_translations - l.counter) l.here l.from).hops l.least
    ≡ in_pages (trail_of l.g.forest l.write l.initial.here l.initial.from).hops l.left)
    × (1 ≤ l.least) × (l.least ≤ l.left)
