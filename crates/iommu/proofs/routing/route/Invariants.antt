use Rattle.iommu.proofs.RouteLaws.{IsOnTheWay, AreProbesOf}
use Rattle.iommu.proofs.routing.route.Given as goal

-- what was used so far, and the way that is left
abbrev pub invariant-loop : goal.invariant-loop
invariant-loop g l =
    IsOnTheWay l.fn.g.forest l.fn.write l.fn.space l.fn.addr l.fn.len l.used l.counter l.here l.from l.count
    × AreProbesOf l.fn.g.forest l.counter l.fn.steps l.steps
