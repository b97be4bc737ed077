use Rattle.std.proofs.Common.{List}
use Rattle.mem_base.specs.declared.map.translations.Entry.{Entry}
use Rattle.iommu.proofs.RouteLaws.{IsOnTheWay, AreProbesOf}
use Rattle.iommu.proofs.ends.end_of_route.Given as goal

-- some translations were used so far, and this way is left
abbrev pub invariant-loop : goal.invariant-loop
invariant-loop g l =
    ((used : List Entry) × IsOnTheWay l.fn.g.forest l.fn.write l.fn.space l.fn.addr l.fn.len used l.counter l.here l.from l.count)
    × AreProbesOf l.fn.g.forest l.counter l.fn.steps l.steps
