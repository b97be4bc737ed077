use Rattle.std.proofs.Common.{sym, refl, suc, ◌∙◌}
use Rattle.iommu.proofs.WayLaws.{way_none, way_leaf}
use Rattle.iommu.proofs.HopLaws.{through_way, translates_there}
use Rattle.iommu.proofs.hops.hop_from.Goals as goal

pub returns-in_default-clause-route : goal.returns-in_default-clause-route
returns-in_default-clause-route g c = λ left.
    way_none c.args.g.now.forest c.args.write (suc left) c.args.space c.args.addr c.search-found.result.1 c.args.len c.search-found.ensures.stretch
    (sym c.search-found.ensures.spot ∙ c.in_default.is)

pub returns-in-Some-table-clause-route : goal.returns-in-Some-table-clause-route
returns-in-Some-table-clause-route g c =
    through_way c.args.g.now.forest c.args.write c.args.space c.args.addr c.search-found.result.1 c.args.len c.in-Some.spot c.in-Some-table.entries.now
    c.through.result c.search-found.ensures.stretch (sym c.search-found.ensures.spot ∙ c.in-Some.is) (translates_there _ c.in-Some-table.ensures.none.1)
    c.in-Some-table.ensures.some c.through.ensures

pub returns-in-None-clause-route : goal.returns-in-None-clause-route
returns-in-None-clause-route g c = λ left.
    way_leaf c.args.g.now.forest c.args.write (suc left) c.args.space c.args.addr c.search-found.result.1 c.args.len c.in-Some.spot
    c.search-found.ensures.stretch (sym c.search-found.ensures.spot ∙ c.in-Some.is) (c.in-None.ensures.none.0 refl)
