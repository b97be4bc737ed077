use Rattle.std.proofs.Common.{sym, refl, ◌∙◌}
use Rattle.iommu.proofs.WayLaws.{way_none, way_leaf, way_last}
use Rattle.iommu.proofs.HopLaws.{translates_there}
use Rattle.iommu.proofs.hops.last.Goals as goal

pub returns-in_default-clause-route : goal.returns-in_default-clause-route
returns-in_default-clause-route g c = λ w.
    way_none c.args.g.now.forest w 0 c.args.space c.args.addr c.search-found.result.1 c.args.len c.search-found.ensures.stretch
    (sym c.search-found.ensures.spot ∙ c.in_default.is)

pub returns-in-Some-table-clause-route : goal.returns-in-Some-table-clause-route
returns-in-Some-table-clause-route g c = λ w.
    way_last c.args.g.now.forest w c.args.space c.args.addr c.search-found.result.1 c.args.len c.in-Some.spot c.search-found.ensures.stretch
    (sym c.search-found.ensures.spot ∙ c.in-Some.is) (translates_there _ c.in-Some-table.ensures.none.1)

pub returns-in-None-clause-route : goal.returns-in-None-clause-route
returns-in-None-clause-route g c = λ w.
    way_leaf c.args.g.now.forest w 0 c.args.space c.args.addr c.search-found.result.1 c.args.len c.in-Some.spot c.search-found.ensures.stretch
    (sym c.search-found.ensures.spot ∙ c.in-Some.is) (c.in-None.ensures.none.0 refl)
