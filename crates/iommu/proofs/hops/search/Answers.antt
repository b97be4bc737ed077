use Rattle.std.proofs.Common.{ap, ◌+◌}
use Rattle.iommu.proofs.StretchLaws.{is_found}
use Rattle.iommu.proofs.hops.search.Goals as goal

pub returns-clause-spot : goal.returns-clause-spot
returns-clause-spot g c =
    (is_found c.args.g.now.forest c.args.space c.args.addr _ c.args.limit c.in-Some.atlas.now c.run_at-spot.result.0 c.run_at-spot.result.1
    c.knows_forest.ensures
    c.in-Some.ensures.some c.run_at-spot.ensures.spot c.run_at-spot.ensures.last (ap (λ x. x + 1) c.min.ensures) c.requires.some c.requires.within).spot_is

pub returns-clause-stretch : goal.returns-clause-stretch
returns-clause-stretch g c =
    (is_found c.args.g.now.forest c.args.space c.args.addr _ c.args.limit c.in-Some.atlas.now c.run_at-spot.result.0 c.run_at-spot.result.1
    c.knows_forest.ensures
    c.in-Some.ensures.some c.run_at-spot.ensures.spot c.run_at-spot.ensures.last (ap (λ x. x + 1) c.min.ensures) c.requires.some c.requires.within).stretch

pub returns-clause-offsets : goal.returns-clause-offsets
returns-clause-offsets g c =
    (is_found c.args.g.now.forest c.args.space c.args.addr _ c.args.limit c.in-Some.atlas.now c.run_at-spot.result.0 c.run_at-spot.result.1
    c.knows_forest.ensures
    c.in-Some.ensures.some c.run_at-spot.ensures.spot c.run_at-spot.ensures.last (ap (λ x. x + 1) c.min.ensures) c.requires.some c.requires.within).offsets
