use Rattle.std.proofs.Common.{◌∙◌, ap, arith}
use Rattle.std.specs.Prelude.{List}
use Rattle.mem_base.specs.declared.views.flat.FlatRange.{FlatRange}
use Rattle.mem_base.specs.views.View.{shown}
use Rattle.iommu.proofs.StretchLaws.{view_shows}
use Rattle.access_plan.proofs.pages.look.Goals as goal

pub returns-in-Some : goal.returns-in-Some
returns-in-Some c =
    let addr = c.args.addr in
    let fits = c.ranges.addr.fits in
    let shows = view_shows c.args.g.now.forest c.args.space c.knows_forest.ensures in
    c.shown_at.ensures ∙ ap (λ (rs : List FlatRange). shown rs addr) c.in-Some.ensures.some ∙ shows.shows addr (omega arith) (omega (arith, fits))
