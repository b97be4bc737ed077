use Rattle.std.proofs.Common.{ap, ◌∙◌, List}
use Rattle.mem_base.specs.declared.views.flat.FlatRange.{FlatRange}
use Rattle.mem_base.specs.views.View.{shown}
use Rattle.race_lines.proofs.ShownLaws.{shown_look}
use Rattle.race_lines.proofs.shown.found_in.Goals as goal

pub returns-in-Some : goal.returns-in-Some
returns-in-Some g c =
    c.at.ensures.value ∙ ap (λ (rs : List FlatRange). shown rs c.args.addr) c.in-Some.ensures.some
    ∙ shown_look c.args.generation.now.forest c.args.space c.args.addr c.ranges.addr.fits c.knows_forest.ensures
