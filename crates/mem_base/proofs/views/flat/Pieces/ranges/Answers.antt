use Rattle.std.proofs.Common.{◌∙◌, sym, ap}
use Rattle.mem_base.specs.views.Slices.{ranges_of}
use Rattle.mem_base.proofs.SliceLaws.{ranges_of-slices_of}
use Rattle.mem_base.proofs.views.flat.Pieces.ranges.Goals as goal

pub returns-clause-value : goal.returns-clause-value
returns-clause-value c =
    c.as_slice.ensures.value
    ∙ sym (ranges_of-slices_of c.self.inside.ranges.items c.self.inside.paths c.self.invariant.1)
    ∙ ap ranges_of c.self.view_is
