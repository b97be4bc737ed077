use Rattle.std.proofs.Common.{◌∙◌, sym, ap}
use Rattle.std.specs.Prelude.{option_map}
use Rattle.std.specs.List.{slice_get}
use Rattle.mem_base.specs.declared.views.flat.Slice.{Slice}
use Rattle.mem_base.proofs.SliceLaws.{path_of_slice}
use Rattle.mem_base.proofs.views.flat.Pieces.path.Goals as goal

pub returns : goal.returns
returns c =
    c.get.ensures
    ∙ sym (path_of_slice c.self.inside.ranges.items c.self.inside.paths c.args.i c.self.invariant.1)
    ∙ ap (λ xs. option_map (λ (x : Slice). x.path) (slice_get xs c.args.i)) c.self.view_is
