use Rattle.std.proofs.Common.{rules, ◌≡◌, false, ◌∙◌}
use Rattle.std.specs.Arc.{arc_value}
use Rattle.mem_base.specs.map.Touched.{is_touched}
use Rattle.mem_base.specs.views.Flattened.{view_of}
use Rattle.touched_spaces.proofs.ViewedLaws.{view_stays}
use Rattle.transact.proofs.shown.atlas_of.Goals as goal

pub returns-clause-view : goal.returns-clause-view
returns-clause-view g c =
    let same : arc_value c.in_ok-try_clone.field-0 ≡ view_of c.args.current.now.forest c.args.space = search rules in
    let calm : is_touched c.args.current.now.forest c.args.tree.now c.args.space ≡ false = search rules in
    same ∙ view_stays c.args.current.now.forest c.args.tree.now c.args.space c.knows_forest.ensures c.requires.made calm
