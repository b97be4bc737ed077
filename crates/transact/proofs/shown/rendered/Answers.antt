use Rattle.std.proofs.Common.{rules, ◌≡◌, ◌∙◌}
use Rattle.std.specs.Arc.{arc_value}
use Rattle.touched_spaces.proofs.ViewedLaws.{view_is}
use Rattle.transact.proofs.shown.rendered.Goals as goal

pub returns-in-Ok-clause-view : goal.returns-in-Ok-clause-view
returns-in-Ok-clause-view g c =
    let same : arc_value c.in_ok-new-in-Ok.field-0 ≡ c.in_ok-view.view = search rules in
    same ∙ view_is c.args.tree.now c.args.space c.in_ok-view.view c.requires.made c.in_ok-view.ensures.view
