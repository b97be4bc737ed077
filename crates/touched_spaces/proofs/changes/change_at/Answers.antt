use Rattle.std.proofs.Common.{rules, ◌≡◌, false}
use Rattle.mem_base.specs.map.Touched.{is_touched}
use Rattle.touched_spaces.proofs.ViewedLaws.{view_stays}
use Rattle.touched_spaces.proofs.changes.change_at.Goals as goal

pub change_still-requires-clause-same : goal.change_still-requires-clause-same
change_still-requires-clause-same c =
    let calm : is_touched c.args.current.now.forest c.args.forest.now c.args.space ≡ false = search rules in
    view_stays c.args.current.now.forest c.args.forest.now c.args.space c.knows_forest.ensures c.requires.made calm
