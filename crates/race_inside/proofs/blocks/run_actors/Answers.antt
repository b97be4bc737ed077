use Rattle.std.proofs.Common.{List, sym, subst, ◌∙◌}
use Rattle.std.proofs.lemmas.List.{with_items_is}
use Rattle.race_block.specs.declared.blocks.BlockActor.{BlockActor}
use Rattle.race_seats.specs.Blocks.{HasRunAll}
use Rattle.race_seats.proofs.BlockLaws.{has_run_all}
use Rattle.race_inside.proofs.blocks.run_actors.Goals as goal

pub returns : goal.returns
returns g c =
    let e = c.run_block-after.ensures in
    let news = c.run_block-after.new.actors in
    subst (λ (xs : List BlockActor). HasRunAll c.args.first c.run_block-after.result.0 c.args.actors.now.items xs c.run_block-after.new.clerks.items
    c.run_block-after.result.1) (sym (with_items_is c.args.actors.now news (c.run_block-after.auto.actors ∙ c.as_mut_slice.ensures.len)))
    (has_run_all c.args.first c.run_block-after.result.0 c.args.actors.now.items c.as_mut_slice.result.now news c.run_block-after.new.clerks.items
    c.run_block-after.result.1 c.as_mut_slice.ensures.value e.later e.legal e.closes c.run_block-after.auto.actors e.count e.joined)
