use Rattle.race_block.proofs.ResolvingLaws.{tasks_run}
use Rattle.race_block.proofs.TextLaws.{text_same}
use Rattle.race_block.proofs.passes.run_tasks.Goals as goal

pub returns-clause-run : goal.returns-clause-run
returns-clause-run g c =
    tasks_run c.args.tasks.items c.args.bounce c.args.clerk c.args.vcpu c.run_lines-actor.result c.text_of.result c.run_lines-actor.ensures.run
    (text_same _ _ _ _ _ _ c.text_of.result c.id-pass.ensures c.tasks_in.ensures c.as_slice.ensures.value c.text_of.ensures)
