use Rattle.std.proofs.Common.{refl, subst}
use Rattle.race_block.specs.Resolving.{StandsFor}
use Rattle.race_block.proofs.ResolvingLaws.{is_of_pass, task_fits}
use Rattle.race_block.proofs.resolving.block_line.Goals as goal

pub pass_task-requires : goal.pass_task-requires
pass_task-requires c =
    is_of_pass c.args.known.now c.args.own.now.line.now.1 c.in_ok-task.task c.requires.fits.1 c.requires.fits.0 c.in_ok-task.ensures

pub returns-clause-is : goal.returns-clause-is
returns-clause-is c = (refl, subst (StandsFor c.pass_task.result) c.in_ok-task.ensures.is c.pass_task.ensures)

pub returns-clause-fits : goal.returns-clause-fits
returns-clause-fits c =
    task_fits c.args.known.now c.args.own.now.line.now.1 c.pass_task.result c.requires.fits.1 c.requires.fits.0
    (subst (StandsFor c.pass_task.result) c.in_ok-task.ensures.is c.pass_task.ensures)
