use Rattle.std.proofs.Common.{All, List, refl, subst, sym}
use Rattle.race_block.specs.declared.tasks.BlockLine.{BlockLine}
use Rattle.race_block.specs.Desks.{lines_meant}
use Rattle.race_block.specs.Lines.{FitsLine}
use Rattle.race_block.specs.Resolving.{AreFirstTasksOf, AreTasksOf}
use Rattle.race_block.proofs.ResolvingLaws.{none_run, runs_as}
use Rattle.race_block.proofs.passes.run_resolved.Goals as goal

pub run_tasks-requires-clause-fits : goal.run_tasks-requires-clause-fits
run_tasks-requires-clause-fits g c κs within =
    subst (λ room. All (FitsLine room) c.in-Ok.tasks.items) (sym c.requires.room) c.in-Ok.ensures.fits

pub returns-clause-run : goal.returns-clause-run
returns-clause-run g c =
    runs_as _ _ (AreTasksOf c.args.names.now (lines_meant c.args.lines.now)) (AreFirstTasksOf c.args.names.now c.args.lines.now) c.args.bounce
    c.args.clerk c.args.vcpu c.run_tasks.result
    (λ xs is. subst (λ (ys : List BlockLine). AreTasksOf c.args.names.now (lines_meant c.args.lines.now) ys) (sym is) c.in-Ok.ensures.tasks)
    (λ xs none. absurd none) c.run_tasks.ensures.run

pub returns-in_default-clause-run : goal.returns-in_default-clause-run
returns-in_default-clause-run g c =
    none_run c.args.names.now c.args.lines.now c.args.bounce c.args.clerk c.args.vcpu _ refl refl refl refl
