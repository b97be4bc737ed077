use Rattle.kept_generations.proofs.FoldLaws.{sweeps_run}
use Rattle.kept_generations.proofs.kept.sweeps_are_run.Goals as goal

pub returns : goal.returns
returns c = sweeps_run
