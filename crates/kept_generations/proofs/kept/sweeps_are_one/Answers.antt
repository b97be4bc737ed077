use Rattle.kept_generations.proofs.FoldLaws.{sweeps_fold}
use Rattle.kept_generations.proofs.kept.sweeps_are_one.Goals as goal

pub returns : goal.returns
returns c = sweeps_fold
