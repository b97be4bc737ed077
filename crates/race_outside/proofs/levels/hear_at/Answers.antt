use Rattle.std.proofs.Common.{refl}
use Rattle.race_levels.proofs.LevelLists.{same_list}
use Rattle.race_outside.proofs.levels.hear_at.Goals as goal

pub returns-clause-same : goal.returns-clause-same
returns-clause-same c = same_list c.args.cpus.now c.args.cpus.now c.args.at _ c.hear_one.new.cpu refl c.hear_one.ensures.same
