use Rattle.std.proofs.Common.{◌≤◌, sym, subst}
use Rattle.mem_base.specs.declared.script.places.Section.TheVariants.{Start}
use Rattle.run_laws.proofs.FittingLaws.{pool_fits, sound_fits}
use Rattle.top_call.proofs.machines.pool_of_script.Goals as goal
use Rattle.mem_base.specs.map.Limits.{most_words}

pub returns-clause-small : goal.returns-clause-small
returns-clause-small g =
    subst (λ n. n ≤ most_words) (sym g.pool_words.ensures) (pool_fits g.args.script.now (sound_fits Start g.args.script.now g.knows_sound.ensures))
