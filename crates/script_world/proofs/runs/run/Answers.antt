use Rattle.std.proofs.Common.{◌≤◌, sym, subst}
use Rattle.mem_base.specs.declared.script.places.Section.TheVariants.{Start}
use Rattle.run_laws.proofs.FittingLaws.{pool_fits, sound_fits}
use Rattle.script_world.proofs.runs.run.Goals as goal
use Rattle.mem_base.specs.map.Limits.{most_words}

pub new-requires-clause-words : goal.new-requires-clause-words
new-requires-clause-words g c =
    subst (λ n. n ≤ most_words) (sym c.pool_words.ensures) (pool_fits c.args.script.now (sound_fits Start c.args.script.now c.knows_sound.ensures))
