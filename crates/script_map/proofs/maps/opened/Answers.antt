use Rattle.std.proofs.Common.{◌≤◌, ◌∙◌, sym, subst}
use Rattle.mem_base.specs.declared.script.places.Section.TheVariants.{Start}
use Rattle.run_laws.proofs.FittingLaws.{pool_fits, sound_fits}
use Rattle.script_run.proofs.RunLaws.{starts_ready}
use Rattle.script_map.proofs.maps.opened.Goals as goal
use Rattle.mem_base.specs.map.Limits.{most_words}

pub new-requires-clause-words : goal.new-requires-clause-words
new-requires-clause-words c =
    subst (λ n. n ≤ most_words) (sym c.pool_words.ensures) (pool_fits c.args.script.now (sound_fits Start c.args.script.now c.knows_sound.ensures))

pub returns-clause-ready : goal.returns-clause-ready
returns-clause-ready c = starts_ready c.new-2.result c.pool_words.result c.new-2.ensures.known (c.new-2.ensures.world ∙ c.in_ok-machine.ensures)
