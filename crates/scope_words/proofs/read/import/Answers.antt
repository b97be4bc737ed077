use Rattle.std.proofs.Common.{codes, refl, ◌∙◌}
use Rattle.clap.specs.Words.{found_of}
use Rattle.clap.proofs.WalkLemmas.{first_value-rows}
use Rattle.scope_words.proofs.read.import.Goals as goal

pub returns : goal.returns
returns c = (
  refl,
  c.word.ensures,
  c.get_str.ensures ∙ first_value-rows (found_of c.args.matches.now) (codes "FLAT"),
  c.get_str-2.ensures ∙ first_value-rows (found_of c.args.matches.now) (codes "space"),
)
