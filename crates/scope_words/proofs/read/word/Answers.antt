use Rattle.std.proofs.Common.{◌∙◌}
use Rattle.clap.specs.Words.{found_of}
use Rattle.clap.proofs.WalkLemmas.{first_value-rows}
use Rattle.scope_words.proofs.Viewed.{there, there_not}
use Rattle.scope_words.proofs.read.word.Goals as goal

pub returns-in-Some : goal.returns-in-Some
returns-in-Some c = there (λ s. s.now) c.get_str.result c.in-Some.word _ (c.get_str.ensures ∙ first_value-rows (found_of c.args.matches.now) c.args.id.now)
    c.in-Some.is

pub returns-in-None : goal.returns-in-None
returns-in-None c = there_not (λ s. s.now) c.get_str.result _ (c.get_str.ensures ∙ first_value-rows (found_of c.args.matches.now) c.args.id.now) c.in-None.is
