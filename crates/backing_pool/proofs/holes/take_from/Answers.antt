use Rattle.std.proofs.lemmas.Option.{slice_get_within}
use Rattle.backing_pool.proofs.EditLaws.{cut_is}
use Rattle.backing_pool.proofs.holes.take_from.Goals as goal

pub returns-else-length-words-clause-items : goal.returns-else-length-words-clause-items
returns-else-length-words-clause-items c =
    cut_is c.args.holes.now.items c.args.at c.args.words c.args.hole
    (slice_get_within c.args.holes.now.items c.args.at c.args.hole c.requires.hole) c.if-length-words.false
