use Rattle.place_words.proofs.UnfilledLaws.{all_left, all_count}
use Rattle.place_words.proofs.unfilled.Unfilled.begin.Goals as goal

pub invariant_of-self : goal.invariant_of-self
invariant_of-self c = all_count c.args.place.now.region c.args.place.now.words c.raise.new.flags.items c.raise.ensures

pub returns : goal.returns
returns c = all_left c.args.place.now.region c.args.place.now.words c.raise.new.flags.items c.raise.ensures
