use Rattle.std.proofs.Common.{sym, ◌∙◌}
use Rattle.access_run.proofs.PlaceLaws.{notifiers_at}
use Rattle.access_run.proofs.places.notifiers_of.Goals as goal

pub returns : goal.returns
returns c = notifiers_at c.args.g.now c.place_of.ensures.shown c.in-Some.place (sym c.place_of.ensures.value ∙ c.in-Some.is)
