use Rattle.std.proofs.Common.{◌∙◌}
use Rattle.std.specs.Arc.{arc_value}
use Rattle.transact.proofs.PlacedLaws.{kept_places}
use Rattle.transact.proofs.preparing.shown_places.Goals as goal

pub returns : goal.returns
returns c =
    c.in_ok-list.ensures
    ∙ kept_places arc_value c.args.forest.now c.args.atlases.now c.shows_events-notifies.result c.args.places.now c.requires.views c.shows_events-notifies.ensures
