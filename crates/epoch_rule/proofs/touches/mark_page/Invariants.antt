use Rattle.epoch_rule.proofs.Common.{actor_of, touch_at}
use Rattle.epoch_rule.proofs.touches.mark_page.Given as goal

abbrev pub ghosts-or_as : goal.ghosts-or_as
ghosts-or_as g a = record { actor = actor_of a.event; event = a.event; place = a.place.now; touch = touch_at a.event a.place.now }
