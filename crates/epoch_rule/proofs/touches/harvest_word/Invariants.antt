use Rattle.epoch_rule.proofs.Common.{actor_of, touch_at}
use Rattle.epoch_rule.proofs.touches.harvest_word.Given as goal

abbrev pub ghosts-take_as : goal.ghosts-take_as
ghosts-take_as g a = record { actor = actor_of a.event; event = a.event; place = a.place.now; touch = touch_at a.event a.place.now }
