use Rattle.epoch_rule.proofs.Common.{actor_of, touch_at}
use Rattle.epoch_rule.proofs.touches.look.Given as goal

abbrev pub ghosts-look_as : goal.ghosts-look_as
ghosts-look_as g a = record { actor = actor_of a.event; event = a.event; place = a.place.now; touch = touch_at a.event a.place.now }
